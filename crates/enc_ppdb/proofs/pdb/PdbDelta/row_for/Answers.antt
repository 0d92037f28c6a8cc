use Rattle.std.proofs.Common.{◌∙◌, Some, ap, sym, arith}
use Rattle.enc_base.specs.Token.{is_token}
use Rattle.enc_ppdb.proofs.Rows.{row_other, row_missing, row_found, few_rows}
use Rattle.enc_ppdb.proofs.pdb.PdbDelta.row_for.Goals as goal

pub returns-then-method-ne-METHOD_DEF : goal.returns-then-method-ne-METHOD_DEF
returns-then-method-ne-METHOD_DEF c = row_other c.args.self.now c.args.method c.if-method-ne-METHOD_DEF.true

pub returns-in_err-k : goal.returns-in_err-k
returns-in_err-k c = rw (← c.self.view_is) (c.from_residual.ensures ∙ row_missing c.self.inside.file c.args.method c.self.inside.named c.if-method-ne-METHOD_DEF.false c.self.invariant.named (sym c.in_err-k.was ∙ c.place.ensures))

pub overflow_cast-k : goal.overflow_cast-k
overflow_cast-k c = let h = few_rows c.self.inside.named (is_token (record { table = 49; row = c.args.method.row })) c.in_ok-k.k c.self.invariant.few (sym c.in_ok-k.was ∙ c.place.ensures) in omega (arith, h)

pub nth_row-requires : goal.nth_row-requires
nth_row-requires c = let h = few_rows c.self.inside.named (is_token (record { table = 49; row = c.args.method.row })) c.in_ok-k.k c.self.invariant.few (sym c.in_ok-k.was ∙ c.place.ensures) in omega (arith, h)

pub returns : goal.returns
returns c = rw (← c.self.view_is) (ap Some c.nth_row.ensures ∙ row_found c.self.inside.file c.args.method c.self.inside.named c.in_ok-k.k c.if-method-ne-METHOD_DEF.false c.self.invariant.named (sym c.in_ok-k.was ∙ c.place.ensures))
