use Rattle.std.proofs.Common.{◌<◌, ◌≤◌, ◌∙◌, length, ap, sym, arith}
use Rattle.enc_rows.specs.Layout.{rows_of}
use Rattle.enc_base.specs.Tables as tables
use Rattle.enc_ppdb.specs.Seen.{is_past_end}
use Rattle.enc_ppdb.proofs.RowsBroken.{row_behind, row_stray, row_placed, ends_length, read_at, token_at}
use Rattle.enc_ppdb.proofs.Rows.{as_many}
use Rattle.enc_ppdb.proofs.pdb.PdbDelta.misplaced_row.Goals as goal

pub index-requires : goal.index-requires
index-requires c =
    let s = c.self.inside.file in
    let there = rw (← c.self.view_is) at c.requires.there in
    let rows = as_many s c.self.invariant.good.fits in
    let ends = ap length c.self.invariant.ended ∙ ends_length s (rows_of s.layout tables.method_debug_information) in
    omega (arith, there, rows, ends, c.self.inside.ends.ok)

pub returns-then-from-bound : goal.returns-then-from-bound
returns-then-from-bound c =
    let s = c.self.inside.file in
    let bound = rw (← c.self.view_is) at c.requires.bound in
    rw (← c.self.view_is) (sym (row_behind s c.args.sizes.now c.args.k c.args.bound c.token-token.result (token_at s c.self.inside.named c.args.k c.token-token.result c.self.invariant.named c.token-token.ensures) bound (omega (arith, c.from.ensures, c.if-from-bound.true))))

pub returns-then-is_past_end : goal.returns-then-is_past_end
returns-then-is_past_end c =
    let s = c.self.inside.file in
    let rows = rows_of s.layout tables.method_debug_information in
    let there = rw (← c.self.view_is) at c.requires.there in
    let within : c.args.k < rows = omega (arith, there, as_many s c.self.invariant.good.fits) in
    rw (← c.self.view_is) (sym (row_stray s c.args.sizes.now rows c.args.k c.index.result.now c.token-token.result (token_at s c.self.inside.named c.args.k c.token-token.result c.self.invariant.named c.token-token.ensures) within (read_at s rows c.args.k c.index.result.now c.self.inside.ends.items within c.self.invariant.ended c.index.ensures) (sym (ap (λ o. is_past_end o c.index.result.now) c.size_for.ensures) ∙ sym c.is_past_end.ensures ∙ c.if-is_past_end.true)))

pub returns : goal.returns
returns c =
    let s = c.self.inside.file in
    let rows = rows_of s.layout tables.method_debug_information in
    let there = rw (← c.self.view_is) at c.requires.there in
    let bound = rw (← c.self.view_is) at c.requires.bound in
    let within : c.args.k < rows = omega (arith, there, as_many s c.self.invariant.good.fits) in
    let past : c.args.bound ≤ c.token-token.result.row = omega (arith, c.from.ensures, c.if-from-bound.false) in
    rw (← c.self.view_is) (sym (row_placed s c.args.sizes.now rows c.args.k c.index.result.now c.args.bound c.token-token.result (token_at s c.self.inside.named c.args.k c.token-token.result c.self.invariant.named c.token-token.ensures) within (read_at s rows c.args.k c.index.result.now c.self.inside.ends.items within c.self.invariant.ended c.index.ensures) bound past (sym (ap (λ o. is_past_end o c.index.result.now) c.size_for.ensures) ∙ sym c.is_past_end.ensures ∙ c.if-is_past_end.false)))
