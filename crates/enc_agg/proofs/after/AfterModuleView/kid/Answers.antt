use Rattle.std.proofs.Common.{sym, ◌∙◌, arith}
use Rattle.enc_agg.proofs.RowsAndKids.{some_row}
use Rattle.enc_agg.proofs.Next.{old_kid, own_kid}
use Rattle.enc_agg.proofs.after.AfterModuleView.kid.Goals as goal

pub count_kids-requires-clause-row : goal.count_kids-requires-clause-row
count_kids-requires-clause-row c = some_row _ c.args.owner c.requires.row

pub kid_row-requires-clause-row : goal.kid_row-requires-clause-row
kid_row-requires-clause-row c = some_row _ c.args.owner c.requires.row

pub kid_row-requires-clause-there : goal.kid_row-requires-clause-there
kid_row-requires-clause-there c = omega (arith, c.count_kids.ensures, c.if-i-count_kids.true)

pub returns-then-i-count_kids-clause-row : goal.returns-then-i-count_kids-clause-row
returns-then-i-count_kids-clause-row c = rw (← c.self.view_is, c.row_found.ensures)
    (old_kid c.self.inside.aggregate.now c.self.inside.ready.now c.args.owner c.args.table c.args.i _ c.self.invariant c.requires.table c.kid_row.ensures)

pub unreachable-requires : goal.unreachable-requires
unreachable-requires c =
    let own = own_kid c.self.inside.aggregate.now c.self.inside.ready.now c.args.owner c.args.table c.args.i _ c.self.invariant c.requires.table
    c.requires.owners c.count_kids.ensures (omega (arith, c.if-i-count_kids.false)) (rw (← c.self.view_is) at c.requires.there) in
    own.1 (sym c.kid.ensures ∙ c.in-None.is)

pub returns-clause-row : goal.returns-clause-row
returns-clause-row c =
    let own = own_kid c.self.inside.aggregate.now c.self.inside.ready.now c.args.owner c.args.table c.args.i _ c.self.invariant c.requires.table
    c.requires.owners c.count_kids.ensures (omega (arith, c.if-i-count_kids.false)) (rw (← c.self.view_is) at c.requires.there) in
    rw (← c.self.view_is, c.row_found-in-Some.ensures) (sym own.0 ∙ sym c.kid.ensures ∙ c.in-Some.is)
