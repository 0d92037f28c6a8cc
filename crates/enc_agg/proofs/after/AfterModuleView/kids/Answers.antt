use Rattle.std.proofs.Common.{sym, ◌∙◌}
use Rattle.enc_agg.proofs.RowsAndKids.{some_row}
use Rattle.enc_agg.proofs.Next.{more_kids, no_more_kids}
use Rattle.enc_agg.proofs.after.AfterModuleView.kids.Goals as goal

pub count_kids-requires-clause-row : goal.count_kids-requires-clause-row
count_kids-requires-clause-row c = some_row _ c.args.owner c.requires.row

pub returns-in-Some : goal.returns-in-Some
returns-in-Some c = rw (← c.self.view_is)
    (more_kids c.self.inside.aggregate.now c.self.inside.ready.now c.args.owner c.args.table _ c.self.invariant c.requires.table c.requires.owners
    (sym c.count.ensures ∙ c.in-Some.is))

pub returns-in-None : goal.returns-in-None
returns-in-None c = rw (← c.self.view_is)
    (no_more_kids c.self.inside.aggregate.now c.self.inside.ready.now c.args.owner c.args.table _ c.self.invariant c.requires.table c.requires.owners
    (sym c.count.ensures ∙ c.in-None.is) c.count_kids.ensures)
