use Rattle.std.proofs.Common.{sym, ◌∙◌}
use Rattle.enc_agg.proofs.RowsAndKids.{has_old, some_row}
use Rattle.enc_agg.proofs.Next.{old_owner, own_owner}
use Rattle.enc_agg.proofs.after.AfterModuleView.owner.Goals as goal

pub owner_row-requires-clause-row : goal.owner_row-requires-clause-row
owner_row-requires-clause-row c = has_old _ c.args.child _ c.count.ensures.count (some_row _ c.args.child c.requires.row) c.if-child-count.true

pub returns-then-child-count : goal.returns-then-child-count
returns-then-child-count c = rw (← c.self.view_is)
    (old_owner c.self.inside.aggregate.now c.self.inside.ready.now c.args.child _ _ c.self.invariant c.requires.table
    (some_row _ c.args.child c.requires.row) c.count.ensures.count c.if-child-count.true c.owner_row.ensures)

pub unreachable-requires : goal.unreachable-requires
unreachable-requires c =
    let known = own_owner c.self.inside.aggregate.now c.self.inside.ready.now c.args.child _ c.self.invariant c.count.ensures.count c.if-child-count.false
    (rw (← c.self.view_is) at c.requires.row) c.requires.table in
    known.1 (sym c.owner.ensures ∙ c.in-None.is)

pub returns : goal.returns
returns c =
    let known = own_owner c.self.inside.aggregate.now c.self.inside.ready.now c.args.child _ c.self.invariant c.count.ensures.count c.if-child-count.false
    (rw (← c.self.view_is) at c.requires.row) c.requires.table in
    rw (← c.self.view_is) (sym known.0 ∙ sym c.owner.ensures ∙ c.in-Some.is)
