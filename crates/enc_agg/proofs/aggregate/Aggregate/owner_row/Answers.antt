use Rattle.std.proofs.Common.{sym, ◌∙◌}
use Rattle.enc_image.specs.Base.{module_in}
use Rattle.enc_agg.proofs.RowsAndKids.{has_old, some_row}
use Rattle.enc_agg.proofs.Directories.{owner_before, owner_known}
use Rattle.enc_agg.proofs.aggregate.Aggregate.owner_row.Goals as goal

pub owner-requires-clause-row : goal.owner-requires-clause-row
owner-requires-clause-row c = has_old (module_in c.self.inside.image) c.args.child _ c.count.ensures.count (some_row _ c.args.child c.requires.row) c.if-child-count.true

pub returns-then-child-count : goal.returns-then-child-count
returns-then-child-count c =
    let deltas = c.self.invariant.deltas in
    rw (← c.self.view_is) (owner_before c.self.inside.image _ c.args.child _ _ deltas.sound deltas.all c.requires.table (some_row _ c.args.child c.requires.row) c.count.ensures.count c.if-child-count.true c.owner.ensures)

pub unreachable-requires : goal.unreachable-requires
unreachable-requires c =
    let known = owner_known c.self.inside.image _ _ _ c.args.child c.self.invariant _ c.count.ensures.count c.if-child-count.false (rw (← c.self.view_is) at c.requires.row) c.requires.table in
    known.1 (sym c.owner-2.ensures ∙ c.in-None.is)

pub returns : goal.returns
returns c =
    let known = owner_known c.self.inside.image _ _ _ c.args.child c.self.invariant _ c.count.ensures.count c.if-child-count.false (rw (← c.self.view_is) at c.requires.row) c.requires.table in
    rw (← c.self.view_is) (sym known.0 ∙ sym c.owner-2.ensures ∙ c.in-Some.is)
