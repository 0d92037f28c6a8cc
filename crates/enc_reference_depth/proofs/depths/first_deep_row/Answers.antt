use Rattle.std.proofs.Common.{◌∙◌, refl}
use Rattle.enc_base.proofs.First.{first_none, first_found, first_more}
use Rattle.enc_reference_depth.specs.Edges.{deep_row}
use Rattle.enc_reference_depth.proofs.NextDepths.{row_is_deep, row_is_low}
use Rattle.enc_reference_depth.proofs.depths.first_deep_row.Goals as goal

pub loop-n-init : goal.loop-n-init
loop-n-init c = first_none (deep_row c.args.depths.now c.args.first c.args.table)

pub returns-then-depth_at-ge-MOST_DEPTH : goal.returns-then-depth_at-ge-MOST_DEPTH
returns-then-depth_at-ge-MOST_DEPTH c =
    first_found (deep_row c.args.depths.now c.args.first c.args.table) c.args.count c.loop-n.n _ c.loop-n-test.true c.loop-n.invariant
    (row_is_deep c.args.depths.now c.args.first c.args.table c.loop-n.n c.depth_at.result c.if-depth_at-ge-MOST_DEPTH.true c.depth_at.ensures) refl

pub loop-n-preserved : goal.loop-n-preserved
loop-n-preserved c =
    first_more (deep_row c.args.depths.now c.args.first c.args.table) c.loop-n.n c.loop-n.invariant
    ∙ row_is_low c.args.depths.now c.args.first c.args.table c.loop-n.n c.depth_at.result c.if-depth_at-ge-MOST_DEPTH.false c.depth_at.ensures
