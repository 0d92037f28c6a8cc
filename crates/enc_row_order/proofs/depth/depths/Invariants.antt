use Rattle.std.proofs.Common.{◌<◌, ◌^◌, ◌-◌}
use Rattle.enc_row_order.specs.Walks.{AreWalks}
use Rattle.enc_row_order.proofs.depth.depths.Given as goal

abbrev pub invariant-loop-steps : goal.invariant-loop-steps
invariant-loop-steps g l = (0 < l.steps) × (l.steps < 2 ^ 25) × AreWalks (g.V.ModuleView.meaning l.view) l.steps l.walks.items

abbrev pub decreases-loop-steps : goal.decreases-loop-steps
decreases-loop-steps g l = l.count - l.steps
