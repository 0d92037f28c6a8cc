use Rattle.enc_reference_depth.specs.Edges.{AreDepths}
use Rattle.enc_reference_depth.proofs.depths.all_depths.Given as goal

abbrev pub invariant-loop-step : goal.invariant-loop-step
invariant-loop-step g l = AreDepths (g.V.ModuleView.meaning l.view) l._step l.depths.items
