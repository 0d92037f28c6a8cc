use Rattle.std.proofs.Common.{◌≡◌, ◌≤◌}
use Rattle.std.specs.Prelude.{min}
use Rattle.enc_rewriter.specs.Standing.{bodies_before, AreWeighed}
use Rattle.enc_rewriter.specs.Weight.{most_weight}
use Rattle.enc_rewriter.proofs.weight.bodies_weight.Given as goal

abbrev pub invariant-loop-n : goal.invariant-loop-n
invariant-loop-n g l = (l.sum ≡ min most_weight (bodies_before (g.V.ModuleView.meaning l.view) l.n))
    × (l.sum ≤ most_weight)
    × AreWeighed (g.V.ModuleView.places l.view) l.known
