use Rattle.std.proofs.Common.{◌≡◌}
use Rattle.enc_dispatch.specs.Asked.{left_of}
use Rattle.enc_dispatch.specs.Target.{first_given}
use Rattle.enc_dispatch.proofs.free_walk.first_given.Given as goal

abbrev pub invariant-loop-rest : goal.invariant-loop-rest
invariant-loop-rest g l =
    let m = g.V.ModuleView.meaning l.view in
    first_given m l.declared (left_of m l.climb) ≡ first_given m l.declared (left_of m l.fn.from)

abbrev pub decreases-loop-rest : goal.decreases-loop-rest
decreases-loop-rest g l = l.climb.left
