use Rattle.std.proofs.Common.{◌≡◌}
use Rattle.enc_dispatch.specs.Asked.{left_of}
use Rattle.enc_plain.specs.ClassPath.{path_of}
use Rattle.enc_dispatch.specs.Target.{from_interface}
use Rattle.enc_dispatch.proofs.free_path.from_interface.Given as goal

abbrev pub invariant-loop-rest : goal.invariant-loop-rest
invariant-loop-rest g l =
    let m = g.V.ModuleView.meaning l.view in
    from_interface m l.interface (left_of m l.climb) ≡ from_interface m l.interface (path_of m l.fn.class)

abbrev pub decreases-loop-rest : goal.decreases-loop-rest
decreases-loop-rest g l = l.climb.left
