use Rattle.std.proofs.Common.{◌≡◌}
use Rattle.enc_dispatch.specs.Walked.{left_in, path_in, from_interface_in}
use Rattle.enc_dispatch.proofs.dispatch.Dispatch.from_interface.Given as goal

abbrev pub invariant-loop-rest : goal.invariant-loop-rest
invariant-loop-rest l = from_interface_in l.self l.interface (left_in l.self l.climb) ≡ from_interface_in l.self l.interface (path_in l.self l.fn.class)

abbrev pub decreases-loop-rest : goal.decreases-loop-rest
decreases-loop-rest l = l.climb.left
