use Rattle.std.proofs.Common.{◌≡◌}
use Rattle.enc_plain.specs.ClassPath.{is_on_path}
use Rattle.enc_dispatch.specs.Walked.{left_in, path_in}
use Rattle.enc_dispatch.proofs.dispatch.Dispatch.has_on_path.Given as goal

abbrev pub invariant-loop-rest : goal.invariant-loop-rest
invariant-loop-rest l = is_on_path l.base (left_in l.self l.climb) ≡ is_on_path l.base (path_in l.self l.fn.class)

abbrev pub decreases-loop-rest : goal.decreases-loop-rest
decreases-loop-rest l = l.climb.left
