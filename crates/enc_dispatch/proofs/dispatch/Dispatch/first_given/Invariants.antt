use Rattle.std.proofs.Common.{◌≡◌}
use Rattle.enc_dispatch.specs.Walked.{left_in, first_given_in}
use Rattle.enc_dispatch.proofs.dispatch.Dispatch.first_given.Given as goal

abbrev pub invariant-loop-rest : goal.invariant-loop-rest
invariant-loop-rest l = first_given_in l.self l.slot l.declared (left_in l.self l.climb) ≡ first_given_in l.self l.slot l.declared (left_in l.self l.fn.from)

abbrev pub decreases-loop-rest : goal.decreases-loop-rest
decreases-loop-rest l = l.climb.left
