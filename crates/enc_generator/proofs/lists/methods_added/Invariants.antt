use Rattle.std.proofs.Common.{◌≡◌, ◌≤◌, ◌+◌, length}
use Rattle.enc_generator.specs.Generated.{methods_added}
use Rattle.enc_generator.proofs.lists.methods_added.Given as goal

-- those so far, and those of the turns that are left
abbrev pub invariant-loop-rest : goal.invariant-loop-rest
invariant-loop-rest l = record {
  added : l.added + methods_added l.rest ≡ methods_added l.fn.turns;
  few : l.added + length l.rest ≤ length l.fn.turns;
}

abbrev pub decreases-loop-rest : goal.decreases-loop-rest
decreases-loop-rest l = length l.rest
