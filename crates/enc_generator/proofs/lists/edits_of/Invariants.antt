use Rattle.std.proofs.Common.{◌≡◌, ◌++◌, []}
use Rattle.enc_generator.specs.Generated.{edits_of_turns}
use Rattle.enc_generator.proofs.Turning.{left}
use Rattle.enc_generator.proofs.lists.edits_of.Given as goal

-- the edits so far, and those of the turns that are left
abbrev pub invariant-loop-k : goal.invariant-loop-k
invariant-loop-k l = l.edits ++ left l.list l.turns l.k ≡ edits_of_turns l.list [] l.fn.turns
