use Rattle.std.proofs.Common.{◌≡◌, ◌+◌, ◌≤◌, length}
use Rattle.std.specs.Prelude.{min}
use Rattle.enc_edit_list.specs.Sizes.{length_of_code}
use Rattle.enc_rules.specs.Sums.{most_room}
use Rattle.enc_rules.proofs.instructions.length_of_code.Given as goal

abbrev pub invariant-loop-rest : goal.invariant-loop-rest
invariant-loop-rest l = record { sum : min most_room (l.sum + length_of_code l.rest) ≡ min most_room (length_of_code l.fn.code); few : l.sum ≤ most_room }

abbrev pub decreases-loop-rest : goal.decreases-loop-rest
decreases-loop-rest l = length l.rest
