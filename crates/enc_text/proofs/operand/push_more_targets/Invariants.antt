use Rattle.std.proofs.Common.{◌≡◌, ◌++◌, length}
use Rattle.enc_opcodes.specs.Instruction.{all_reached}
use Rattle.enc_text.specs.BodyText.{more_labels}
use Rattle.enc_text.proofs.operand.push_more_targets.Given as goal

-- what is appended, and the targets that are left
abbrev pub invariant-loop-rest : goal.invariant-loop-rest
invariant-loop-rest l = l.out.items ++ more_labels (all_reached l.end l.rest) ≡ l.fn.out.items ++ more_labels (all_reached l.end l.distances)

abbrev pub decreases-loop-rest : goal.decreases-loop-rest
decreases-loop-rest l = length l.rest
