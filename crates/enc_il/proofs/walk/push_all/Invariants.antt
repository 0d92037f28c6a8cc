use Rattle.std.proofs.Common.{◌≡◌, ◌++◌, length}
use Rattle.enc_opcodes.specs.Instruction.{all_reached}
use Rattle.enc_il.proofs.walk.push_all.Given as goal

-- what was put and what is left are all
abbrev pub invariant-loop-rest : goal.invariant-loop-rest
invariant-loop-rest l = l.targets.items ++ all_reached l.end l.rest ≡ l.fn.targets.items ++ all_reached l.end l.distances

abbrev pub decreases-loop-rest : goal.decreases-loop-rest
decreases-loop-rest l = length l.rest
