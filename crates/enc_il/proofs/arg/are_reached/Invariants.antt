use Rattle.std.proofs.Common.{◌≡◌, length}
use Rattle.enc_opcodes.specs.Instruction.{are_reached}
use Rattle.enc_il.proofs.arg.are_reached.Given as goal

abbrev pub invariant-loop-rest : goal.invariant-loop-rest
invariant-loop-rest l = are_reached l.end l.rest ≡ are_reached l.end l.distances

abbrev pub decreases-loop-rest : goal.decreases-loop-rest
decreases-loop-rest l = length l.rest
