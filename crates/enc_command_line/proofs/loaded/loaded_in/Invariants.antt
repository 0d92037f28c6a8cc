use Rattle.std.proofs.Common.{◌≡◌, ◌^◌, ◌%◌, length, ◌+◌, ◌-◌}
use Rattle.enc_command_line.proofs.Sums.{loaded_from}
use Rattle.enc_command_line.proofs.loaded.loaded_in.Given as goal

-- what is summed, and what the instructions that are left load
abbrev pub invariant-loop-instr : goal.invariant-loop-instr
invariant-loop-instr l = (l.sum + loaded_from l.code.code.now l.at) % 2 ^ 64 ≡ loaded_from l.code.code.now 0 % 2 ^ 64

abbrev pub decreases-loop-instr : goal.decreases-loop-instr
decreases-loop-instr l = length l.code.code.now - l.at
