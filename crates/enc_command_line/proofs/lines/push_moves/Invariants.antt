use Rattle.std.proofs.Common.{◌≡◌, ◌++◌, take}
use Rattle.enc_command_line.specs.Lines.{moved_lines}
use Rattle.enc_command_line.proofs.lines.push_moves.Given as goal

abbrev pub invariant-loop-i : goal.invariant-loop-i
invariant-loop-i l = l.out.items ≡ l.fn.out.items ++ moved_lines (take l.i l.moves)
