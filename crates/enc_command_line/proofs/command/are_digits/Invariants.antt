use Rattle.std.proofs.Common.{◌≡◌, drop}
use Rattle.std.specs.List.{list_all}
use Rattle.enc_command_line.specs.Words.{is_digit}
use Rattle.enc_command_line.proofs.command.are_digits.Given as goal

-- what is left decides
abbrev pub invariant-loop-b : goal.invariant-loop-b
invariant-loop-b l = list_all is_digit (drop l.b-index l.bytes) ≡ list_all is_digit l.bytes
