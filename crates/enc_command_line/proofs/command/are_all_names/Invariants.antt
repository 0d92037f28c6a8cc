use Rattle.std.proofs.Common.{◌≡◌, drop}
use Rattle.std.specs.List.{list_all}
use Rattle.enc_command_line.specs.Words.{is_name, texts}
use Rattle.enc_command_line.proofs.command.are_all_names.Given as goal

-- what is left decides
abbrev pub invariant-loop-word : goal.invariant-loop-word
invariant-loop-word l = list_all is_name (texts (drop l.word-index l.words)) ≡ list_all is_name (texts l.words)
