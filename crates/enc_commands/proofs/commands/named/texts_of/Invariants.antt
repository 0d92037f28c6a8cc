use Rattle.std.proofs.Common.{◌≡◌, ◌++◌, drop}
use Rattle.enc_rewriter.specs.Distinct.{borrowed}
use Rattle.enc_command_line.specs.Words.{texts}
use Rattle.enc_commands.proofs.commands.named.texts_of.Given as goal

-- those so far, and what is left
abbrev pub invariant-loop-name : goal.invariant-loop-name
invariant-loop-name l = texts l.words.items ++ borrowed (drop l.name-index l.names) ≡ borrowed l.names
