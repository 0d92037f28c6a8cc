use Rattle.std.proofs.Common.{◌≡◌, ◌++◌, map}
use Rattle.enc_script.specs.Run.{named_delta}
use Rattle.enc_commands.specs.Loads.{file_seen}
use Rattle.enc_commands.specs.Verdict.{as_named}
use Rattle.enc_commands.proofs.commands.run.all_named.Given as goal

-- those so far, and what is left
abbrev pub invariant-loop-file : goal.invariant-loop-file
invariant-loop-file l =
    map named_delta l.deltas.items ++ map as_named (map file_seen l.file-iterator.rest.items) ≡ map as_named (map file_seen l.fn.files.items)
