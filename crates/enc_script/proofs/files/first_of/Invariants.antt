use Rattle.std.proofs.Common.{◌≡◌, map, drop}
use Rattle.enc_script.specs.Run.{first_with_file, named_delta}
use Rattle.enc_script.proofs.files.first_of.Given as goal

-- what is left decides
abbrev pub invariant-loop-delta : goal.invariant-loop-delta
invariant-loop-delta l = first_with_file l.file (map named_delta (drop l.delta-index l.deltas)) ≡ first_with_file l.file (map named_delta l.deltas)
