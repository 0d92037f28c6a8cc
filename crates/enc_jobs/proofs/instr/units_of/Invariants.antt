use Rattle.std.proofs.Common.{◌≡◌, ◌++◌, length, drop}
use Rattle.std.specs.Prelude.{flat_map}
use Rattle.std.specs.Str.{chars}
use Rattle.std.specs.Char.Escape.{encode_utf16}
use Rattle.enc_jobs.proofs.instr.units_of.Given as goal

-- the units so far, and those of the characters that are left
abbrev pub invariant-loop-c : goal.invariant-loop-c
invariant-loop-c l = l.units ++ flat_map encode_utf16 (drop (length l.yielded) (chars l.text)) ≡ flat_map encode_utf16 (chars l.fn.text)
