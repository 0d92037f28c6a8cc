use Rattle.std.proofs.Common.{◌≡◌, ◌+◌, ◌*◌, ◌≤◌, ◌++◌, length, vec_len, vec_capacity}
use Rattle.std.specs.Prelude.{flat_map}
use Rattle.enc_text.specs.Text.{escaped}
use Rattle.enc_text.specs.BodyText.{utf8_of}
use Rattle.enc_text.proofs.within.push_chars_within.Given as goal

-- what is appended, and the units that are left, for which there is room
abbrev pub invariant-loop-rest : goal.invariant-loop-rest
invariant-loop-rest l = record {
  text : l.out.items ++ flat_map escaped (utf8_of l.rest) ≡ l.fn.out.items ++ flat_map escaped (utf8_of l.units);
  len : vec_len l.out + 12 * length l.rest ≤ vec_len l.fn.out + 12 * length l.units;
  capacity : vec_capacity l.fn.out ≤ vec_capacity l.out;
}

abbrev pub decreases-loop-rest : goal.decreases-loop-rest
decreases-loop-rest l = length l.rest
