use Rattle.std.proofs.Common.{◌≡◌, ◌+◌, ◌*◌, ◌≤◌, ◌++◌, take, vec_len, vec_capacity}
use Rattle.std.specs.Prelude.{flat_map}
use Rattle.enc_text.specs.Text.{escaped}
use Rattle.enc_text.proofs.within.push_all_escaped_within.Given as goal

-- the bytes so far are appended, each within its room
abbrev pub invariant-loop-b : goal.invariant-loop-b
invariant-loop-b l = record {
  text : l.out.items ≡ l.fn.out.items ++ flat_map escaped (take l.b-index l.bytes);
  len : vec_len l.out ≤ vec_len l.fn.out + 4 * l.b-index;
  capacity : vec_capacity l.fn.out ≤ vec_capacity l.out;
}
