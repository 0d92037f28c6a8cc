use Rattle.std.proofs.Common.{◌≡◌, ◌-◌, ◌+◌, ◌*◌, ◌^◌, ◌≤◌, true, length}
use Rattle.std.specs.Prelude.{is_some}
use Rattle.enc_plain.specs.DebugSeen.{parts_said}
use Rattle.enc_plain.specs.DocumentName.{name_parts_in}
use Rattle.enc_plain.proofs.document.parts_len.Given as goal

abbrev pub invariant-loop-i : goal.invariant-loop-i
invariant-loop-i l =
    (is_some (name_parts_in l.heaps.blobs (length l.fn.bytes - l.i) l.rest) ≡ true)
    × (length (parts_said 0 l.separator (name_parts_in l.heaps.blobs (length l.fn.bytes) l.fn.bytes)) ≡ l.len + length (parts_said l.before l.separator (name_parts_in l.heaps.blobs (length l.fn.bytes - l.i) l.rest)))
    × (l.len ≤ l.i * 2 ^ 32)
