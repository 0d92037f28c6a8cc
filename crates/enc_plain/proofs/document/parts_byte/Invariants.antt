use Rattle.std.proofs.Common.{◌≡◌, ◌-◌, true, length}
use Rattle.std.specs.Prelude.{is_some, slice_get}
use Rattle.enc_plain.specs.DebugSeen.{parts_said}
use Rattle.enc_plain.specs.DocumentName.{name_parts_in}
use Rattle.enc_plain.proofs.document.parts_byte.Given as goal

abbrev pub invariant-loop-k : goal.invariant-loop-k
invariant-loop-k l =
    (is_some (name_parts_in l.heaps.blobs (length l.fn.bytes - l.k) l.rest) ≡ true)
    × (slice_get (parts_said 0 l.separator (name_parts_in l.heaps.blobs (length l.fn.bytes) l.fn.bytes)) l.fn.i ≡ slice_get (parts_said l.before l.separator (name_parts_in l.heaps.blobs (length l.fn.bytes - l.k) l.rest)) l.left)
