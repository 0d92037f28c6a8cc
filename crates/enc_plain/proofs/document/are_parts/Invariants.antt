use Rattle.std.proofs.Common.{◌≡◌, ◌-◌, length}
use Rattle.std.specs.Prelude.{is_some}
use Rattle.enc_plain.specs.DocumentName.{name_parts_in}
use Rattle.enc_plain.proofs.document.are_parts.Given as goal

abbrev pub invariant-loop-i : goal.invariant-loop-i
invariant-loop-i l = is_some (name_parts_in l.heaps.blobs (length l.fn.bytes) l.fn.bytes) ≡ is_some (name_parts_in l.heaps.blobs (length l.fn.bytes - l.i) l.rest)
