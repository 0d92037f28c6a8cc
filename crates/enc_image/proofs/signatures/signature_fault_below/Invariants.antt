use Rattle.std.proofs.Common.{◌≡◌, None}
use Rattle.enc_base.specs.Order.{first_below}
use Rattle.enc_image.specs.Base.{signature_fault_at}
use Rattle.enc_image.specs.Known.{AreSignatures}
use Rattle.enc_image.specs.Seen.{source_seen}
use Rattle.enc_image.proofs.signatures.signature_fault_below.Given as goal

abbrev pub invariant-loop-r : goal.invariant-loop-r
invariant-loop-r l = record { none : first_below (signature_fault_at (source_seen l.cells) l.table l.column) l.r ≡ None; known : AreSignatures (source_seen l.cells) l.table l.known }
