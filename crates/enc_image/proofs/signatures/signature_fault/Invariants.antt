use Rattle.std.proofs.Common.{◌≡◌, None}
use Rattle.enc_base.specs.Order.{first_below}
use Rattle.enc_image.specs.Base.{signature_fault_in}
use Rattle.enc_image.specs.Seen.{source_seen}
use Rattle.enc_image.proofs.signatures.signature_fault.Given as goal

abbrev pub invariant-loop-table : goal.invariant-loop-table
invariant-loop-table l = first_below (signature_fault_in (source_seen l.cells)) l.table ≡ None
