use Rattle.std.proofs.Common.{◌≡◌, None}
use Rattle.enc_base.specs.Order.{first_below}
use Rattle.enc_image.specs.Base.{body_fault_at}
use Rattle.enc_image.specs.Known.{AreBodies}
use Rattle.enc_image.specs.Seen.{source_seen}
use Rattle.enc_image.proofs.bodies.body_fault.Given as goal

abbrev pub invariant-loop-r : goal.invariant-loop-r
invariant-loop-r l = record { none : first_below (body_fault_at (source_seen l.cells)) l.r ≡ None; known : AreBodies (source_seen l.cells) l.known }
