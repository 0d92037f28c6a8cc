use Rattle.std.proofs.Common.{◌≤◌, length, drop}
use Rattle.enc_row_order.specs.Places.{ArePlacedFrom}
use Rattle.enc_row_order.proofs.rows.places_of.Given as goal

abbrev pub invariant-loop-i : goal.invariant-loop-i
invariant-loop-i l = (l.i ≤ length l.fn.old) × ArePlacedFrom l.i (length l.fn.old) (drop l.i l.fn.old) l.new.items

abbrev pub decreases-loop-i : goal.decreases-loop-i
decreases-loop-i l = l.i
