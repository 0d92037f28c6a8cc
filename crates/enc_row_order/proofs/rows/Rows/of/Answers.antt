use Rattle.std.proofs.Common.{subst, length}
use Rattle.enc_row_order.specs.Places.{ArePlacedFrom}
use Rattle.enc_row_order.proofs.RowPlaces.{are_places}
use Rattle.enc_row_order.proofs.rows.Rows.of.Goals as goal

pub invariant_of-result : goal.invariant_of-result
invariant_of-result c =
    are_places c.args.old.items c.in_ok-new.new.items c.requires.few c.requires.rows
    (subst (λ xs. ArePlacedFrom 0 (length xs) xs c.in_ok-new.new.items) c.deref.ensures.value c.in_ok-new.ensures)
