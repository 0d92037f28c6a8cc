-- The tables of a module whose rows go to other places have as many rows as before.
use Rattle.std.proofs.Common.{◌≡◌, ◌<◌, ◌^◌, true, subst, sym, ◌∙◌}
use Rattle.enc_base.specs.declared.token.Token.{Token}
use Rattle.enc_rows.proofs.Listed.{length_below}
use Rattle.enc_plain.specs.Module.{Module, rows_in, has_row}
use Rattle.enc_plain.specs.Sound.{HasTables, HasCounts}
use Rattle.enc_row_order.specs.Orders.{Orders, moved_by}
use Rattle.enc_compact.specs.Moved.{AreOrders, rows_moved, module_with}
use Rattle.enc_compact.proofs.Places.{before, moved_before}
use Rattle.enc_compact.proofs.Rows.{no_order, none_moved, rows_new, count_moved, has_before}

pub tables_moved : (m : Module) (orders : Orders) → HasTables (module_with orders m)
unfolding module_with
tables_moved m orders = record { all = length_below (λ table. rows_moved (moved_by orders) table (orders table) (rows_in m table)) 0x2D }

pub counts_kept : (m : Module) (orders : Orders) → HasTables m → AreOrders m orders → HasCounts m → HasCounts (module_with orders m)
counts_kept m orders has are counts = record {
  absent = λ t other.
      rows_new m orders t has are
      ∙ sym (none_moved (moved_by orders) t (orders t) (rows_in m t) (no_order m orders t are (counts.absent t other)));
  single = count_moved m orders 0 has are ∙ counts.single;
  few = λ t. subst (λ n. n < 2 ^ 24) (sym (count_moved m orders t has are)) (counts.few t);
}

-- what holds of each row at its new place holds of each row of the new module
pub each_row : (m : Module) (orders : Orders) (P : Token → Type 0) → HasTables m → AreOrders m orders
    → ((t : Token) → has_row m t ≡ true → P (moved_by orders t))
    → (u : Token) → has_row (module_with orders m) u ≡ true → P u
each_row m orders P has are h u there =
    subst P (moved_before m orders u are) (h (before orders u) (sym (has_before m orders u has are) ∙ there))
