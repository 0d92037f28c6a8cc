-- The children of a module whose rows were moved stand in the order of their rows.
use Rattle.std.proofs.Common.{◌≡◌, ℕ, zero, suc, ◌+◌, true, map, refl, ap, ◌∙◌}
use Rattle.std.specs.Prelude.{◌==◌}
use Rattle.std.specs.List.{range_with_len}
use Rattle.std.proofs.lemmas.Bool.{and_from, eq-eqb}
use Rattle.enc_rows.specs.Sums.{below}
use Rattle.enc_schema.specs.Children.{is_child_table}
use Rattle.enc_base.specs.Tables as tables
use Rattle.enc_plain.specs.Module.{Module}
use Rattle.enc_plain.specs.Sound.{IsSound, row_count, all_kids}
use Rattle.enc_rewriter.specs.Numbers.{in_order_from, is_in_row_order}
use Rattle.enc_rewriter.specs.Rewritten.{stands_in_order}
use Rattle.enc_row_order.specs.Orders.{standing_rows}
use Rattle.enc_compact.specs.Laws.{MovedStandsInOrder}
use Rattle.enc_compact.specs.Moved.{module_moved}

-- rows that are listed stand in order
in_order : (k n : ℕ) → in_order_from (k + 1) (map (λ i. i + 1) (range_with_len k n)) ≡ true
in_order k zero = refl
in_order k (suc n) = and_from (k + 1 == k + 1) _ (eq-eqb (k + 1) (k + 1) refl) (in_order (k + 1) n)

listed_in_order : (m : Module) (t : ℕ) → is_in_row_order (standing_rows m t) ≡ true
unfolding standing_rows below
listed_in_order m t = in_order 0 (row_count m t)

-- so do the children of a module whose rows were moved
pub moved_in_order : MovedStandsInOrder → (m : Module) → IsSound m → stands_in_order (module_moved m) ≡ true
unfolding stands_in_order
moved_in_order law m sound =
    and_from _ _ (one tables.field refl) (and_from _ _ (one tables.method_def refl) (and_from _ _ (one tables.param refl)
    (and_from _ _ (one tables.event refl) (and_from _ _ (one tables.property refl) refl))))
  where
    one : (child : ℕ) → is_child_table child ≡ true → is_in_row_order (all_kids (module_moved m) child) ≡ true
    one child is = ap is_in_row_order (law m child sound is) ∙ listed_in_order (module_moved m) child
