-- The order of each table has each of its rows once.
use Rattle.std.proofs.Common.{◌≡◌, ℕ, List, map, refl, subst, sym}
use Rattle.std.specs.List.Sorted.{IsPermutation}
use Rattle.enc_plain.specs.Module.{Module}
use Rattle.enc_plain.specs.Sound.{IsSound}
use Rattle.enc_rows.specs.Sums.{below}
use Rattle.enc_schema.specs.Schema.{list_at}
use Rattle.enc_base.specs.Tables as tables
use Rattle.enc_row_order.specs.Orders.{Orders, standing_rows, new_order, by_depth, by_owner, by_method, by_key, by_param, by_attribute}
use Rattle.enc_row_order.specs.Stages.{stage_of}
use Rattle.enc_row_order.specs.declared.stage.Stage.{Stage}
use Rattle.enc_row_order.specs.declared.stage.Stage.TheVariants as stage
use Rattle.enc_row_order.proofs.Staged.{stage_permutes, all_tables, all_orders, own_order}

-- each table's rows stand in its order
abbrev Permute : Module → Orders → Type 0
Permute m f = (table : ℕ) → IsPermutation (standing_rows m table) (f table)

-- a stage keeps that
step : (s : Stage) (m : Module) (f : Orders) → IsSound m → Permute m f → Permute m (stage_of s m f)
step s m f sound each table =
    let lists : List (List ℕ) = map f (below tables.table_count) in
    subst (λ (g : Orders). IsPermutation (standing_rows m table) (stage_of s m g table)) (all_tables m f lists sound each refl)
    (stage_permutes s m lists sound (all_orders m f lists sound each refl) table)

pub new_order_permutes : (m : Module) → IsSound m → (table : ℕ) → IsPermutation (standing_rows m table) (new_order m table)
unfolding new_order
new_order_permutes m sound =
    step stage.Attribute m (by_param m (by_key m (by_method m (by_owner m (by_depth m (standing_rows m)))))) sound
    (step stage.Param m (by_key m (by_method m (by_owner m (by_depth m (standing_rows m))))) sound
    (step stage.Key m (by_method m (by_owner m (by_depth m (standing_rows m)))) sound
    (step stage.Method m (by_owner m (by_depth m (standing_rows m))) sound
    (step stage.Owner m (by_depth m (standing_rows m)) sound
    (step stage.Depth m (standing_rows m) sound (own_order m))))))
