-- The order of an ordinary module is one of its rows; the layouts of one type keep theirs, and children stand by their owners.
use Rattle.std.proofs.Common.{◌≡◌, ℕ, ◌+◌, ◌*◌, ◌^◌, Bool, true, false, List, [], ◌∷◌, refl, sym, ap, ◌∙◌, cond, arith}
use Rattle.std.specs.Prelude.{◌==◌, filter}
use Rattle.std.proofs.lemmas.Bool.Decides.{nat_tests}
use Rattle.enc_base.specs.declared.token.Token.{Token}
use Rattle.enc_schema.specs.Children.{is_child_table, owner_table}
use Rattle.enc_schema.specs.Schema.{columns_in}
use Rattle.enc_schema.proofs.ChildTables.{by_child}
use Rattle.enc_plain.specs.Module.{Module, cells_of}
use Rattle.enc_plain.specs.Rows.{token_at}
use Rattle.enc_plain.specs.Sound.{IsSound}
use Rattle.enc_plain.proofs.Applied.{same_is}
use Rattle.enc_compact.specs.Moved.{AreOrders, KeepLayouts, is_layout_of}
use Rattle.enc_row_order.specs.Orders.{Orders, standing_rows, kids_listed, moved_by, place_in_order, by_depth, by_owner, by_method}
use Rattle.enc_row_order.specs.Orders.{by_key, by_param, by_attribute, key_columns, key_from, order_key, keyed_rows, new_order}
use Rattle.enc_row_order.specs.Sorted.{sorted_by}
use Rattle.enc_row_order.proofs.OneOrder.{of_key, sorted_ties}
use Rattle.enc_row_order.proofs.Permutes.{new_order_permutes}

pub new_order_are : (m : Module) → IsSound m → AreOrders m (new_order m)
new_order_are m sound = record { each = new_order_permutes m sound }

-- what is looked for among all is found among those of its key
filter_of_key : (p : ℕ → Bool) (key : ℕ → ℕ) (k : ℕ) (xs : List ℕ) → ((x : ℕ) → p x ≡ true → (key x == k) ≡ true) → filter p (of_key key k xs) ≡ filter p xs
filter_of_key p key k [] h = refl
filter_of_key p key k (x ∷ xs) h = by (p x) (key x == k) refl refl (h x) (filter_of_key p key k xs h)
  where
    by : (a b : Bool) → p x ≡ a → (key x == k) ≡ b → (p x ≡ true → (key x == k) ≡ true) → filter p (of_key key k xs) ≡ filter p xs
        → filter p (cond b (x ∷ of_key key k xs) (of_key key k xs)) ≡ cond a (x ∷ filter p xs) (filter p xs)
    by true true e f is rest = rw e (ap (λ ys. x ∷ ys) rest)
    by true false e f is rest = let other : true ≡ false = sym (is e) ∙ f in absurd cc
    by false true e f is rest = rw e rest
    by false false e f is rest = rest

-- so rows of one key stay in their order in what is sorted by keys
sorted_keeps : (p : ℕ → Bool) (key : ℕ → ℕ) (k : ℕ) (xs : List ℕ) → ((x : ℕ) → p x ≡ true → (key x == k) ≡ true)
    → filter p (sorted_by key xs) ≡ filter p xs
sorted_keeps p key k xs h =
    sym (filter_of_key p key k (sorted_by key xs) h) ∙ ap (filter p) (sorted_ties key k xs) ∙ filter_of_key p key k xs h

-- a row of ClassLayout goes by the new place of its type
layout_number : (orders : Orders) (m : Module) (row : ℕ)
    → order_key orders m 0x0F row ≡ 0 * 2 ^ 32 + (moved_by orders (token_at (cells_of m) (record { table = 0x0F; row = row }) 2)).row
unfolding order_key key_from key_columns columns_in
layout_number orders m row = refl

type_number : (orders : Orders) (type : ℕ) → 0 * 2 ^ 32 + (moved_by orders (record { table = 0x02; row = type })).row ≡ place_in_order (orders 0x02) type
unfolding moved_by
type_number orders type = nothing_before (place_in_order (orders 0x02) type)
  where
    nothing_before : (n : ℕ) → 0 * 2 ^ 32 + n ≡ n
    nothing_before n = omega arith

layout_key : (orders : Orders) (m : Module) (type row : ℕ) → is_layout_of m type row ≡ true → (order_key orders m 0x0F row == place_in_order (orders 0x02) type) ≡ true
layout_key orders m type row is =
    let e = same_is (token_at (cells_of m) (record { table = 0x0F; row = row }) 2) (record { table = 0x02; row = type }) is in
    let key : order_key orders m 0x0F row ≡ place_in_order (orders 0x02) type =
    layout_number orders m row ∙ ap (λ (t : Token). 0 * 2 ^ 32 + (moved_by orders t).row) e ∙ type_number orders type in
    equal (order_key orders m 0x0F row) (place_in_order (orders 0x02) type) key
  where
    equal : (a b : ℕ) → a ≡ b → (a == b) ≡ true
    equal a b e = grind (arith, nat_tests)

layouts_sorted : (m : Module) → new_order m 0x0F ≡ keyed_rows (by_method m (by_owner m (by_depth m (standing_rows m)))) m 0x0F
unfolding new_order by_attribute by_param by_key key_columns
layouts_sorted m = refl

layouts_by : (orders : Orders) (m : Module) (type : ℕ) → filter (is_layout_of m type) (keyed_rows orders m 0x0F) ≡ filter (is_layout_of m type)
    (standing_rows m 0x0F)
unfolding keyed_rows
layouts_by orders m type =
    sorted_keeps (is_layout_of m type) (order_key orders m 0x0F) (place_in_order (orders 0x02) type) (standing_rows m 0x0F) (λ row is. layout_key orders m type row is)

pub layouts_kept : (m : Module) → KeepLayouts m (new_order m)
layouts_kept m = record {
  each = λ type.
      ap (filter (is_layout_of m type)) (layouts_sorted m) ∙ layouts_by (by_method m (by_owner m (by_depth m (standing_rows m)))) m type;
}

-- the children of owners that stand in order stand in order
pub kids_stand : (m : Module) (child : ℕ) → is_child_table child ≡ true → new_order m child ≡ kids_listed m (new_order m (owner_table child)) child
unfolding new_order by_attribute by_param by_key by_method by_owner by_depth key_columns
kids_stand m child there = by_child (λ k. new_order m k ≡ kids_listed m (new_order m (owner_table k)) k) refl refl refl refl refl child there
