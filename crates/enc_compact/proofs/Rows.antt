-- What stands in a module whose rows go to other places: each row with its tokens moved, at its new place.
use Rattle.std.proofs.Common.{◌≡◌, ℕ, zero, suc, ◌+◌, ◌<◌, ◌≤◌, Bool, true, false, List, [], ◌∷◌, length, map, Option, Some, None, refl, sym, ap, ◌∙◌, inl, inr, arith}
use Rattle.std.specs.Prelude.{◌&&◌, nat_le, nat_lt, slice_get, unwrap_or, option_map, option_and_then, is_some}
use Rattle.std.proofs.lemmas.Bool.{cases_lt}
use Rattle.std.proofs.lemmas.List.{length-map, nil_from_length}
use Rattle.enc_base.specs.Token.{nil}
use Rattle.enc_base.specs.declared.token.Token.{Token}
use Rattle.enc_schema.specs.Schema.{list_at}
use Rattle.enc_rows.proofs.Listed.{get_below, get_past}
use Rattle.enc_plain.specs.Apply.{childless}
use Rattle.enc_plain.specs.Cell.{Cell, number, text, blob, guid, refer, body, field}
use Rattle.enc_plain.specs.Module.{Module, Row, rows_in, row_at, row_of, has_row, cells_of, cell_of}
use Rattle.enc_plain.specs.Rows.{number_of_cell, bytes_of_cell, token_of_cell, number_at, bytes_at, token_at}
use Rattle.enc_plain.specs.Sound.{row_count, HasTables}
use Rattle.enc_plain.proofs.CellsOf.{has_cells, cell_there}
use Rattle.enc_row_order.specs.Orders.{Orders, place_in_order, old_row, moved_by}
use Rattle.enc_compact.specs.Moved.{AreOrders, holds_signatures, signature_moved, cell_moved, cells_moved, row_moved, rows_moved, module_with}
use Rattle.enc_compact.proofs.Places.{IsOrder, is_order, order_bounds, order_has, new_at, new_there, before, moved_before, nil_stays, get_within}

-- an element of a list that was made from another
pub get_map : {A B : Type 0} (g : A → B) (xs : List A) (i : ℕ) → slice_get (map g xs) i ≡ option_map g (slice_get xs i)
get_map g [] i = refl
get_map g (x ∷ xs) zero = refl
get_map g (x ∷ xs) (suc i) = get_map g xs i

-- the rows of a table that a module can have
pub rows_low : (m : Module) (orders : Orders) (t : ℕ) → t < 0x2D → rows_in (module_with orders m) t ≡ rows_moved (moved_by orders) t (orders t) (rows_in m t)
unfolding module_with
rows_low m orders t low =
    ap (λ (o : Option (List Row)). unwrap_or o [])
    (get_below (λ table. rows_moved (moved_by orders) table (orders table) (rows_in m table)) 0x2D t low)

pub none_past : {A : Type 0} (tables : List (List A)) (t n : ℕ) → length tables ≡ n → n ≤ t → list_at tables t ≡ []
none_past [] t n e h = refl
none_past (x ∷ xs) zero n e h = absurd (omega arith)
none_past (x ∷ xs) (suc t) n e h = none_past xs t (length xs) refl (omega arith)

rows_past : (m : Module) (orders : Orders) (t : ℕ) → 0x2D ≤ t → rows_in (module_with orders m) t ≡ []
unfolding module_with
rows_past m orders t past =
    ap (λ (o : Option (List Row)). unwrap_or o [])
    (get_past (λ table. rows_moved (moved_by orders) table (orders table) (rows_in m table)) 0x2D t past)

-- an order of no rows is empty
pub no_order : (m : Module) (orders : Orders) (t : ℕ) → AreOrders m orders → rows_in m t ≡ [] → orders t ≡ []
no_order m orders t are none =
    let order = is_order m orders t are in
    nil_from_length (orders t) (order.many ∙ ap length none)

pub none_moved : (f : Token → Token) (t : ℕ) (order : List ℕ) (rows : List Row) → order ≡ [] → [] ≡ rows_moved f t order rows
unfolding rows_moved
none_moved f t order rows e = rw e refl

-- the rows of any table
pub rows_new : (m : Module) (orders : Orders) (t : ℕ) → HasTables m → AreOrders m orders
    → rows_in (module_with orders m) t ≡ rows_moved (moved_by orders) t (orders t) (rows_in m t)
rows_new m orders t has are = elim (cases_lt t 0x2D) [
  | inl low ↦ rows_low m orders t low
  | inr past ↦
      rows_past m orders t past ∙ none_moved (moved_by orders) t (orders t) (rows_in m t) (no_order m orders t are (none_past m.tables t 0x2D has.all past))
]

moved_many : (f : Token → Token) (t n : ℕ) (order : List ℕ) (rows : List Row) → IsOrder n order → length (rows_moved f t order rows) ≡ n
unfolding rows_moved
moved_many f t n order rows o = length-map order (λ row. row_moved f t (unwrap_or (row_at rows row) (childless t []))) ∙ o.many

-- a table has as many rows as before
pub count_low : (m : Module) (orders : Orders) (t : ℕ) → AreOrders m orders → t < 0x2D → row_count (module_with orders m) t ≡ row_count m t
count_low m orders t are low =
    ap (λ (rows : List Row). length rows) (rows_low m orders t low)
    ∙ moved_many (moved_by orders) t (row_count m t) (orders t) (rows_in m t) (is_order m orders t are)

pub count_moved : (m : Module) (orders : Orders) (t : ℕ) → HasTables m → AreOrders m orders → row_count (module_with orders m) t ≡ row_count m t
count_moved m orders t has are =
    ap (λ (rows : List Row). length rows) (rows_new m orders t has are)
    ∙ moved_many (moved_by orders) t (row_count m t) (orders t) (rows_in m t) (is_order m orders t are)

pub counts_moved : (m : Module) (orders : Orders) → HasTables m → AreOrders m orders → row_count (module_with orders m) ≡ row_count m
counts_moved m orders has are = λ i t. count_moved m orders t has are i

-- a token names a row where it did
pub has_by : (m q : Module) (t : Token) → row_count q t.table ≡ row_count m t.table → has_row q t ≡ has_row m t
unfolding has_row
has_by m q t e = ap (λ n. nat_lt 0 t.row && nat_le t.row n) e

pub has_same : (m : Module) (orders : Orders) (t : Token) → HasTables m → AreOrders m orders → has_row (module_with orders m) t ≡ has_row m t
has_same m orders t has are = has_by m (module_with orders m) t (count_moved m orders t.table has are)

pub has_same_low : (m : Module) (orders : Orders) (t : Token) → AreOrders m orders → t.table < 0x2D → has_row (module_with orders m) t ≡ has_row m t
has_same_low m orders t are low = has_by m (module_with orders m) t (count_low m orders t.table are low)

there_still : (m : Module) (orders : Orders) (t : Token) → AreOrders m orders → has_row m (moved_by orders t) ≡ has_row m t
unfolding has_row moved_by
there_still m orders t are = new_there (row_count m t.table) (orders t.table) t.row (is_order m orders t.table are)

same_table : (m q : Module) (orders : Orders) (t : Token) → row_count q t.table ≡ row_count m t.table
    → row_count q (moved_by orders t).table ≡ row_count m (moved_by orders t).table
unfolding moved_by
same_table m q orders t e = e

-- and where it moves
pub has_moved : (m : Module) (orders : Orders) (t : Token) → HasTables m → AreOrders m orders
    → has_row (module_with orders m) (moved_by orders t) ≡ has_row m t
has_moved m orders t has are =
    has_by m (module_with orders m) (moved_by orders t) (same_table m (module_with orders m) orders t (count_moved m orders t.table has are))
    ∙ there_still m orders t are

pub has_moved_low : (m : Module) (orders : Orders) (t : Token) → AreOrders m orders → t.table < 0x2D
    → has_row (module_with orders m) (moved_by orders t) ≡ has_row m t
has_moved_low m orders t are low =
    has_by m (module_with orders m) (moved_by orders t) (same_table m (module_with orders m) orders t (count_low m orders t.table are low))
    ∙ there_still m orders t are

-- a row of the new module comes from one of the old
pub has_before : (m : Module) (orders : Orders) (u : Token) → HasTables m → AreOrders m orders
    → has_row (module_with orders m) u ≡ has_row m (before orders u)
has_before m orders u has are =
    ap (λ (t : Token). has_row (module_with orders m) t) (sym (moved_before m orders u are)) ∙ has_moved m orders (before orders u) has are

pub has_old : (m : Module) (orders : Orders) (u : Token) → HasTables m → AreOrders m orders → has_row (module_with orders m) u ≡ true
    → has_row m (record { table = u.table; row = old_row (orders u.table) u.row }) ≡ true
has_old m orders u has are there = sym (has_before m orders u has are) ∙ there

-- the number of a row is one of the table's
within : {A : Type 0} (xs : List A) (i : ℕ) (x : A) → slice_get xs i ≡ Some x → i < length xs
within [] i x h = absurd cc
within (y ∷ ys) zero x h = omega arith
within (y ∷ ys) (suc i) x h = omega (arith, within ys i x h)

row_low : (rows : List Row) (row : ℕ) (r : Row) → row_at rows row ≡ Some r → (1 ≤ row) × (row ≤ length rows)
row_low rows zero r e = absurd cc
row_low rows (suc i) r e = let b = within rows i r e in (omega arith, omega arith)

at_row : (f : Token → Token) (t : ℕ) (order : List ℕ) (rows : List Row) (row : ℕ) (r : Row) → IsOrder (length rows) order → row_at rows row ≡ Some r
    → row_at (rows_moved f t order rows) (place_in_order order row) ≡ Some (row_moved f t r)
unfolding rows_moved
at_row f t order rows row r o e =
    let b = row_low rows row r e in
    let w = order_has (length rows) order row o b.0 b.1 in
    let s : w.0 + 1 ≡ suc w.0 = omega arith in
    let g : ℕ → Row = λ k. row_moved f t (unwrap_or (row_at rows k) (childless t [])) in
    let here : slice_get (map g order) w.0 ≡ Some (row_moved f t r) =
    get_map g order w.0 ∙ ap (option_map g) w.1 ∙ ap (λ (x : Option Row). Some (row_moved f t (unwrap_or x (childless t [])))) e in
    ap (row_at (map g order)) (new_at (length rows) order w.0 row o w.1 ∙ s) ∙ here

-- the row at the new place is the old one with its tokens moved
pub moved_row : (m : Module) (orders : Orders) (t : Token) (r : Row) → AreOrders m orders → t.table < 0x2D → row_of m t ≡ Some r
    → row_of (module_with orders m) (moved_by orders t) ≡ Some (row_moved (moved_by orders) t.table r)
unfolding row_of moved_by
moved_row m orders t r are low e =
    ap (λ (rows : List Row). row_at rows (place_in_order (orders t.table) t.row)) (rows_low m orders t.table low)
    ∙ at_row (moved_by orders) t.table (orders t.table) (rows_in m t.table) t.row r (is_order m orders t.table are) e

pub moved_row_in : (m : Module) (orders : Orders) (t : Token) (r : Row) → HasTables m → AreOrders m orders → row_of m t ≡ Some r
    → row_of (module_with orders m) (moved_by orders t) ≡ Some (row_moved (moved_by orders) t.table r)
unfolding row_of moved_by
moved_row_in m orders t r has are e =
    ap (λ (rows : List Row). row_at rows (place_in_order (orders t.table) t.row)) (rows_new m orders t.table has are)
    ∙ at_row (moved_by orders) t.table (orders t.table) (rows_in m t.table) t.row r (is_order m orders t.table are) e

-- what is no row is none at its place
no_row : (m : Module) (u : Token) (o : Option Row) → row_of m u ≡ o → has_row m u ≡ false → row_of m u ≡ None
no_row m u None e h = e
no_row m u (Some r) e h = let there = has_cells m u ∙ ap (λ (x : Option Row). is_some (option_map (λ (y : Row). y.cells) x)) e in absurd (both there h)
  where
    both : {b : Bool} → b ≡ true → b ≡ false → ⊥
    both a b = absurd cc

none_there : (m : Module) (u : Token) → row_of m u ≡ None → has_row m u ≡ false
none_there m u e = has_cells m u ∙ ap (λ (x : Option Row). is_some (option_map (λ (y : Row). y.cells) x)) e

row_by : (m q : Module) (f : Token → Token) (t u : Token) → has_row q u ≡ has_row m t
    → ((r : Row) → row_of m t ≡ Some r → row_of q u ≡ Some (row_moved f t.table r))
    → row_of q u ≡ option_map (row_moved f t.table) (row_of m t)
row_by m q f t u has some = by_row (row_of m t) refl
  where
    by_row : (o : Option Row) → row_of m t ≡ o → row_of q u ≡ option_map (row_moved f t.table) o
    by_row None e = no_row q u (row_of q u) refl (has ∙ none_there m t e)
    by_row (Some r) e = some r e

-- so at each token: a row with its tokens moved, or none
pub row_any : (m : Module) (orders : Orders) (t : Token) → HasTables m → AreOrders m orders
    → row_of (module_with orders m) (moved_by orders t) ≡ option_map (row_moved (moved_by orders) t.table) (row_of m t)
row_any m orders t has are =
    row_by m (module_with orders m) (moved_by orders) t (moved_by orders t) (has_moved m orders t has are) (λ r e. moved_row_in m orders t r has are e)

pub row_any_low : (m : Module) (orders : Orders) (t : Token) → AreOrders m orders → t.table < 0x2D
    → row_of (module_with orders m) (moved_by orders t) ≡ option_map (row_moved (moved_by orders) t.table) (row_of m t)
row_any_low m orders t are low =
    row_by m (module_with orders m) (moved_by orders) t (moved_by orders t) (has_moved_low m orders t are low) (λ r e. moved_row m orders t r are low e)

-- a row of the new module, and which one it was
pub record WasRow (f : Token → Token) (t : ℕ) (rows : List Row) (q : Row) : Type 0 where
  pub at : ℕ
  pub row : Row
  pub get : slice_get rows at ≡ Some row
  pub is : q ≡ row_moved f t row

from_order : (f : Token → Token) (t : ℕ) (rows : List Row) (row : ℕ) (q : Row) → 1 ≤ row → row ≤ length rows
    → q ≡ row_moved f t (unwrap_or (row_at rows row) (childless t [])) → WasRow f t rows q
from_order f t rows zero q low high e = absurd (omega arith)
from_order f t rows (suc k) q low high e =
    let w = get_within rows k (omega arith) in
    record { at = k; row = w.0; get = w.1; is = e ∙ ap (λ (x : Option Row). row_moved f t (unwrap_or x (childless t []))) w.1 }

from_row : (f : Token → Token) (t : ℕ) (order : List ℕ) (rows : List Row) (n : ℕ) (q : Row) → IsOrder (length rows) order
    → slice_get (rows_moved f t order rows) n ≡ Some q → WasRow f t rows q
unfolding rows_moved
from_row f t order rows n q o e =
    by_get (slice_get order n) refl (sym (get_map (λ row. row_moved f t (unwrap_or (row_at rows row) (childless t []))) order n) ∙ e)
  where
    by_get : (x : Option ℕ) → slice_get order n ≡ x → option_map (λ row. row_moved f t (unwrap_or (row_at rows row) (childless t []))) x ≡ Some q
        → WasRow f t rows q
    by_get None at h = absurd cc
    by_get (Some row) at h =
        let b = order_bounds (length rows) order n row o at in
        from_order f t rows row q b.0 b.1 (ap (λ (y : Option Row). unwrap_or y q) (sym h))

pub was_row : (m : Module) (orders : Orders) (t n : ℕ) (q : Row) → HasTables m → AreOrders m orders → slice_get (rows_in (module_with orders m) t) n ≡ Some q
    → WasRow (moved_by orders) t (rows_in m t) q
was_row m orders t n q has are e =
    from_row (moved_by orders) t (orders t) (rows_in m t) n q (is_order m orders t are) (rw (rows_new m orders t has are) at e)

-- the cells of a row that was moved
pub cells_at : (f : Token → Token) (t k : ℕ) (cells : List Cell) (i : ℕ)
    → slice_get (cells_moved f t k cells) i ≡ option_map (cell_moved f t (k + i)) (slice_get cells i)
unfolding cells_moved
cells_at f t k [] i = refl
cells_at f t k (c ∷ rest) zero = let e : k ≡ k + 0 = omega arith in ap (λ n. Some (cell_moved f t n c)) e
cells_at f t k (c ∷ rest) (suc i) =
    let e : k + 1 + i ≡ k + suc i = omega arith in
    cells_at f t (k + 1) rest i ∙ ap (λ n. option_map (cell_moved f t n) (slice_get rest i)) e

pub cells_many : (f : Token → Token) (t k : ℕ) (cells : List Cell) → length (cells_moved f t k cells) ≡ length cells
unfolding cells_moved
cells_many f t k [] = refl
cells_many f t k (c ∷ rest) = ap suc (cells_many f t (k + 1) rest)

cell_in : (f : Token → Token) (t i : ℕ) (o : Option Row)
    → option_and_then (λ (r : Row). slice_get r.cells i) (option_map (row_moved f t) o)
    ≡ option_map (cell_moved f t i) (option_and_then (λ (r : Row). slice_get r.cells i) o)
unfolding row_moved
cell_in f t i None = refl
cell_in f t i (Some r) = let e : 0 + i ≡ i = omega arith in cells_at f t 0 r.cells i ∙ ap (λ n. option_map (cell_moved f t n) (slice_get r.cells i)) e

-- the cell in a column of a moved row is the old one with its tokens moved
pub moved_cell : (m : Module) (orders : Orders) (t : Token) (i : ℕ) → HasTables m → AreOrders m orders
    → cell_of (module_with orders m) (moved_by orders t) i ≡ option_map (cell_moved (moved_by orders) t.table i) (cell_of m t i)
unfolding cell_of
moved_cell m orders t i has are =
    ap (λ (o : Option Row). option_and_then (λ (r : Row). slice_get r.cells i) o) (row_any m orders t has are)
    ∙ cell_in (moved_by orders) t.table i (row_of m t)

pub moved_cell_low : (m : Module) (orders : Orders) (t : Token) (i : ℕ) → AreOrders m orders → t.table < 0x2D
    → cell_of (module_with orders m) (moved_by orders t) i ≡ option_map (cell_moved (moved_by orders) t.table i) (cell_of m t i)
unfolding cell_of
moved_cell_low m orders t i are low =
    ap (λ (o : Option Row). option_and_then (λ (r : Row). slice_get r.cells i) o) (row_any_low m orders t are low)
    ∙ cell_in (moved_by orders) t.table i (row_of m t)

-- what stands in a column: a number stays, a token moves
number_by : (f : Token → Token) (t i : ℕ) (o : Option Cell) → number_of_cell (option_map (cell_moved f t i) o) ≡ number_of_cell o
number_by f t i None = refl
number_by f t i (Some (number n)) = refl
number_by f t i (Some (text b)) = refl
number_by f t i (Some (blob b)) = refl
number_by f t i (Some (guid b)) = refl
number_by f t i (Some (refer u)) = refl
number_by f t i (Some (body b)) = refl
number_by f t i (Some (field b)) = refl

pub number_moved : (m : Module) (orders : Orders) (t : Token) (i : ℕ) → HasTables m → AreOrders m orders
    → number_at (cells_of (module_with orders m)) (moved_by orders t) i ≡ number_at (cells_of m) t i
unfolding number_at
number_moved m orders t i has are =
    ap number_of_cell (cell_there (module_with orders m) (moved_by orders t) i ∙ moved_cell m orders t i has are)
    ∙ number_by (moved_by orders) t.table i (cell_of m t i)
    ∙ ap number_of_cell (sym (cell_there m t i))

token_by : (f : Token → Token) (t i : ℕ) (o : Option Cell) → f nil ≡ nil → token_of_cell (option_map (cell_moved f t i) o) ≡ f (token_of_cell o)
token_by f t i None e = sym e
token_by f t i (Some (number n)) e = sym e
token_by f t i (Some (text b)) e = sym e
token_by f t i (Some (blob b)) e = sym e
token_by f t i (Some (guid b)) e = sym e
token_by f t i (Some (refer u)) e = refl
token_by f t i (Some (body b)) e = sym e
token_by f t i (Some (field b)) e = sym e

pub token_moved : (m : Module) (orders : Orders) (t : Token) (i : ℕ) → HasTables m → AreOrders m orders
    → token_at (cells_of (module_with orders m)) (moved_by orders t) i ≡ moved_by orders (token_at (cells_of m) t i)
unfolding token_at
token_moved m orders t i has are =
    ap token_of_cell (cell_there (module_with orders m) (moved_by orders t) i ∙ moved_cell m orders t i has are)
    ∙ token_by (moved_by orders) t.table i (cell_of m t i) (nil_stays m orders are)
    ∙ ap (λ (o : Option Cell). moved_by orders (token_of_cell o)) (sym (cell_there m t i))

-- a blob of signatures has its tokens moved
pub signature_there : (m : Module) (orders : Orders) (t : Token) (i : ℕ) (bytes : List ℕ) → HasTables m → AreOrders m orders
    → holds_signatures t.table i ≡ true → cell_of m t i ≡ Some (blob bytes)
    → bytes_at (cells_of (module_with orders m)) (moved_by orders t) i ≡ signature_moved (moved_by orders) t.table bytes
unfolding bytes_at
signature_there m orders t i bytes has are column e =
    let there : cell_of (module_with orders m) (moved_by orders t) i ≡ Some (cell_moved (moved_by orders) t.table i (blob bytes)) =
    moved_cell m orders t i has are ∙ ap (option_map (cell_moved (moved_by orders) t.table i)) e in
    ap bytes_of_cell (cell_there (module_with orders m) (moved_by orders t) i ∙ there) ∙ rw column refl
