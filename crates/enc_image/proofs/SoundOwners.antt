-- The children of the module in a base: each row has its runs, and each child row has just one owner.
use Rattle.std.proofs.Common.{◌≡◌, ℕ, zero, suc, ◌+◌, ◌-◌, ◌<◌, ◌≤◌, Bool, true, false, List, [], ◌∷◌, length, map, Option, Some, None, refl, sym, ap, ◌∙◌, inl, inr, cond, arith}
use Rattle.std.specs.Prelude.{IsTrue, ◌==◌, ◌&&◌, if◌then◌else◌, count_by, flat_map, slice_get, nat_le, nat_lt}
use Rattle.std.specs.List.{list_any, range_with_len}
use Rattle.std.proofs.lemmas.Bool.{cases_lt}
use Rattle.std.proofs.lemmas.Bool.Decides.{nat_tests}
use Rattle.std.proofs.lemmas.List.{length-map}
use Rattle.std.proofs.lemmas.List.Sums.{sum_by-append, sum_by-cons}
use Rattle.enc_base.specs.Token.{nth_row}
use Rattle.enc_base.specs.declared.token.Token.{Token}
use Rattle.enc_base.proofs.First.{first_none, first_more, silent}
use Rattle.enc_base.specs.Order.{first_below}
use Rattle.enc_schema.specs.declared.column.Column.TheVariants.{Index}
use Rattle.enc_schema.specs.Children.{is_child_table, owner_table, run_column, ptr_of, runs_in}
use Rattle.enc_schema.proofs.ChildTables.{by_child}
use Rattle.enc_rows.specs.Layout.{rows_of}
use Rattle.enc_rows.specs.Source.{Source}
use Rattle.enc_rows.specs.Sums.{below}
use Rattle.enc_rows.specs.Fault.{index_fault, index_fault_in}
use Rattle.enc_rows.specs.Runs.{raw_number, goes_by_ptr, run_rows, by_ptr, named_at, children_of, all_children, times_named}
use Rattle.enc_rows.specs.Owners.{run_bound}
use Rattle.enc_rows.proofs.Silent.{ptr_column_is, good_runs}
use Rattle.enc_rows.proofs.Owned.{AreGood, bound_some, bound_limit, all_children_are}
use Rattle.enc_plain.specs.Module.{Row, rows_in, has_row, kids_at, kids_of, owner_of}
use Rattle.enc_plain.specs.Fits.{HasRuns}
use Rattle.enc_image.specs.Base.{rows_from, cells_fault, row_in, module_in}
use Rattle.enc_plain.specs.Sound.{is_part, all_kids, IsOwned}
use Rattle.enc_plain.proofs.Owned.{kid_owner}
use Rattle.enc_image.proofs.Good.{good_index, named_once, no_index_fault}
use Rattle.enc_image.proofs.Rows.{rows_there, rows_past, count_there}
use Rattle.enc_image.proofs.Kids.{kids_from, kids_are, row_kids, owner_low, owner_part, owner_rows}

count_cons : (p : ℕ → Bool) (x : ℕ) (xs : List ℕ) → count_by p (x ∷ xs) ≡ cond (p x) 1 0 + count_by p xs
count_cons p x xs = sum_by-cons (λ (k : ℕ). cond (p k) 1 0) x xs

made_by : {X Y : Type 0} (f : X → Y) (xs : List X) (n : ℕ) (y : Y) → slice_get (map f xs) n ≡ Some y → (x : X) × (f x ≡ y)
made_by f [] n y e = absurd cc
made_by f (x ∷ xs) zero y e = let is : f x ≡ y = cc in (x, is)
made_by f (x ∷ xs) (suc n) y e = made_by f xs n y e

runs_of_row : (s : Source) (t n : ℕ) (r : Row) (part : Bool) → is_part t ≡ part → slice_get (if part then map (row_in s t) (below (rows_of s.layout t)) else []) n ≡ Some r → length r.kids ≡ length (runs_in t)
runs_of_row s t n r false p e = absurd cc
runs_of_row s t n r true p e =
    let w = made_by (row_in s t) (below (rows_of s.layout t)) n r e in
    rw (← w.1) (length-map (runs_in t) (λ child. children_of (rows_from s) t (run_column child) child w.0))

runs_at : (s : Source) (t n : ℕ) (r : Row) → slice_get (rows_in (module_in s) t) n ≡ Some r → length r.kids ≡ length (runs_in t)
runs_at s t n r e =
    elim (cases_lt t 0x2D) [
      | inl low ↦ runs_of_row s t n r (is_part t) refl (rw (rows_there s t low) at e)
      | inr past ↦ let none = rw (rows_past s t past) at e in absurd cc
    ]

-- every row of a base has a list of children for each of its table's runs
pub begun_runs : (s : Source) → HasRuns (module_in s)
begun_runs s = record { each = runs_at s }

map_kids : (f : Row → List ℕ) (g : ℕ → Row) (h : ℕ → List ℕ) (xs : List ℕ) → ((n : ℕ) → f (g n) ≡ h n) → flat_map f (map g xs) ≡ flat_map h xs
map_kids f g h [] same = refl
map_kids f g h (x ∷ xs) same = rw (same x, map_kids f g h xs same) refl

all_are : (s : Source) (t : ℕ) → is_child_table t ≡ true → all_kids (module_in s) t ≡ all_children (rows_from s) t
unfolding all_children
all_are s t there =
    ap (flat_map (λ (r : Row). kids_at r t)) (owner_rows s t there) ∙ map_kids (λ (r : Row). kids_at r t) (row_in s (owner_table t)) (children_of (rows_from s) (owner_table t) (run_column t) t) (below (rows_of s.layout (owner_table t))) (λ n. row_kids s t n there)

small : (t : ℕ) → is_child_table t ≡ true → t < 0x2D
small t there = by_child (λ k. k < 0x2D) (omega arith) (omega arith) (omega arith) (omega arith) (omega arith) t there

small_ptr : (t : ℕ) → is_child_table t ≡ true → ptr_of t < 0x2D
small_ptr t there = by_child (λ k. ptr_of k < 0x2D) (omega arith) (omega arith) (omega arith) (omega arith) (omega arith) t there

part_there : (t : ℕ) → is_child_table t ≡ true → is_part t ≡ true
part_there t there = by_child (λ k. is_part k ≡ true) refl refl refl refl refl t there

none_below : {A : Type 0} (rule : ℕ → Option A) (n : ℕ) → ((k : ℕ) → k < n → rule k ≡ None) → first_below rule n ≡ None
none_below rule zero h = first_none rule
none_below rule (suc n) h =
    let e : suc n ≡ n + 1 = omega arith in
    rw e (first_more rule n (none_below rule n (λ k l. h k (omega arith))) ∙ h n (omega arith))

good_rows : (s : Source) (t : ℕ) → cells_fault s ≡ None → is_child_table t ≡ true → AreGood (rows_from s) t
unfolding index_fault
good_rows s t sound there =
    let none = no_index_fault s sound in
    let low = small t there in
    good_runs (rows_from s) t there (none_below (index_fault_in (rows_from s)) t (λ k l. silent (index_fault_in (rows_from s)) 0x40 k none (omega arith)))

by_ptr_none : (n row many : ℕ) → n ≤ many → (1 ≤ row → row ≤ many → ⊥) → count_by (λ k. k == row) (by_ptr n) ≡ 0
by_ptr_none zero row many le out = refl
by_ptr_none (suc n) row many le out =
    let no_row : (suc n == row) ≡ false = differs (suc n) row (λ e. out (omega arith) (omega arith)) in
    count_cons (λ k. k == row) (suc n) [] ∙ rw no_row refl
  where
    differs : (a b : ℕ) → (a ≡ b → ⊥) → (a == b) ≡ false
    differs a b h = grind (arith, nat_tests)

place_none : (s : Source) (t row p : ℕ) (b : Bool) → goes_by_ptr s.layout t ≡ b → cells_fault s ≡ None → is_child_table t ≡ true → 0 < p → p < run_rows s.layout t + 1 → (1 ≤ row → row ≤ rows_of s.layout t → ⊥) → count_by (λ k. k == row) (named_at (rows_from s) t p) ≡ 0
unfolding named_at
place_none s t row p false e sound there low high out =
    let many : run_rows s.layout t ≡ rows_of s.layout t = rw e refl in
    rw e (by_place p row (rows_of s.layout t) low (omega arith) out)
  where
    by_place : (p row many : ℕ) → 0 < p → p ≤ many → (1 ≤ row → row ≤ many → ⊥) → count_by (λ k. k == row) (p ∷ []) ≡ 0
    by_place zero row many low high out = absurd (omega arith)
    by_place (suc n) row many low high out = by_ptr_none (suc n) row many high out
place_none s t row p true e sound there low high out =
    let many : run_rows s.layout t ≡ rows_of s.layout (ptr_of t) = rw e refl in
    let f : p - 1 + 1 ≡ p = omega arith in
    let fits : nat_lt (rows_of s.layout t) (raw_number (rows_from s) (nth_row (ptr_of t) (p - 1)) 0) ≡ false = good_index s (ptr_of t) (p - 1) 0 (Index t) (no_index_fault s sound) (small_ptr t there) (omega arith) (ptr_column_is t there) in
    let within : nat_lt (rows_of s.layout t) (raw_number (rows_from s) (record { table = ptr_of t; row = p }) 0) ≡ false = rw f at fits in
    let le : raw_number (rows_from s) (record { table = ptr_of t; row = p }) 0 ≤ rows_of s.layout t = at_most _ _ within in
    rw e (by_ptr_none (raw_number (rows_from s) (record { table = ptr_of t; row = p }) 0) row (rows_of s.layout t) le out)
  where
    at_most : (a b : ℕ) → nat_lt a b ≡ false → b ≤ a
    at_most a b h = grind (arith, nat_tests)

range_none : (p : ℕ → Bool) (f : ℕ → List ℕ) (a n : ℕ) → ((k : ℕ) → a ≤ k → k < a + n → count_by p (f k) ≡ 0) → count_by p (flat_map f (range_with_len a n)) ≡ 0
range_none p f a zero h = refl
range_none p f a (suc n) h =
    sum_by-append (λ k. cond (p k) 1 0) (f a) (flat_map f (range_with_len (a + 1) n)) ∙ rw (h a (omega arith) (omega arith), range_none p f (a + 1) n (λ k low high. h k (omega arith) (omega arith))) refl

none_outside : (s : Source) (t row : ℕ) → cells_fault s ≡ None → is_child_table t ≡ true → (1 ≤ row → row ≤ rows_of s.layout t → ⊥) → count_by (λ k. k == row) (all_children (rows_from s) t) ≡ 0
none_outside s t row sound there out =
    let good = good_rows s t sound there in
    let a = run_bound (rows_from s) t 0 in
    let some = bound_some (rows_from s) t good in
    let last = bound_limit (rows_from s) t 0 good in
    ap (count_by (λ k. k == row)) (all_children_are (rows_from s) t good) ∙ range_none (λ k. k == row) (named_at (rows_from s) t) a (run_rows s.layout t + 1 - a) (λ p low high. place_none s t row p (goes_by_ptr s.layout t) refl sound there (omega arith) (omega arith) out)

once_within : (s : Source) (t row : ℕ) → cells_fault s ≡ None → is_child_table t ≡ true → 1 ≤ row → row ≤ rows_of s.layout t → count_by (λ k. k == row) (all_children (rows_from s) t) ≡ 1
unfolding times_named
once_within s t row sound there low high =
    let e : row - 1 + 1 ≡ row = omega arith in
    rw e at (named_once s t (row - 1) (no_index_fault s sound) there (small t there) (omega arith))

both_of : (row n x : ℕ) → ((1 ≤ row → row ≤ n → ⊥) → x ≡ 0) → (1 ≤ row → row ≤ n → x ≡ 1) → x ≡ cond (nat_le 1 row && nat_le row n) 1 0
both_of zero n x out within = out (λ low high. omega arith)
both_of (suc r) n x out within =
    let low : nat_le 1 (suc r) ≡ true = grind (arith, nat_tests) in
    elim (cases_lt n (suc r)) [
      | inl past ↦ let e : nat_le (suc r) n ≡ false = grind (arith, nat_tests) in rw (low, e) (out (λ l h. omega arith))
      | inr le ↦ let e : nat_le (suc r) n ≡ true = grind (arith, nat_tests) in rw (low, e) (within (omega arith) le)
    ]

once_in : (s : Source) → cells_fault s ≡ None → (t row : ℕ) → is_child_table t ≡ true → count_by (λ k. k == row) (all_kids (module_in s) t) ≡ cond (nat_le 1 row && nat_le row (length (rows_in (module_in s) t))) 1 0
once_in s sound t row there =
    ap (count_by (λ k. k == row)) (all_are s t there) ∙ both_of row (rows_of s.layout t) _ (none_outside s t row sound there) (once_within s t row sound there) ∙ ap (λ n. cond (nat_le 1 row && nat_le row n) 1 0) (sym (count_there s t (small t there) (part_there t there)))

-- in a base that isn't refused each child row has just one owner
pub begun_owned : (s : Source) → cells_fault s ≡ None → IsOwned (module_in s)
begun_owned s sound = record { once = once_in s sound }

-- a row of an owners' table is a row of the module
owner_stands : (s : Source) (child n : ℕ) → is_child_table child ≡ true → n < rows_of s.layout (owner_table child) → IsTrue (has_row (module_in s) (nth_row (owner_table child) n))
unfolding has_row
owner_stands s child n there row =
    let many : length (rows_in (module_in s) (owner_table child)) ≡ rows_of s.layout (owner_table child) = count_there s (owner_table child) (owner_low child there) (owner_part child there) in
    let low : nat_lt 0 (n + 1) ≡ true = grind (arith, nat_tests) in
    let high : nat_le (n + 1) (rows_of s.layout (owner_table child)) ≡ true = grind (arith, nat_tests) in
    rw (many, low, high) refl

-- whichever owner's run names a child is its owner
pub any_owner : (s : Source) (child : Token) (n : ℕ) → cells_fault s ≡ None → is_child_table child.table ≡ true → n < rows_of s.layout (owner_table child.table) → list_any (λ (k : ℕ). k == child.row) (kids_from s child.table n) ≡ true → owner_of (module_in s) child ≡ Some (nth_row (owner_table child.table) n)
any_owner s child n sound there row here =
    let first : n + 1 - 1 ≡ n = omega arith in
    let are : kids_of (module_in s) (nth_row (owner_table child.table) n) child.table ≡ kids_from s child.table n = kids_are s (nth_row (owner_table child.table) n) child.table (owner_stands s child.table n there row) there refl ∙ ap (kids_from s child.table) first in
    kid_owner (module_in s) (nth_row (owner_table child.table) n) child (begun_owned s sound) there (ap (list_any (λ (k : ℕ). k == child.row)) are ∙ here)
