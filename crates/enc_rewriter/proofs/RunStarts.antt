-- Where runs begin: behind the children of the owners before.
use Rattle.std.proofs.Common.{◌≡◌, ℕ, zero, suc, ◌+◌, ◌-◌, ◌<◌, ◌≤◌, Bool, true, false, List, [], ◌∷◌, ◌++◌, length, map, take, Some, refl, sym, ap, ◌∙◌, arith}
use Rattle.std.specs.Prelude.{flat_map, slice_get, ◌==◌, ◌&&◌, if◌then◌else◌}
use Rattle.std.proofs.lemmas.Bool.Decides.{nat_tests}
use Rattle.std.proofs.lemmas.List.{length-append, map-append}
use Rattle.std.specs.List.{range_with_len}
use Rattle.enc_rows.specs.Sums.{below}
use Rattle.enc_rows.proofs.Runs.{range_more}
use Rattle.enc_base.specs.Token.{nth_row}
use Rattle.enc_plain.specs.Module.{Module, Row, rows_in, row_of, row_at, has_row, kids_at, kids_of, kids_with}
use Rattle.std.specs.Prelude.{◌^◌}
use Rattle.enc_plain.specs.Sound.{row_count, IsOwned, IsSound}
use Rattle.enc_plain.proofs.Owned.{all_kids_few}
use Rattle.enc_schema.specs.Children.{is_child_table, owner_table}
use Rattle.std.specs.Prelude.{slice_index, nat_le, ◌||◌}
use Rattle.enc_base.specs.declared.token.Token.{Token}
use Rattle.enc_schema.specs.Schema.{columns_in, column_in}
use Rattle.enc_schema.specs.declared.column.Column.TheVariants.{Run}
use Rattle.std.proofs.Common.{subst}
use Rattle.std.specs.List.{list_all, list_any}
use Rattle.std.proofs.lemmas.List.FromFn.{length-map-range_with_len}
use Rattle.std.proofs.lemmas.Option.{get_or_from_slice_get}
use Rattle.enc_plain.proofs.Columns.{both_left, both_right}
use Rattle.enc_plain.proofs.KindsOf.{row_bounds}
use Rattle.enc_rows.proofs.Listed.{get_below}
use Rattle.enc_schema.proofs.ChildTables.{by_child}
use Rattle.enc_schema.specs.Schema.{list_at, schema}
use Rattle.enc_schema.specs.declared.column.Column.{Column}
use Rattle.enc_rewriter.specs.Numbers.{run_first, kids_before, runs_begin, RunLists, list_of_runs, AreRuns}

-- the first run begins at 1
pub first_run : (m : Module) (child : ℕ) → run_first m child 1 ≡ 1
unfolding run_first kids_before
first_run m child = refl

one_more : {A : Type 0} (f : A → List ℕ) (xs : List A) (n : ℕ) (x : A) → slice_get xs n ≡ Some x → length (flat_map f (take (suc n) xs)) ≡ length (flat_map f (take n xs)) + length (f x)
one_more f [] n x e = absurd cc
one_more f (y ∷ ys) zero x e =
    let is : y ≡ x = cc in
    rw (is, length-append (f x) []) (omega arith)
one_more f (y ∷ ys) (suc n) x e =
    rw (length-append (f y) (flat_map f (take (suc n) ys)), length-append (f y) (flat_map f (take n ys)), one_more f ys n x e) (omega arith)

pub some_there : {A : Type 0} (xs : List A) (n : ℕ) → n < length xs → (x : A) × (slice_get xs n ≡ Some x)
some_there [] n low = absurd (omega (arith, low))
some_there (x ∷ xs) zero low = (x, refl)
some_there (x ∷ xs) (suc n) low = some_there xs n (omega (arith, low))

kids_if : (m : Module) (t child n : ℕ) (r : Row) (a b : Bool) → is_child_table child ≡ a → (t == owner_table child) ≡ b → a ≡ true → t ≡ owner_table child
    → slice_get (rows_in m t) n ≡ Some r → (if a && b then kids_with (row_at (rows_in m t) (suc n)) child else []) ≡ kids_at r child
kids_if m t child n r true true a b c d e = rw e refl
kids_if m t child n r true false a b c d e = let same : (t == owner_table child) ≡ true = grind (arith, nat_tests) in absurd cc
kids_if m t child n r false b a2 b2 c d e = absurd cc

-- the children of an owner by its row
pub kids_of_row : (m : Module) (child n : ℕ) (r : Row) → is_child_table child ≡ true → slice_get (rows_in m (owner_table child)) n ≡ Some r
    → kids_of m (nth_row (owner_table child) n) child ≡ kids_at r child
unfolding kids_of row_of
kids_of_row m child n r there e =
    let s : n + 1 ≡ suc n = omega arith in
    rw s (kids_if m (owner_table child) child n r (is_child_table child) (owner_table child == owner_table child) refl refl there refl e)

-- a run begins behind that of the row before and its children
pub next_run : (m : Module) (child n : ℕ) → is_child_table child ≡ true → n < row_count m (owner_table child)
    → run_first m child (n + 1 + 1) ≡ run_first m child (n + 1) + length (kids_of m (nth_row (owner_table child) n) child)
unfolding run_first kids_before
next_run m child n there low =
    let x = some_there (rows_in m (owner_table child)) n low in
    let a : n + 1 + 1 - 1 ≡ suc n = omega arith in
    let b : n + 1 - 1 ≡ n = omega arith in
    rw (a, b, kids_of_row m child n x.0 there x.1, one_more (λ (r : Row). kids_at r child) (rows_in m (owner_table child)) n x.0 x.1) (omega arith)

front_few : {A : Type 0} (f : A → List ℕ) (xs : List A) (n : ℕ) → length (flat_map f (take n xs)) ≤ length (flat_map f xs)
front_few f [] zero = omega arith
front_few f [] (suc n) = omega arith
front_few f (x ∷ xs) zero = omega arith
front_few f (x ∷ xs) (suc n) = rw (length-append (f x) (flat_map f (take n xs)), length-append (f x) (flat_map f xs)) (omega (arith, front_few f xs n))

-- and none behind all children
pub run_few : (m : Module) (child row : ℕ) → IsOwned m → is_child_table child ≡ true → run_first m child row ≤ row_count m child + 1
unfolding run_first kids_before
run_few m child row owned there =
    let front = front_few (λ (r : Row). kids_at r child) (rows_in m (owner_table child)) (row - 1) in
    omega (arith, front, all_kids_few m child owned there)

pub map_more : (f : ℕ → ℕ) (n : ℕ) → map f (below (n + 1)) ≡ map f (below n) ++ f n ∷ []
unfolding below
map_more f n = rw (range_more 0 n, map-append f (range_with_len 0 n) ((0 + n) ∷ [])) (let z : 0 + n ≡ n = omega arith in ap (λ k. map f (range_with_len 0 n) ++ f k ∷ []) z)

pub begin_none : (m : Module) (child : ℕ) → [] ≡ runs_begin m child 0
unfolding runs_begin below
begin_none m child = refl

pub begin_more : (m : Module) (child n : ℕ) (old new : List ℕ) (first : ℕ) → old ≡ runs_begin m child n → first ≡ run_first m child (n + 1) → new ≡ old ++ first ∷ []
    → new ≡ runs_begin m child (n + 1)
unfolding runs_begin
begin_more m child n old new first before is after =
    after ∙ ap (λ xs. xs ++ first ∷ []) before ∙ ap (λ k. map (λ j. run_first m child (j + 1)) (below n) ++ k ∷ []) is ∙ sym (map_more (λ j. run_first m child (j + 1)) n)

pub fits_next : (m : Module) (child n first many : ℕ) → IsSound m → is_child_table child ≡ true → n < row_count m (owner_table child)
    → first ≡ run_first m child (n + 1) → many ≡ length (kids_of m (nth_row (owner_table child) n) child) → first + many < 2 ^ 32
fits_next m child n first many sound there low is kids =
    let next = next_run m child n there low in
    let few = run_few m child (n + 1 + 1) sound.owners.owned there in
    let small = sound.counts.few child in
    omega (arith, next, few, small, is, kids)

-- a run's list has its place for each owner
at_place : (f : ℕ → ℕ) (n k : ℕ) → k < n → slice_index (map f (below n)) k ≡ f k
at_place f n k low = get_or_from_slice_get (map f (below n)) k (f k) 0 (get_below f n k low)

in_runs : (m : Module) (child n row : ℕ) → 0 < row → row ≤ n → (slice_index (runs_begin m child n) (row - 1) ≡ run_first m child row) × (row - 1 < length (runs_begin m child n))
unfolding runs_begin below
in_runs m child n row low high =
    let e : row - 1 + 1 ≡ row = omega arith in
    let long : length (map (λ (k : ℕ). run_first m child (k + 1)) (range_with_len 0 n)) ≡ n = length-map-range_with_len (λ (k : ℕ). run_first m child (k + 1)) 0 n in
    (at_place (λ k. run_first m child (k + 1)) n (row - 1) (omega (arith, low, high)) ∙ ap (run_first m child) e, omega (arith, long, low, high))

-- a column of runs stands in the table of its owners
abbrev owned : ℕ → Column → Bool
owned t (Run child) = t == owner_table child && is_child_table child
owned t _ = true

abbrev all_owned : ℕ → List (List Column) → Bool
all_owned k [] = true
all_owned k (columns ∷ rest) = list_all (owned k) columns && all_owned (suc k) rest

in_schema : all_owned 0 schema ≡ true
in_schema = refl

in_list : (t : ℕ) (columns : List Column) (i : ℕ) (c : Column) → list_all (owned t) columns ≡ true → slice_get columns i ≡ Some c → owned t c ≡ true
in_list t [] i c all e = absurd cc
in_list t (x ∷ xs) zero c all e = let is : x ≡ c = cc in rw (← is) (both_left (owned t x) _ all)
in_list t (x ∷ xs) (suc i) c all e = in_list t xs i c (both_right (owned t x) _ all) e

in_table : (lists : List (List Column)) (k t i : ℕ) (c : Column) → all_owned k lists ≡ true → slice_get (list_at lists t) i ≡ Some c → owned (k + t) c ≡ true
in_table [] k t i c all e = absurd cc
in_table (x ∷ xs) k zero i c all e = let z : k + 0 ≡ k = omega arith in rw z (in_list k x i c (both_left (list_all (owned k) x) _ all) e)
in_table (x ∷ xs) k (suc t) i c all e = let z : k + suc t ≡ suc k + t = omega arith in rw z (in_table xs (suc k) t i c (both_right (list_all (owned k) x) _ all) e)

owner_is : (t child : ℕ) → (t == owner_table child && is_child_table child) ≡ true → (t ≡ owner_table child) × (is_child_table child ≡ true)
owner_is t child e = let a = both_left (t == owner_table child) (is_child_table child) e in (grind (arith, nat_tests, a), both_right (t == owner_table child) (is_child_table child) e)

-- the columns of runs are those of the owners' tables
pub owners : (t i child : ℕ) → column_in t i ≡ Some (Run child) → (t ≡ owner_table child) × (is_child_table child ≡ true)
unfolding columns_in
owners t i child e = let z : 0 + t ≡ t = omega arith in owner_is t child (subst (λ k. owned k (Run child) ≡ true) z (in_table schema 0 t i (Run child) in_schema e))

run_list : (m : Module) (r : RunLists) (child : ℕ) → AreRuns m r → is_child_table child ≡ true → list_of_runs r child ≡ runs_begin m child (row_count m (owner_table child))
run_list m r child runs there = by_child (λ k. list_of_runs r k ≡ runs_begin m k (row_count m (owner_table k))) runs.fields runs.methods runs.params runs.events runs.properties child there

run_of : (m : Module) (r : RunLists) (u : Token) (child : ℕ) → AreRuns m r → has_row m u ≡ true → u.table ≡ owner_table child → is_child_table child ≡ true
    → (slice_index (list_of_runs r child) (u.row - 1) ≡ run_first m child u.row) × (u.row - 1 < length (list_of_runs r child))
run_of m r u child runs there e is =
    let row = row_bounds m u there in
    let high : u.row ≤ row_count m (owner_table child) = subst (λ t. u.row ≤ row_count m t) e row.1 in
    let at = in_runs m child (row_count m (owner_table child)) u.row row.0 high in
    let list = run_list m r child runs is in
    (ap (λ xs. slice_index xs (u.row - 1)) list ∙ at.0, subst (λ xs. u.row - 1 < length xs) (sym list) at.1)

pub run_is : (m : Module) (r : RunLists) (u : Token) (i child : ℕ) → AreRuns m r → has_row m u ≡ true → column_in u.table i ≡ Some (Run child)
    → slice_index (list_of_runs r child) (u.row - 1) ≡ run_first m child u.row
run_is m r u i child runs there e = let o = owners u.table i child e in (run_of m r u child runs there o.0 o.1).0

pub run_there : (m : Module) (r : RunLists) (u : Token) (i child : ℕ) → AreRuns m r → has_row m u ≡ true → column_in u.table i ≡ Some (Run child)
    → u.row - 1 < length (list_of_runs r child)
run_there m r u i child runs there e = let o = owners u.table i child e in (run_of m r u child runs there o.0 o.1).1

-- one of the numbers where runs begin is so large where a run is
any_mapped : (p : ℕ → Bool) (f : ℕ → ℕ) (xs : List ℕ) → list_any p (map f xs) ≡ list_any (λ n. p (f n)) xs
any_mapped p f [] = refl
any_mapped p f (x ∷ xs) = ap (λ (b : Bool). p (f x) || b) (any_mapped p f xs)

pub wide_runs : (m : Module) (r : RunLists) (child : ℕ) → AreRuns m r → is_child_table child ≡ true
    → list_any (λ n. nat_le 0x10000 n) (list_of_runs r child) ≡ list_any (λ n. nat_le 0x10000 (run_first m child (n + 1))) (below (row_count m (owner_table child)))
unfolding runs_begin
wide_runs m r child runs there =
    ap (list_any (λ n. nat_le 0x10000 n)) (run_list m r child runs there)
    ∙ any_mapped (λ n. nat_le 0x10000 n) (λ k. run_first m child (k + 1)) (below (row_count m (owner_table child)))

pub ruleset run_starts_steps = (first_run, next_run, run_few, begin_none, begin_more)

pub ruleset run_steps = (run_is, run_there)
