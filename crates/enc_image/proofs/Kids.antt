-- The children of the rows of the module in a source, and their owners.
use Rattle.std.proofs.Common.{◌≡◌, ℕ, zero, suc, ◌+◌, ◌-◌, ◌<◌, ◌≤◌, Bool, true, false, cond, List, [], ◌∷◌, length, map, get_or, Some, None, refl, ap, ◌∙◌, arith}
use Rattle.std.specs.Prelude.{◌||◌, ◌==◌, nat_lt, flat_map, count_by, position, slice_get, IsTrue}
use Rattle.std.specs.List.{list_any, range_with_len}
use Rattle.std.proofs.lemmas.List.FromFn.{get_or-map-range_with_len}
use Rattle.std.proofs.lemmas.List.Sums.{sum_by-cons, position_or_len_is}
use Rattle.std.proofs.lemmas.Bool.Decides.{nat_tests}
use Rattle.enc_base.specs.Token.{nth_row}
use Rattle.enc_base.specs.declared.token.Token.{Token}
use Rattle.enc_schema.specs.Schema.{list_at}
use Rattle.enc_schema.specs.Children.{is_child_table, owner_table, run_column, run_index, runs_in}
use Rattle.enc_schema.proofs.ChildTables.{by_child}
use Rattle.enc_rows.specs.Sums.{below}
use Rattle.enc_rows.specs.Layout.{rows_of}
use Rattle.enc_rows.specs.Runs.{table_stream, children_of, all_children, times_named}
use Rattle.enc_rows.proofs.Runs.{count_more}
use Rattle.enc_rows.specs.Source.{Source}
use Rattle.enc_plain.specs.Module.{Row, rows_in, row_of, has_row, kids_at, kids_of, has_kid, owner_of}
use Rattle.enc_image.specs.declared.open.Opened.{Opened}
use Rattle.enc_image.specs.Base.{rows_from, metadata_of, source_from, cells_fault, row_in, module_in}
use Rattle.enc_plain.specs.Sound.{is_part}
use Rattle.enc_image.specs.Seen.{IsOpened}
use Rattle.enc_rows.proofs.Listed.{length_below}
use Rattle.enc_image.proofs.Good.{named_once, no_index_fault}
use Rattle.enc_image.proofs.Rows.{rows_there, row_stands, row_there}

-- the children of a row in one of the child tables
abbrev pub kids_from : Source → ℕ → ℕ → List ℕ
kids_from s child n = children_of (rows_from s) (owner_table child) (run_column child) child n

-- the run of a child table among those of its owners
run_at : (f : ℕ → List ℕ) (child : ℕ) → is_child_table child ≡ true → list_at (map f (runs_in (owner_table child))) (run_index child) ≡ f child
run_at f child there = by_child (λ k. list_at (map f (runs_in (owner_table k))) (run_index k) ≡ f k) refl refl refl refl refl child there

-- the children of a row in one of the child tables are those of its run
pub row_kids : (s : Source) (child n : ℕ) → is_child_table child ≡ true → kids_at (row_in s (owner_table child) n) child ≡ kids_from s child n
row_kids s child n there = run_at (λ k. children_of (rows_from s) (owner_table child) (run_column k) k n) child there

-- the module's children of an owner are those of its run
pub kids_are : (s : Source) (owner : Token) (child : ℕ) → IsTrue (has_row (module_in s) owner) → is_child_table child ≡ true → owner.table ≡ owner_table child → kids_of (module_in s) owner child ≡ kids_from s child (owner.row - 1)
unfolding kids_of
kids_are s owner child row there owners =
    let same : (owner.table == owner_table child) ≡ true = grind (arith, nat_tests) in
    let at : row_of (module_in s) owner ≡ Some (row_in s (owner_table child) (owner.row - 1)) = row_there s owner row ∙ ap (λ t. Some (row_in s t (owner.row - 1))) owners in
    rw (there, same, at) (row_kids s child (owner.row - 1) there)

-- and they are those that the tables tell of its bytes
pub kids_seen : (bytes seen : List ℕ) (o : Opened) (child n : ℕ) → IsOpened bytes o → seen ≡ metadata_of bytes o.container → children_of (table_stream seen o.tables) (owner_table child) (run_column child) child n ≡ kids_from (source_from bytes o.container o.root o.tables) child n
kids_seen bytes seen o child n opened same = rw (same, opened.span) refl

-- an owner is a row of its table
pub owner_in_rows : (s : Source) (owner : Token) (child : ℕ) → IsTrue (has_row (module_in s) owner) → owner.table ≡ owner_table child → (0 < owner.row) × (owner.row - 1 < rows_of s.layout (owner_table child))
owner_in_rows s owner child row owners =
    let stands = row_stands s owner row in
    let high : owner.row ≤ rows_of s.layout (owner_table child) = rw owners at stands.high in
    (stands.low, omega (arith, stands.low, high))

-- a child is a row too
pub child_low : (s : Source) (child : Token) → IsTrue (has_row (module_in s) child) → 0 < child.row
child_low s child row = let stands = row_stands s child row in stands.low

-- an owners' table is a part of the module
pub owner_part : (child : ℕ) → is_child_table child ≡ true → is_part (owner_table child) ≡ true
owner_part child there = by_child (λ k. is_part (owner_table k) ≡ true) refl refl refl refl refl child there

pub owner_low : (child : ℕ) → is_child_table child ≡ true → owner_table child < 0x2D
owner_low child there = by_child (λ k. owner_table k < 0x2D) (omega arith) (omega arith) (omega arith) (omega arith) (omega arith) child there

-- the rows of an owners' table
pub owner_rows : (s : Source) (child : ℕ) → is_child_table child ≡ true → rows_in (module_in s) (owner_table child) ≡ map (row_in s (owner_table child)) (below (rows_of s.layout (owner_table child)))
owner_rows s child there = rw (rows_there s (owner_table child) (owner_low child there), owner_part child there) refl

has_kid_is : (s : Source) (child : Token) (n : ℕ) → is_child_table child.table ≡ true → has_kid child (row_in s (owner_table child.table) n) ≡ list_any (λ (k : ℕ). k == child.row) (kids_from s child.table n)
has_kid_is s child n there = rw (row_kids s child.table n there) refl

found_from : (i n : ℕ) → i < n → cond (nat_lt i n) (Some i) None ≡ Some i
found_from i n h = let e : nat_lt i n ≡ true = grind (arith, nat_tests) in rw e refl

position_is : {X : Type 0} (p : X → Bool) (xs : List X) (i : ℕ) (d : X) → i < length xs → ((k : ℕ) → k < i → p (get_or xs k d) ≡ false) → p (get_or xs i d) ≡ true → position p xs ≡ Some i
position_is p xs i d h before here = rw (position_or_len_is p xs i d (omega arith) before (λ l. here)) (found_from i (length xs) h)

get_row : (s : Source) (table n k : ℕ) (d : Row) → k < n → get_or (map (row_in s table) (below n)) k d ≡ row_in s table k
unfolding below
get_row s table n k d h = get_or-map-range_with_len (row_in s table) 0 n k k d h (omega arith)

-- the first owner whose run names the child is its owner
pub owner_is : (s : Source) (child : Token) (n : ℕ) → is_child_table child.table ≡ true → n < rows_of s.layout (owner_table child.table) → ((k : ℕ) → k < n → list_any (λ (j : ℕ). j == child.row) (kids_from s child.table k) ≡ false) → list_any (λ (j : ℕ). j == child.row) (kids_from s child.table n) ≡ true → owner_of (module_in s) child ≡ Some (nth_row (owner_table child.table) n)
unfolding owner_of
owner_is s child n there row before here =
    let table = owner_table child.table in
    let many = rows_of s.layout table in
    let d : Row = row_in s table 0 in
    let rows = map (row_in s table) (below many) in
    let len : length rows ≡ many = length_below (row_in s table) many in
    let no_row : (k : ℕ) → k < n → has_kid child (get_or rows k d) ≡ false = λ k lt. rw (get_row s table many k d (omega arith)) (has_kid_is s child k there ∙ before k lt) in
    let this : has_kid child (get_or rows n d) ≡ true = rw (get_row s table many n d row) (has_kid_is s child n there ∙ here) in
    let found : position (has_kid child) rows ≡ Some n = position_is (has_kid child) rows n d (rw len row) no_row this in
    rw (owner_rows s child.table there, found) refl

-- a list in which no element passes counts none
nothing_counts : (p : ℕ → Bool) (xs : List ℕ) → list_any p xs ≡ false → count_by p xs ≡ 0
nothing_counts p [] h = refl
nothing_counts p (x ∷ xs) h =
    let both = neither (p x) (list_any p xs) h in
    let rest : count_by p xs ≡ 0 = nothing_counts p xs both.1 in
    let first : p x ≡ false = both.0 in
    sum_by-cons (λ (y : ℕ). cond (p y) 1 0) x xs ∙ rw (first, rest) refl
  where
    neither : (a b : Bool) → (a || b) ≡ false → (a ≡ false) × (b ≡ false)
    neither true b e = absurd cc
    neither false b e = (refl, e)

none_counted : (f : ℕ → List ℕ) (p : ℕ → Bool) (n : ℕ) → ((k : ℕ) → k < n → list_any p (f k) ≡ false) → count_by p (flat_map f (range_with_len 0 n)) ≡ 0
none_counted f p zero h = refl
none_counted f p (suc n) h =
    let e : suc n ≡ n + 1 = omega arith in
    let z : 0 + n ≡ n = omega arith in
    let before : count_by p (flat_map f (range_with_len 0 n)) ≡ 0 = none_counted f p n (λ k lt. h k (omega arith)) in
    let here : count_by p (f (0 + n)) ≡ 0 = rw z (nothing_counts p (f n) (h n (omega arith))) in
    ap (λ m. count_by p (flat_map f (range_with_len 0 m))) e ∙ count_more f p 0 n ∙ rw (before, here) refl

-- each child has an owner
pub some_owner : (s : Source) (child : Token) (n : ℕ) → cells_fault s ≡ None → IsTrue (has_row (module_in s) child) → is_child_table child.table ≡ true → rows_of s.layout (owner_table child.table) ≤ n → ((k : ℕ) → k < n → list_any (λ (j : ℕ). j == child.row) (kids_from s child.table k) ≡ false) → ⊥
unfolding times_named all_children below
some_owner s child n sound row there all none =
    let stands = row_stands s child row in
    let e : child.row - 1 + 1 ≡ child.row = omega (arith, stands.low) in
    let one : times_named (rows_from s) child.table child.row ≡ 1 = rw e at (named_once s child.table (child.row - 1) (no_index_fault s sound) there stands.table (omega (arith, stands.low, stands.high))) in
    let zero_times : times_named (rows_from s) child.table child.row ≡ 0 = none_counted (kids_from s child.table) (λ (j : ℕ). j == child.row) (rows_of s.layout (owner_table child.table)) (λ k lt. none k (omega arith)) in
    absurd (omega arith)

-- a place in the list has an element
pub got : (xs : List ℕ) (i : ℕ) → i < length xs → slice_get xs i ≡ None → ⊥
got [] i h e = absurd (omega arith)
got (x ∷ xs) zero h e = absurd cc
got (x ∷ xs) (suc i) h e = got xs i (omega arith) e
