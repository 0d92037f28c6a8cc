-- The rows after the merged delta are those of the module after both, and its rows and children land there.
use Rattle.std.proofs.Common.{◌≡◌, ℕ, zero, suc, ◌<◌, ◌≤◌, Bool, true, false, List, [], ◌∷◌, length, get_or, Option, Some, None, refl, sym, ap, ◌∙◌, inl, inr, arith}
use Rattle.std.specs.Prelude.{option_map, option_and_then, is_some, unwrap_or, slice_get, filter, if◌then◌else◌, nat_lt}
use Rattle.std.specs.List.{list_all}
use Rattle.std.proofs.lemmas.Bool.{and_from, and_parts, cases_lt, or_parts}
use Rattle.std.proofs.lemmas.Bool.Decides.{nat_tests}
use Rattle.std.proofs.lemmas.Option.{slice_get-get_or, slice_get_past}
use Rattle.enc_base.specs.declared.token.Token.{Token}
use Rattle.enc_plain.specs.Cell.{Cell, number, kind_of, cell_count}
use Rattle.enc_plain.specs.Chain.{Chain}
use Rattle.enc_plain.specs.Module.{Module, Row, rows_in, row_at, row_of, cells_of}
use Rattle.enc_plain.specs.Sound.{row_count, HasKinds, HasTables}
use Rattle.enc_plain.proofs.CellsOf.{cell_there, has_cells}
use Rattle.enc_plain.proofs.KindsOf.{kind_there}
use Rattle.enc_rows.specs.Source.{Source}
use Rattle.enc_rows.proofs.Listed.{get_below, get_past}
use Rattle.enc_schema.specs.Schema.{columns_in, column_in}
use Rattle.enc_schema.specs.declared.column.Column.{Column}
use Rattle.enc_schema.specs.declared.column.Column.TheVariants.{Num8}
use Rattle.enc_delta.specs.Delta.{listed, place_in}
use Rattle.enc_delta.specs.Judged.{rules, upto, first_of}
use Rattle.enc_delta.specs.Rows.{cell_after, cells_after, own_row, rows_after}
use Rattle.enc_delta.specs.Rules.{rows_with}
use Rattle.enc_delta.proofs.OwnRows.{own_is, old_is}
use Rattle.enc_agg.specs.Extend.{extended}
use Rattle.enc_agg.specs.Follows.{Lands}
use Rattle.enc_agg.proofs.Fitting.{fits}
use Rattle.enc_agg.proofs.Viewing.{other_cells}
use Rattle.enc_merged_delta.specs.Laws.{RowsAreOfBoth}
use Rattle.enc_merged_delta.specs.Merged.{MayMerge, SaysMerged, after_both, is_in_map}
use Rattle.enc_merged_delta.proofs.Counts.{all_rows, all_tables, counts_are, tables_after}
use Rattle.enc_merged_delta.proofs.BothModules.{sound_both, row_of_both, placed, unplaced, no_place}
use Rattle.enc_merged_delta.proofs.CellsSaid.{cell_said, keeps_indices, keeps_offsets}
use Rattle.enc_merged_delta.proofs.HeapLengths.{keeps_heaps}
use Rattle.enc_merged_delta.proofs.LogEntries.{keeps_entries, keeps_owners}
use Rattle.enc_merged_delta.proofs.LogSets.{keeps_sets}
use Rattle.enc_merged_delta.proofs.MapRules.{keeps_rising, keeps_even, keeps_order}
use Rattle.enc_merged_delta.proofs.ModuleRow.{keeps_module, keeps_next, keeps_base, keeps_id}
use Rattle.enc_merged_delta.proofs.TableRule.{keeps_open}

-- lists with the same items are the same
pub same_items : {A : Type 0} (xs ys : List A) → ((n : ℕ) → slice_get xs n ≡ slice_get ys n) → xs ≡ ys
same_items [] [] each = refl
same_items [] (y ∷ ys) each = let e : None ≡ Some y = each 0 in absurd cc
same_items (x ∷ xs) [] each = let e : Some x ≡ None = each 0 in absurd cc
same_items (x ∷ xs) (y ∷ ys) each =
    let first : Some x ≡ Some y = each 0 in
    let is : x ≡ y = cc in
    let rest = same_items xs ys (λ n. each (suc n)) in
    λ i. is i ∷ rest i

-- there is a column for each cell
fewer : {A : Type 0} (p : A → Bool) (xs : List A) → length (filter p xs) ≤ length xs
fewer p [] = omega arith
fewer p (x ∷ xs) = part (p x) (fewer p xs)
  where
    part : (b : Bool) → length (filter p xs) ≤ length xs → length (if b then x ∷ filter p xs else filter p xs) ≤ suc (length xs)
    part true more = omega (arith, more)
    part false more = omega (arith, more)

column_some : (t i : ℕ) → i < cell_count t → (column : Column) × (column_in t i ≡ Some column)
column_some t i low = by (column_in t i) refl
  where
    by : (o : Option Column) → column_in t i ≡ o → (column : Column) × (column_in t i ≡ Some column)
    by (Some column) is = (column, is)
    by None is = elim (cases_lt i (length (columns_in t))) [
      | inl within ↦ let none : Some (get_or (columns_in t) i Num8) ≡ None = sym (slice_get-get_or (columns_in t) i Num8 within) ∙ is in absurd cc
      | inr past ↦ absurd (omega (arith, low, past, fewer (λ (d : Column). is_some (kind_of d)) (columns_in t)))
    ]

-- a row's cells are as many as its table has
many_in : (m : Module) (table row : ℕ) (cells : List Cell) → HasKinds m → option_map (λ (r : Row). r.cells) (row_at (rows_in m table) row) ≡ Some cells → length cells ≡ cell_count table
many_in m table zero cells has h = absurd cc
many_in m table (suc n) cells has h = by (slice_get (rows_in m table) n) refl h
  where
    by : (o : Option Row) → slice_get (rows_in m table) n ≡ o → option_map (λ (r : Row). r.cells) o ≡ Some cells → length cells ≡ cell_count table
    by None is g = absurd cc
    by (Some r) is g = let e : r.cells ≡ cells = cc in ap length (sym e) ∙ has.lengths table n r is

many_cells : (m : Module) (u : Token) (cells : List Cell) → HasKinds m → cells_of m u ≡ Some cells → length cells ≡ cell_count u.table
unfolding row_of
many_cells m u cells has h = many_in m u.table u.row cells has h

-- each cell of the delta's row is the one that the module after both has
item_said : (c : Chain) (a b s : Source) (u : Token) (cells : List Cell) (i : ℕ) → MayMerge c a b → SaysMerged c a b s → is_in_map s u ≡ true → cells_of (after_both c a b).plain u ≡ Some cells
    → i < cell_count u.table → Some (unwrap_or (cell_after c s (own_row s u) i) (number 0)) ≡ slice_get cells i
item_said c a b s u cells i may says there is low =
    let column = column_some u.table i low in
    let kind = kind_there u.table i column.0 column.1 low in
    let cell = cell_said c a b s u i kind.0 may says there kind.1 in
    let own : slice_get cells i ≡ Some cell.cell =
    ap (option_and_then (λ (xs : List Cell). slice_get xs i)) (sym is) ∙ cell_there (after_both c a b).plain u i ∙ cell.there in
    ap (λ (o : Option Cell). Some (unwrap_or o (number 0))) cell.said ∙ sym own

row_said : (c : Chain) (a b s : Source) (u : Token) (cells : List Cell) → MayMerge c a b → SaysMerged c a b s → is_in_map s u ≡ true → cells_of (after_both c a b).plain u ≡ Some cells → cells_after c s (own_row s u) ≡ cells
row_said c a b s u cells may says there is = same_items (cells_after c s (own_row s u)) cells (λ i. elim (cases_lt i (cell_count u.table)) [
  | inl low ↦ get_below (λ (j : ℕ). unwrap_or (cell_after c s (own_row s u) j) (number 0)) (cell_count u.table) i low ∙ item_said c a b s u cells i may says there is low
  | inr past ↦
      let many = many_cells (after_both c a b).plain u cells (sound_both c a b may).kinds is in
      get_past (λ (j : ℕ). unwrap_or (cell_after c s (own_row s u) j) (number 0)) (cell_count u.table) i past
      ∙ sym (slice_get_past cells i (omega (arith, many, past)))
])

-- a row that neither of two deltas lists
not_of_either : (c : Chain) (a b s : Source) (u : Token) → SaysMerged c a b s → is_in_map s u ≡ false → (is_in_map a u ≡ false) × (is_in_map b u ≡ false)
not_of_either c a b s u says none = or_parts (is_in_map a u) (is_in_map b u) (sym (says.tokens u) ∙ none)

pub unlisted_cells : (c : Chain) (s : Source) (u : Token) → HasTables c.plain → Lands c s → is_in_map s u ≡ false → cells_of (extended c s).plain u ≡ cells_of c.plain u
unlisted_cells c s u has f none = other_cells c s u (fits c s has f) (no_place s u none)

by_place : (c : Chain) (a b s : Source) (u : Token) (o : Option ℕ) → MayMerge c a b → SaysMerged c a b s → place_in (listed s) u ≡ o → rows_after c s u ≡ cells_of (after_both c a b).plain u
by_place c a b s u (Some k) may says is = by (cells_of (after_both c a b).plain u) refl
  where
    there : is_in_map s u ≡ true
    there = placed s u k is

    row : own_row s u ≡ record { table = u.table; row = k }
    row = ap (λ (o : Option ℕ). record { table = u.table; row = unwrap_or o 0 }) is

    by : (o : Option (List Cell)) → cells_of (after_both c a b).plain u ≡ o → rows_after c s u ≡ cells_of (after_both c a b).plain u
    by (Some cells) has = own_is c s u k is ∙ ap (λ (r : Token). Some (cells_after c s r)) (sym row) ∙ ap (λ (xs : List Cell). Some xs) (row_said c a b s u cells may says there has) ∙ sym has
    by None has = let f : true ≡ false = sym (row_of_both c a b s u may says there) ∙ has_cells (after_both c a b).plain u ∙ ap is_some has in absurd cc
by_place c a b s u None may says is =
    let neither = not_of_either c a b s u says (unplaced s u is) in
    old_is c s u is
    ∙ sym (unlisted_cells (extended c a) b u (tables_after c a b may) may.second.lands neither.1 ∙ unlisted_cells c a u may.sound.owners.tables may.first.lands neither.0)

pub rows_are : RowsAreOfBoth
rows_are c a b s u may says = by_place c a b s u (place_in (listed s) u) may says refl

-- the same of all rows, and of how many there are
pub all_rows_are : (c : Chain) (a b s : Source) → MayMerge c a b → SaysMerged c a b s → rows_after c s ≡ cells_of (after_both c a b).plain
all_rows_are c a b s may says = λ i u. rows_are c a b s u may says i

pub all_counts_are : (c : Chain) (a b s : Source) → MayMerge c a b → SaysMerged c a b s → rows_with c (listed s) ≡ row_count (after_both c a b).plain
all_counts_are c a b s may says = λ i t. counts_are c a b s may says t i

-- its rows and children land in the module
wider : (n : ℕ) → nat_lt n 0x2D ≡ true → nat_lt n 0x100 ≡ true
wider n h = grind (arith, nat_tests, h)

all_wider : (ts : List Token) → list_all (λ (t : Token). nat_lt t.table 0x2D) ts ≡ true → list_all (λ (t : Token). nat_lt t.table 0x100) ts ≡ true
all_wider [] h = refl
all_wider (t ∷ ts) h =
    let both = and_parts (nat_lt t.table 0x2D) (list_all (λ (v : Token). nat_lt v.table 0x2D) ts) h in
    and_from (nat_lt t.table 0x100) (list_all (λ (v : Token). nat_lt v.table 0x100) ts) (wider t.table both.0) (all_wider ts both.1)

first_rules : (c : Chain) (a b s : Source) → MayMerge c a b → SaysMerged c a b s → first_of (upto 14 rules) c s ≡ None
first_rules c a b s may says =
    rw (
      keeps_module c a b s may says,
      keeps_next c a b s may says,
      keeps_base c a b s may says,
      keeps_id c a b s may says,
      keeps_heaps c a b s may says,
      keeps_rising c a b s may says,
      keeps_even c a b s may says,
      keeps_order c a b s may says,
      keeps_sets c a b s may says,
      keeps_entries c a b s may says,
      keeps_owners c a b s may says,
      keeps_open c a b s may says,
      keeps_indices c a b s may says,
      keeps_offsets c a b s may says,
    ) refl

pub lands : (c : Chain) (a b s : Source) → MayMerge c a b → SaysMerged c a b s → Lands c s
lands c a b s may says = record { early = first_rules c a b s may says; tables = all_wider (listed s) (all_tables c a b s may says); rows = all_rows c a b s may says }
