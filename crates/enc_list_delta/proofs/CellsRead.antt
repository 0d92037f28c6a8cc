-- The rows after a delta that says what a list states are those of the module with all edits made directly.
use Rattle.std.proofs.Common.{◌≡◌, ℕ, zero, suc, ◌+◌, ◌<◌, ◌≤◌, Bool, true, false, List, [], ◌∷◌, ◌++◌, length, map, Option, Some, None, refl, sym, ap, ◌∙◌, arith, subst}
use Rattle.std.specs.Prelude.{◌||◌, is_some, option_map, option_and_then, unwrap_or, slice_get, filter, if◌then◌else◌}
use Rattle.std.specs.List.{list_any}
use Rattle.std.proofs.lemmas.Bool.Decides.{nat_tests}
use Rattle.enc_base.specs.Order.{or_else}
use Rattle.enc_base.specs.Token.{is_token, nth_row}
use Rattle.enc_base.specs.declared.token.Token.{Token}
use Rattle.enc_meta.specs.BuiltLaws.{heaps_joined}
use Rattle.enc_meta.specs.Joined.{joined_text, joined_blob, joined_guid, joined_user}
use Rattle.enc_rows.specs.Source.{Source, raw_in}
use Rattle.enc_rows.specs.Sums.{below}
use Rattle.enc_schema.specs.Schema.{columns_in, column_in}
use Rattle.enc_schema.specs.declared.column.Column.{Column}
use Rattle.enc_schema.specs.declared.column.Column.TheVariants.{Num8, Num16, Num32, Text, Guid, Blob, Index, Coded, Run}
use Rattle.enc_plain.specs.Bodies.{body_loaded}
use Rattle.enc_plain.specs.Cell.{Cell, Kind, number, body, field, bodies, fields, kind_of, is_body, is_field, cell_count}
use Rattle.enc_plain.specs.Chain.{Chain}
use Rattle.enc_plain.specs.Fits.{cells_for}
use Rattle.enc_plain.specs.Module.{Module, Row, rows_in, row_at, row_of, cells_of}
use Rattle.enc_plain.specs.Reading.{Reading, cell_read, cell_with}
use Rattle.enc_plain.specs.Sound.{IsSound, HasKinds}
use Rattle.enc_plain.proofs.KindsOf.{kind_there}
use Rattle.enc_delta.specs.Delta.{listed, of_table, place_in}
use Rattle.enc_delta.specs.Rows.{cell_after, cells_after, rows_after}
use Rattle.enc_delta.specs.Rules.{rows_with, reading_after}
use Rattle.enc_edit_list.specs.declared.edit.Edit.{Edit}
use Rattle.enc_edit_list.specs.declared.edit.EditList.{EditList}
use Rattle.enc_rules.specs.Edited.{row_edited, rows_behind, cells_edited, changes_behind, edited}
use Rattle.enc_rules.specs.Listed.{count_after}
use Rattle.enc_memory_module.proofs.Changed.{cells_after as edited_cells}
use Rattle.enc_memory_module.proofs.NoneBroken.{sound_kept}
use Rattle.enc_memory_module.proofs.Unbroken.{BreakNothing}
use Rattle.enc_list_delta.specs.Delta.{is_edited, tokens_written, cells_written}
use Rattle.enc_list_delta.specs.Holds.{MayFollow, heaps_written, reading_with, SaysCell, is_listed_table, SaysDelta}
use Rattle.enc_list_delta.proofs.ModuleRules.{heaps_are}
use Rattle.enc_list_delta.proofs.ReadBack.{listed_below}
use Rattle.enc_list_delta.proofs.SameRows.{same_function}

-- where the tokens of a delta stand in it, and how many rows there are with it
pub record ArePlaced (c : Chain) (l : EditList) (s : Source) : Type 0 where
  pub none : BreakNothing c l
  pub there : (u : Token) → is_edited c.plain l.edits u ≡ true
      → (n : ℕ) × (slice_get (tokens_written c l.edits u.table) n ≡ Some u) × (place_in (listed s) u ≡ Some (n + 1))
  pub nowhere : (u : Token) → is_edited c.plain l.edits u ≡ false → place_in (listed s) u ≡ None
  pub listed_ : (k : ℕ) (u : Token) → slice_get (listed s) k ≡ Some u → is_edited c.plain l.edits u ≡ true
  pub tabled : (t : ℕ) → of_table t (listed s) ≡ tokens_written c l.edits t
  pub counts : (t : ℕ) → rows_with c (listed s) t ≡ count_after c l.edits t
  pub tables : (u : Token) → is_edited c.plain l.edits u ≡ true → is_listed_table u.table ≡ true

-- the delta is read by the joined heaps and the rows after the list
pub reading_is : (c : Chain) (l : EditList) (s : Source) → ArePlaced c l s → (says : SaysDelta c l s) → reading_after c s ≡ reading_with c l (heaps_joined c.heaps (heaps_written c l)) says.code.0
unfolding reading_after
reading_is c l s placed says =
    let heaps = heaps_are c l s says in
    let counts = same_function (rows_with c (listed s)) (count_after c l.edits) placed.counts in
    let loaded = says.code.1 in
    λ i. record {
      text = joined_text (heaps i);
      blob = joined_blob (heaps i);
      guid = joined_guid (heaps i);
      count = counts i;
      code = body_loaded (loaded i) (joined_user (heaps i));
      field = λ row. [];
    }

-- no column before the runs is one
not_run : (t i : ℕ) (child : ℕ) → column_in t i ≡ Some (Run child) → i < cell_count t → ⊥
unfolding columns_in
not_run t i child is low = let k = kind_there t i (Run child) is low in by (is_body t i) (is_field t i) refl refl k.0 k.1
  where
    by : (b f : Bool) → is_body t i ≡ b → is_field t i ≡ f → (k : Kind) → (if b then Some bodies else if f then Some fields else option_and_then kind_of (column_in t i)) ≡ Some k → ⊥
    by true f x y k h =
        let t6 : t ≡ 6 = grind (arith, nat_tests, x) in
        let i0 : i ≡ 0 = grind (arith, nat_tests, x) in
        let e : column_in 6 0 ≡ Some (Run child) = subst (λ j. column_in 6 j ≡ Some (Run child)) i0 (subst (λ u. column_in u i ≡ Some (Run child)) t6 is) in
        absurd cc
    by false true x y k h =
        let t6 : t ≡ 0x1D = grind (arith, nat_tests, y) in
        let i0 : i ≡ 0 = grind (arith, nat_tests, y) in
        let e : column_in 0x1D 0 ≡ Some (Run child) = subst (λ j. column_in 0x1D j ≡ Some (Run child)) i0 (subst (λ u. column_in u i ≡ Some (Run child)) t6 is) in
        absurd cc
    by false false x y k h = let g : option_and_then kind_of (Some (Run child)) ≡ Some k = rw is at h in absurd cc

-- what a number says that is no run's
said : (r : Reading) (u : Token) (i : ℕ) (column : Column) (x : ℕ) (cell : Option Cell) → ((child : ℕ) → column ≡ Run child → ⊥) → SaysCell r u i column x cell → cell_with r u i column x ≡ cell
said r u i (Run child) x cell not h = absurd (not child refl)
said r u i Num8 x cell not h = h
said r u i Num16 x cell not h = h
said r u i Num32 x cell not h = h
said r u i Text x cell not h = h
said r u i Guid x cell not h = h
said r u i Blob x cell not h = h
said r u i (Index t) x cell not h = h
said r u i (Coded k) x cell not h = h

-- rows of one table are read alike
same_table : (r : Reading) (u v : Token) (i : ℕ) (column : Column) (x : ℕ) → u.table ≡ v.table → r.field u ≡ r.field v → cell_with r u i column x ≡ cell_with r v i column x
unfolding cell_with
same_table r u v i column x table there =
    ap (λ t. if is_body t i then Some (body (r.code x)) else if is_field t i then Some (field (r.field u)) else cell_read r column x) table
    ∙ ap (λ (f : List ℕ). if is_body v.table i then Some (body (r.code x)) else if is_field v.table i then Some (field f) else cell_read r column x) there

-- there is a column for each cell
fewer : {A : Type 0} (p : A → Bool) (xs : List A) → length (filter p xs) ≤ length xs
fewer p [] = omega arith
fewer p (x ∷ xs) = part (p x) (fewer p xs)
  where
    part : (b : Bool) → length (filter p xs) ≤ length xs → length (if b then x ∷ filter p xs else filter p xs) ≤ suc (length xs)
    part true more = omega (arith, more)
    part false more = omega (arith, more)

past : {A : Type 0} (xs : List A) (i : ℕ) → slice_get xs i ≡ None → length xs ≤ i
past [] i h = omega arith
past (x ∷ xs) zero h = absurd cc
past (x ∷ xs) (suc i) h = omega (arith, past xs i h)

column_some : (t i : ℕ) → i < cell_count t → (column : Column) × (column_in t i ≡ Some column)
column_some t i low = by (column_in t i) refl
  where
    by : (o : Option Column) → column_in t i ≡ o → (column : Column) × (column_in t i ≡ Some column)
    by (Some column) is = (column, is)
    by None is = absurd (omega (arith, low, fewer (λ (d : Column). is_some (kind_of d)) (columns_in t), past (columns_in t) i is))

-- a cell of a row of the delta is that which the edits give the row
cell_read_back : (c : Chain) (l : EditList) (s : Source) (u : Token) (n i : ℕ) → ArePlaced c l s → (says : SaysDelta c l s) → is_listed_table u.table ≡ true
    → slice_get (tokens_written c l.edits u.table) n ≡ Some u → i < cell_count u.table → cell_after c s (nth_row u.table n) i ≡ slice_get (cells_written c.plain l.edits u) i
unfolding cell_after
cell_read_back c l s u n i placed says listed there low =
    let row = nth_row u.table n in
    let r = reading_with c l (heaps_joined c.heaps (heaps_written c l)) says.code.0 in
    let column = column_some u.table i low in
    let row_says = says.code.2 u.table n u listed there in
    let not : (child : ℕ) → column.0 ≡ Run child → ⊥ = λ child e. not_run u.table i child (column.1 ∙ ap (λ (x : Column). Some x) e) low in
    ap (option_and_then (λ (k : Column). cell_with (reading_after c s) row i k (raw_in s row i))) column.1
    ∙ ap (λ (q : Reading). cell_with q row i column.0 (raw_in s row i)) (reading_is c l s placed says)
    ∙ sym (same_table r u row i column.0 (raw_in s row i) refl refl)
    ∙ said r u i column.0 (raw_in s row i) _ not (row_says.each i column.0 column.1)

-- edits give cells to the rows that they are about
gives_behind : (m : Module) (before edits : List Edit) (u : Token) → list_any (λ t. is_token t u) (rows_behind m before edits) ≡ is_some (cells_for (changes_behind m before edits) u)
unfolding rows_behind changes_behind cells_for
gives_behind m before [] u = refl
gives_behind m before (e ∷ edits) u = by (is_token (row_edited m before e) u) (gives_behind m (before ++ e ∷ []) edits u)
  where
    by : (b : Bool) → list_any (λ t. is_token t u) (rows_behind m (before ++ e ∷ []) edits) ≡ is_some (cells_for (changes_behind m (before ++ e ∷ []) edits) u)
        → (b || list_any (λ t. is_token t u) (rows_behind m (before ++ e ∷ []) edits)) ≡ is_some (if b then Some (cells_edited m e) else cells_for (changes_behind m (before ++ e ∷ []) edits) u)
    by true more = refl
    by false more = more

pub cells_given : (m : Module) (edits : List Edit) (u : Token) → is_edited m edits u ≡ is_some (cells_for (changes_behind m [] edits) u)
unfolding is_edited
cells_given m edits u = gives_behind m [] edits u

some_of : {A : Type 0} (o : Option (List A)) → is_some o ≡ true → o ≡ Some (unwrap_or o [])
some_of (Some x) h = refl
some_of None h = absurd cc

pub given : (m : Module) (edits : List Edit) (u : Token) → is_edited m edits u ≡ true → cells_for (changes_behind m [] edits) u ≡ Some (cells_written m edits u)
unfolding cells_written
given m edits u h = some_of (cells_for (changes_behind m [] edits) u) (sym (cells_given m edits u) ∙ h)

none_of : {A : Type 0} (o : Option A) → is_some o ≡ false → o ≡ None
none_of (Some x) h = absurd cc
none_of None h = refl

pub not_given : (m : Module) (edits : List Edit) (u : Token) → is_edited m edits u ≡ false → cells_for (changes_behind m [] edits) u ≡ None
not_given m edits u h = none_of (cells_for (changes_behind m [] edits) u) (sym (cells_given m edits u) ∙ h)

-- a row's cells are as many as its table has
many_in : (m : Module) (u : Token) (cells : List Cell) (row : ℕ) → HasKinds m → option_map (λ (r : Row). r.cells) (row_at (rows_in m u.table) row) ≡ Some cells → length cells ≡ cell_count u.table
many_in m u cells zero has h = absurd cc
many_in m u cells (suc n) has h = by (slice_get (rows_in m u.table) n) refl h
  where
    by : (o : Option Row) → slice_get (rows_in m u.table) n ≡ o → option_map (λ (r : Row). r.cells) o ≡ Some cells → length cells ≡ cell_count u.table
    by None is g = absurd cc
    by (Some r) is g = let e : r.cells ≡ cells = cc in ap length (sym e) ∙ has.lengths u.table n r is

pub many_cells : (m : Module) (u : Token) (cells : List Cell) → HasKinds m → cells_of m u ≡ Some cells → length cells ≡ cell_count u.table
unfolding row_of
many_cells m u cells has h = many_in m u cells u.row has h

-- the edited module is sound
pub sound_edited : (c : Chain) (l : EditList) → MayFollow c l → IsSound (edited c.plain l.edits)
sound_edited c l may = sound_kept c l may.form may.rules may.sound

pub edited_row : (c : Chain) (l : EditList) (u : Token) → MayFollow c l → BreakNothing c l → is_edited c.plain l.edits u ≡ true → cells_of (edited c.plain l.edits) u ≡ Some (cells_written c.plain l.edits u)
edited_row c l u may none about =
    edited_cells c l u may.sound.owners.tables none ∙ ap (λ (o : Option (List Cell)). or_else o (cells_of c.plain u)) (given c.plain l.edits u about)

pub kept_row : (c : Chain) (l : EditList) (u : Token) → MayFollow c l → BreakNothing c l → is_edited c.plain l.edits u ≡ false → cells_of (edited c.plain l.edits) u ≡ cells_of c.plain u
kept_row c l u may none about =
    edited_cells c l u may.sound.owners.tables none ∙ ap (λ (o : Option (List Cell)). or_else o (cells_of c.plain u)) (not_given c.plain l.edits u about)

-- all cells of a row of the delta are those that the edits give the row
index_low : {A : Type 0} (xs : List A) (i : ℕ) (x : A) → slice_get xs i ≡ Some x → i < length xs
index_low [] i x h = absurd cc
index_low (y ∷ xs) zero x h = omega arith
index_low (y ∷ xs) (suc i) x h = omega (arith, index_low xs i x h)

pub row_read_back : (c : Chain) (l : EditList) (s : Source) (u : Token) (n : ℕ) → MayFollow c l → ArePlaced c l s → SaysDelta c l s → is_edited c.plain l.edits u ≡ true
    → slice_get (tokens_written c l.edits u.table) n ≡ Some u → cells_after c s (nth_row u.table n) ≡ cells_written c.plain l.edits u
row_read_back c l s u n may placed says about there =
    let cells = cells_written c.plain l.edits u in
    let many : length cells ≡ cell_count u.table = many_cells (edited c.plain l.edits) u cells (sound_edited c l may).kinds (edited_row c l u may placed.none about) in
    let f : ℕ → Cell = λ i. unwrap_or (cell_after c s (nth_row u.table n) i) (number 0) in
    let at : (i : ℕ) (x : Cell) → slice_get cells i ≡ Some x → f i ≡ x =
    λ i x is.
    let low : i < cell_count u.table = omega (arith, many, index_low cells i x is) in
    ap (λ (o : Option Cell). unwrap_or o (number 0)) (cell_read_back c l s u n i placed says (placed.tables u about) there low ∙ is) in
    ap (λ k. map f (below k)) (sym many) ∙ listed_below f cells at

-- the rows after the delta are those of the edited module
pub rows_are : (c : Chain) (l : EditList) (s : Source) → MayFollow c l → ArePlaced c l s → SaysDelta c l s → rows_after c s ≡ cells_of (edited c.plain l.edits)
unfolding rows_after
rows_are c l s may placed says = same_function (rows_after c s) (cells_of (edited c.plain l.edits)) at
  where
    at_none : (u : Token) → is_edited c.plain l.edits u ≡ false → rows_after c s u ≡ cells_of (edited c.plain l.edits) u
    at_none u about =
        ap (λ (o : Option ℕ). or_else (option_map (λ k. cells_after c s (record { table = u.table; row = k })) o) (cells_of c.plain u)) (placed.nowhere u about)
        ∙ sym (kept_row c l u may placed.none about)

    at_some : (u : Token) → is_edited c.plain l.edits u ≡ true → rows_after c s u ≡ cells_of (edited c.plain l.edits) u
    at_some u about =
        let w = placed.there u about in
        let same : record { table = u.table; row = w.0 + 1 } ≡ nth_row u.table w.0 = ap (λ k. record { table = u.table; row = k }) (omega arith) in
        ap (λ (o : Option ℕ). or_else (option_map (λ k. cells_after c s (record { table = u.table; row = k })) o) (cells_of c.plain u)) w.2
        ∙ ap (λ (t : Token). Some (cells_after c s t)) same
        ∙ ap (λ (cells : List Cell). Some cells) (row_read_back c l s u w.0 may placed says about w.1)
        ∙ sym (edited_row c l u may placed.none about)

    by : (u : Token) (b : Bool) → is_edited c.plain l.edits u ≡ b → rows_after c s u ≡ cells_of (edited c.plain l.edits) u
    by u true is = at_some u is
    by u false is = at_none u is

    at : (u : Token) → rows_after c s u ≡ cells_of (edited c.plain l.edits) u
    at u = by u (is_edited c.plain l.edits u) refl
