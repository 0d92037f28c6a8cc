-- A delta that is read as parts that hold what a list states says it.
use Rattle.std.proofs.Common.{◌≡◌, ℕ, zero, suc, ◌+◌, ◌<◌, ◌≤◌, Bool, true, false, List, [], ◌∷◌, ◌++◌, length, map, Option, Some, refl, sym, ap, ◌∙◌, arith, subst}
use Rattle.std.specs.Prelude.{◌^◌, ◌*◌, ◌/◌, ◌%◌, ◌&&◌, ◌==◌, not, nat_lt, slice_get, slice_index, filter, flat_map, if◌then◌else◌}
use Rattle.std.specs.List.{list_all, range_with_len}
use Rattle.std.proofs.lemmas.Bool.{and_parts, and_from}
use Rattle.std.proofs.lemmas.Bool.Decides.{nat_tests}
use Rattle.enc_base.specs.Token.{nth_row, number_of, token_of, is_token, nil}
use Rattle.enc_base.specs.declared.token.Token.{Token}
use Rattle.enc_meta.specs.Built.{heaps_built}
use Rattle.enc_meta.specs.BuiltLaws.{heaps_joined}
use Rattle.enc_meta.specs.Heaps.{Counted}
use Rattle.enc_meta.specs.Joined.{joined_user, joined_guid}
use Rattle.enc_rows.specs.Layout.{rows_of}
use Rattle.enc_rows.specs.Source.{Source, raw_in}
use Rattle.enc_rows.specs.Sums.{below}
use Rattle.enc_rows.specs.Written.{rows_at, count_at, has_cells, AreRows}
use Rattle.enc_schema.specs.Children.{is_child_table}
use Rattle.enc_schema.specs.Schema.{columns_in, column_in}
use Rattle.enc_base.specs.Tables as tables
use Rattle.enc_schema.specs.declared.column.Column.{Column}
use Rattle.enc_plain.specs.Cell.{Cell}
use Rattle.enc_plain.specs.Chain.{Chain, mvid_of, id_of}
use Rattle.enc_plain.specs.Module.{Module}
use Rattle.enc_plain.specs.Reading.{Reading}
use Rattle.enc_delta.specs.Delta.{entry_at, map_token, log_in, map_in}
use Rattle.enc_delta.specs.Rules.{module_token}
use Rattle.enc_delta.specs.declared.log_entry.LogEntry.{LogEntry}
use Rattle.enc_edit_list.specs.Form.{is_known_table, owner_fits, cells_fit, stated_columns, code_fits, edit_fits}
use Rattle.enc_edit_list.specs.declared.edit.Edit.{Edit}
use Rattle.enc_edit_list.specs.declared.edit.Edit.TheVariants.{Add, Body as Replace}
use Rattle.enc_edit_list.specs.declared.edit.EditList.{EditList}
use Rattle.enc_rules.specs.Edited.{row_edited, rows_behind, rows_edited}
use Rattle.enc_rules.specs.Listed.{count_after}
use Rattle.enc_list_delta.specs.Delta.{is_edited, add_entry, tokens_written, map_written, entries_for, entries_if, entries_behind, log_written, adds_reference, cells_written}
use Rattle.enc_list_delta.specs.Holds.{heaps_written, reading_with, SaysCell, PlacesBody, SaysRow, SaysModule, entry_numbers, token_numbers, SayRows, is_listed_table, HoldDelta, SaysDelta}
use Rattle.enc_list_delta.proofs.ReadBack.{IsDeltaReadAs, listed_below}

-- a token by its number
pub token_back : (t : Token) → t.row < 2 ^ 24 → token_of (number_of t) ≡ t
token_back t low =
    let table : (t.table * 0x1000000 + t.row) / 0x1000000 ≡ t.table = omega arith in
    let row : (t.table * 0x1000000 + t.row) % 0x1000000 ≡ t.row = omega arith in
    rw (table, row) refl

abbrev pub is_low : Token → Bool
is_low t = nat_lt t.row 0x1000000

low_of : (t : Token) → is_low t ≡ true → t.row < 2 ^ 24
low_of t h = grind (arith, nat_tests, h)

-- an item of a list that all pass
all_at : {A : Type 0} (p : A → Bool) (xs : List A) (i : ℕ) (x : A) → list_all p xs ≡ true → slice_get xs i ≡ Some x → p x ≡ true
all_at p [] i x all h = absurd cc
all_at p (y ∷ xs) zero x all h = let e : y ≡ x = cc in subst (λ z. p z ≡ true) e (and_parts (p y) (list_all p xs) all).0
all_at p (y ∷ xs) (suc i) x all h = all_at p xs i x (and_parts (p y) (list_all p xs) all).1 h

mapped_at : {A B : Type 0} (f : A → B) (xs : List A) (i : ℕ) (x : A) → slice_get xs i ≡ Some x → slice_get (map f xs) i ≡ Some (f x)
mapped_at f [] i x h = absurd cc
mapped_at f (y ∷ xs) zero x h = let e : y ≡ x = cc in ap (λ z. Some (f z)) e
mapped_at f (y ∷ xs) (suc i) x h = mapped_at f xs i x h

mapped_many : {A B : Type 0} (f : A → B) (xs : List A) → length (map f xs) ≡ length xs
mapped_many f [] = refl
mapped_many f (x ∷ xs) = ap suc (mapped_many f xs)

-- EncMap and EncLog are read by their numbers
pub map_says : (h : _) (rows : List (List (List ℕ))) (il : List ℕ) (s : Source) (tokens : List Token) → IsDeltaReadAs h rows il s → rows_at rows tables.enc_map ≡ map token_numbers tokens
    → list_all is_low tokens ≡ true → map_in s ≡ tokens
unfolding map_in map_token
map_says h rows il s tokens read are low =
    let many : rows_of s.layout tables.enc_map ≡ length tokens = read.counts tables.enc_map (omega arith) ∙ ap length are ∙ mapped_many token_numbers tokens in
    let at : (i : ℕ) (t : Token) → slice_get tokens i ≡ Some t → map_token s i ≡ t =
    λ i t there.
    let row : slice_get (rows_at rows tables.enc_map) i ≡ Some (token_numbers t) = rw are (mapped_at token_numbers tokens i t there) in
    ap token_of (read.numbers tables.enc_map i 0 (token_numbers t) (number_of t) row refl) ∙ token_back t (low_of t (all_at is_low tokens i t low there)) in
    ap (λ n. map (map_token s) (below n)) many ∙ listed_below (map_token s) tokens at

abbrev entry_low : LogEntry → Bool
entry_low e = is_low e.token

pub log_says : (h : _) (rows : List (List (List ℕ))) (il : List ℕ) (s : Source) (log : List LogEntry) → IsDeltaReadAs h rows il s → rows_at rows tables.enc_log ≡ map entry_numbers log
    → list_all entry_low log ≡ true → log_in s ≡ log
unfolding log_in entry_at
log_says h rows il s log read are low =
    let many : rows_of s.layout tables.enc_log ≡ length log = read.counts tables.enc_log (omega arith) ∙ ap length are ∙ mapped_many entry_numbers log in
    let at : (i : ℕ) (e : LogEntry) → slice_get log i ≡ Some e → entry_at s i ≡ e =
    λ i e there.
    let row : slice_get (rows_at rows tables.enc_log) i ≡ Some (entry_numbers e) = rw are (mapped_at entry_numbers log i e there) in
    let token = ap token_of (read.numbers tables.enc_log i 0 (entry_numbers e) (number_of e.token) row refl) ∙ token_back e.token (low_of e.token (all_at entry_low log i e low there)) in
    let code = read.numbers tables.enc_log i 1 (entry_numbers e) e.operation row refl in
    rw (token, code) refl in
    ap (λ n. map (entry_at s) (below n)) many ∙ listed_below (entry_at s) log at

-- rows that say what edits give some tokens are as many as these, and each says its own
pub as_many : (c : Chain) (l : EditList) (heaps : List Counted) (il : List ℕ) (tokens : List Token) (rows : List (List ℕ)) → SayRows c l heaps il tokens rows → length rows ≡ length tokens
unfolding SayRows
as_many c l heaps il [] [] say = refl
as_many c l heaps il [] (r ∷ rows) say = absurd say
as_many c l heaps il (u ∷ tokens) [] say = absurd say
as_many c l heaps il (u ∷ tokens) (r ∷ rows) say = ap suc (as_many c l heaps il tokens rows say.1)

pub record RowOf (c : Chain) (l : EditList) (heaps : List Counted) (il : List ℕ) (rows : List (List ℕ)) (n : ℕ) (u : Token) : Type 0 where
  pub row : List ℕ
  pub there : slice_get rows n ≡ Some row
  pub says : SaysRow c l heaps il u (slice_index row)

pub row_at : (c : Chain) (l : EditList) (heaps : List Counted) (il : List ℕ) (tokens : List Token) (rows : List (List ℕ)) (n : ℕ) (u : Token) → SayRows c l heaps il tokens rows
    → slice_get tokens n ≡ Some u → RowOf c l heaps il rows n u
unfolding SayRows
row_at c l heaps il [] rows n u say h = absurd cc
row_at c l heaps il (t ∷ tokens) [] n u say h = absurd say
row_at c l heaps il (t ∷ tokens) (r ∷ rows) zero u say h =
    let e : t ≡ u = cc in
    record { row = r; there = refl; says = subst (λ v. SaysRow c l heaps il v (slice_index r)) e say.0 }
row_at c l heaps il (t ∷ tokens) (r ∷ rows) (suc n) u say h =
    let w = row_at c l heaps il tokens rows n u say.1 h in
    record { row = w.row; there = w.there; says = w.says }

-- a row says the same by numbers that are equal in its columns
same_cell : (r : Reading) (u : Token) (i : ℕ) (column : Column) (x y : ℕ) (cell : Option Cell) → x ≡ y → SaysCell r u i column x cell → SaysCell r u i column y cell
same_cell r u i column x y cell e says = subst (λ z. SaysCell r u i column z cell) e says

pub says_same : (c : Chain) (l : EditList) (heaps : List Counted) (il : List ℕ) (u : Token) (f g : ℕ → ℕ) → ((i : ℕ) (column : Column) → column_in u.table i ≡ Some column → f i ≡ g i)
    → ((u.table == tables.method_def) ≡ true → f 0 ≡ g 0) → SaysRow c l heaps il u f → SaysRow c l heaps il u g
says_same c l heaps il u f g same first says = record {
  each = λ i column there. same_cell (reading_with c l heaps il) u i column (f i) (g i) (slice_get (cells_written c.plain l.edits u) i) (same i column there) (says.each i column there);
  body = λ is. subst (λ z. PlacesBody (count_after c l.edits) (joined_user heaps) il z (slice_get (cells_written c.plain l.edits u) 0)) (first is) (says.body is);
}

-- the number in a column of a row that has one for each
index_there : (xs : List ℕ) (i : ℕ) → i < length xs → slice_get xs i ≡ Some (slice_index xs i)
index_there [] i lt = absurd (omega (arith, lt))
index_there (x ∷ xs) zero lt = refl
index_there (x ∷ xs) (suc i) lt = index_there xs i (omega (arith, lt))

low_index : {A : Type 0} (xs : List A) (i : ℕ) (x : A) → slice_get xs i ≡ Some x → i < length xs
low_index [] i x h = absurd cc
low_index (y ∷ xs) zero x h = omega arith
low_index (y ∷ xs) (suc i) x h = omega (arith, low_index xs i x h)

whole_row : (rows : List (List (List ℕ))) (t n : ℕ) (row : List ℕ) → AreRows rows → slice_get (rows_at rows t) n ≡ Some row → length row ≡ length (columns_in t)
whole_row rows t n row are h =
    let b : has_cells (columns_in t) row ≡ true = all_at (has_cells (columns_in t)) (rows_at rows t) n row (are.cells t) h in
    grind (arith, nat_tests, b)

first_column : (t : ℕ) → (t == 6) ≡ true → 0 < length (columns_in t)
unfolding columns_in
first_column t is = let e : t ≡ 6 = grind (arith, nat_tests, is) in let six : length (columns_in 6) ≡ 6 = refl in rw e (omega (arith, six))

column_low : (t i : ℕ) (column : Column) → column_in t i ≡ Some column → i < length (columns_in t)
column_low t i column h = low_index (columns_in t) i column h

-- tokens of a table are of it
pub of_its_table : (p : Token → Bool) (t : ℕ) (ns : List ℕ) (n : ℕ) (u : Token) → slice_get (filter p (map (nth_row t) ns)) n ≡ Some u → u.table ≡ t
of_its_table p t [] n u h = absurd cc
of_its_table p t (k ∷ ns) n u h = by (p (nth_row t k)) n h (λ m g. of_its_table p t ns m u g)
  where
    by : (b : Bool) (m : ℕ) → slice_get (if b then nth_row t k ∷ filter p (map (nth_row t) ns) else filter p (map (nth_row t) ns)) m ≡ Some u
        → ((j : ℕ) → slice_get (filter p (map (nth_row t) ns)) j ≡ Some u → u.table ≡ t) → u.table ≡ t
    by true zero g more = let e : nth_row t k ≡ u = cc in ap (λ (v : Token). v.table) (sym e)
    by true (suc m) g more = more m g
    by false m g more = more m g

pub row_says : (c : Chain) (l : EditList) (il : List ℕ) (rows : List (List (List ℕ))) (s : Source) (t n : ℕ) (u : Token) → IsDeltaReadAs (heaps_built (heaps_written c l)) rows il s → HoldDelta c l il rows
    → is_listed_table t ≡ true → slice_get (tokens_written c l.edits t) n ≡ Some u → SaysRow c l (heaps_joined c.heaps (heaps_written c l)) il u (raw_in s (nth_row t n))
unfolding tokens_written
row_says c l il rows s t n u read held listed there =
    let w = row_at c l _ il (tokens_written c l.edits t) (rows_at rows t) n u (held.others t listed) there in
    let table : u.table ≡ t = of_its_table _ t (below (count_after c l.edits t)) n u there in
    let many = whole_row rows t n w.row held.numbers w.there in
    let at : (i : ℕ) → i < length (columns_in t) → slice_index w.row i ≡ raw_in s (nth_row t n) i =
    λ i low. sym (read.numbers t n i w.row (slice_index w.row i) w.there (index_there w.row i (omega (arith, low, many)))) in
    says_same c l _ il u (slice_index w.row) (raw_in s (nth_row t n))
    (λ i column col. at i (column_low t i column (subst (λ v. column_in v i ≡ Some column) table col)))
    (λ is. at 0 (first_column t (subst (λ v. (v == 6) ≡ true) table is)))
    w.says

-- rows of a table with fewer than 2^24 rows have low numbers
all_low : (p : Token → Bool) (t a n : ℕ) → a + n < 2 ^ 24 → list_all is_low (filter p (map (nth_row t) (range_with_len a n))) ≡ true
all_low p t a zero few = refl
all_low p t a (suc n) few = by (p (nth_row t a)) (all_low p t (a + 1) n (omega (arith, few)))
  where
    by : (b : Bool) → list_all is_low (filter p (map (nth_row t) (range_with_len (a + 1) n))) ≡ true
        → list_all is_low (if b then nth_row t a ∷ filter p (map (nth_row t) (range_with_len (a + 1) n)) else filter p (map (nth_row t) (range_with_len (a + 1) n))) ≡ true
    by true more = let low : nat_lt (a + 1) 0x1000000 ≡ true = grind (arith, nat_tests, few) in and_from _ _ low more
    by false more = more

all_both : {A : Type 0} (p : A → Bool) (xs ys : List A) → list_all p xs ≡ true → list_all p ys ≡ true → list_all p (xs ++ ys) ≡ true
all_both p [] ys a b = b
all_both p (x ∷ xs) ys a b = let w = and_parts (p x) (list_all p xs) a in and_from _ _ w.0 (all_both p xs ys w.1 b)

all_flat : {A B : Type 0} (p : B → Bool) (f : A → List B) (xs : List A) → ((x : A) → list_all p (f x) ≡ true) → list_all p (flat_map f xs) ≡ true
all_flat p f [] each = refl
all_flat p f (x ∷ xs) each = all_both p (f x) (flat_map f xs) (each x) (all_flat p f xs each)

tokens_low : (c : Chain) (edits : List Edit) (t : ℕ) → count_after c edits t < 2 ^ 24 → list_all is_low (tokens_written c edits t) ≡ true
unfolding tokens_written below
tokens_low c edits t few = all_low (is_edited c.plain edits) t 0 (count_after c edits t) (omega (arith, few))

pub map_low : (c : Chain) (edits : List Edit) → ((t : ℕ) → count_after c edits t < 2 ^ 24) → list_all is_low (map_written c edits) ≡ true
unfolding map_written
map_low c edits few = all_flat is_low (tokens_written c edits) (below 64) (λ t. tokens_low c edits t (few t))

-- the entries of an edit whose row and owner have low numbers
owner_low : (table : ℕ) (owner : Token) → owner_fits table owner ≡ true → is_child_table table ≡ true → is_low owner ≡ true
owner_low table owner fits child = subst (λ b. (if b then nat_lt owner.row 0x1000000 else is_token owner nil) ≡ true) child fits

entries_low : (e : Edit) (row : Token) → edit_fits e ≡ true → is_low row ≡ true → list_all entry_low (entries_for e row) ≡ true
unfolding entries_for edit_fits
entries_low (Add table owner cells code points) row fits low =
    let three = (and_parts (is_known_table table && owner_fits table owner && cells_fit (stated_columns table) cells) (code_fits table code points) fits).0 in
    let two = (and_parts (is_known_table table && owner_fits table owner) (cells_fit (stated_columns table) cells) three).0 in
    by (is_child_table table) (owner_low table owner (and_parts (is_known_table table) (owner_fits table owner) two).1)
  where
    by : (b : Bool) → (b ≡ true → is_low owner ≡ true) → list_all entry_low (map add_entry (if b then record { owner = owner; child = row } ∷ [] else []) ++ record { token = row; operation = 0 } ∷ []) ≡ true
    by true has = and_from _ _ (has refl) (and_from _ _ low refl)
    by false has = and_from _ _ low refl
entries_low (Replace method code points) row fits low = and_from _ _ low refl

behind_low : (asks : Edit → Bool) (m : Module) (before edits : List Edit) → list_all edit_fits edits ≡ true → list_all is_low (rows_behind m before edits) ≡ true
    → list_all entry_low (entries_behind asks m before edits) ≡ true
unfolding entries_behind rows_behind
behind_low asks m before [] fit low = refl
behind_low asks m before (e ∷ edits) fit low =
    let f = and_parts (edit_fits e) (list_all edit_fits edits) fit in
    let r = and_parts (is_low (row_edited m before e)) (list_all is_low (rows_behind m (before ++ e ∷ []) edits)) low in
    all_both entry_low (entries_if (asks e) (entries_for e (row_edited m before e))) _ (by (asks e) (entries_low e (row_edited m before e) f.0 r.0)) (behind_low asks m (before ++ e ∷ []) edits f.1 r.1)
  where
    by : (b : Bool) → list_all entry_low (entries_for e (row_edited m before e)) ≡ true → list_all entry_low (entries_if b (entries_for e (row_edited m before e))) ≡ true
    by true h = h
    by false h = refl

pub log_low : (m : Module) (edits : List Edit) → list_all edit_fits edits ≡ true → list_all is_low (rows_edited m edits) ≡ true → list_all entry_low (log_written m edits) ≡ true
unfolding log_written
log_low m edits fit low = all_both entry_low (entries_behind adds_reference m [] edits) _ (behind_low adds_reference m [] edits fit low) (behind_low (λ e. not (adds_reference e)) m [] edits fit low)

five_columns : length (columns_in 0) ≡ 5
unfolding columns_in
five_columns = refl

-- Module has one row
one_more : (numbers : List ℕ) (rows : List (List (List ℕ))) → rows_at rows 0 ≡ numbers ∷ [] → count_at rows 0 ≡ 1
one_more numbers rows is = ap length is

module_says : (c : Chain) (l : EditList) (il : List ℕ) (rows : List (List (List ℕ))) (s : Source) → IsDeltaReadAs (heaps_built (heaps_written c l)) rows il s → (held : HoldDelta c l il rows)
    → SaysModule c l (heaps_joined c.heaps (heaps_written c l)) (raw_in s module_token)
module_says c l il rows s read held =
    let heaps = heaps_joined c.heaps (heaps_written c l) in
    let numbers = held.single.0 in
    let is = held.single.1 in
    let says = held.single.2 in
    let row : slice_get (rows_at rows 0) 0 ≡ Some numbers = rw is refl in
    let many = whole_row rows 0 0 numbers held.numbers row in
    let five : length (columns_in 0) ≡ 5 = five_columns in
    let at : (i : ℕ) → i < 5 → slice_index numbers i ≡ raw_in s module_token i =
    λ i low. sym (read.numbers 0 0 i numbers (slice_index numbers i) row (index_there numbers i (omega (arith, low, many, five)))) in
    record {
      generation = sym (at 0 (omega arith)) ∙ says.generation;
      mvid = subst (λ n. joined_guid heaps n ≡ Some (mvid_of c)) (at 2 (omega arith)) says.mvid;
      enc_id = subst (λ n. joined_guid heaps n ≡ Some l.enc_id) (at 3 (omega arith)) says.enc_id;
      base = subst (λ n. joined_guid heaps n ≡ Some (id_of c (length c.ids))) (at 4 (omega arith)) says.base;
    }

-- what is read of parts that hold what a list states says it
pub delta_says : (c : Chain) (l : EditList) (il : List ℕ) (rows : List (List (List ℕ))) (s : Source) → list_all edit_fits l.edits ≡ true → ((t : ℕ) → count_after c l.edits t < 2 ^ 24)
    → list_all is_low (rows_edited c.plain l.edits) ≡ true → ((t : ℕ) → 64 ≤ t → tokens_written c l.edits t ≡ []) → IsDeltaReadAs (heaps_built (heaps_written c l)) rows il s → HoldDelta c l il rows → SaysDelta c l s
delta_says c l il rows s fit few low past read held = record {
  heaps = read.heaps;
  good = held.good;
  code = (il, read.loaded, λ t n u listed there. row_says c l il rows s t n u read held listed there);
  single = module_says c l il rows s read held;
  log = log_says (heaps_built (heaps_written c l)) rows il s (log_written c.plain l.edits) read held.log (log_low c.plain l.edits fit low);
  map_ = map_says (heaps_built (heaps_written c l)) rows il s (map_written c l.edits) read held.map_ (map_low c l.edits few);
  counts = λ t listed. by (nat_lt t 64) t refl listed;
}
  where
    by : (b : Bool) (t : ℕ) → nat_lt t 64 ≡ b → is_listed_table t ≡ true → rows_of s.layout t ≡ length (tokens_written c l.edits t)
    by true t is listed = read.counts t (grind (arith, nat_tests, is)) ∙ as_many c l _ il (tokens_written c l.edits t) (rows_at rows t) (held.others t listed)
    by false t is listed = let le : 64 ≤ t = grind (arith, nat_tests, is) in read.past t le ∙ ap length (sym (past t le))
