-- Whether the cells of an added row name rows, column by column.
use Rattle.std.proofs.Common.{◌≡◌, ℕ, zero, suc, ◌+◌, ◌*◌, ◌<◌, ◌≤◌, Bool, true, false, List, [], ◌∷◌, length, get_or, drop, Option, Some, None, refl, sym, ap, ◌∙◌, arith}
use Rattle.std.specs.Prelude.{◌≢◌, ◌==◌, ◌||◌, ◌/◌, ◌%◌, ◌^◌, nat_le, filter, slice_get, is_some, IfSome, IfNone, option_map, option_and_then, if◌then◌else◌}
use Rattle.std.specs.List.{list_any}
use Rattle.std.proofs.lemmas.Bool.Decides.{nat_tests}
use Rattle.std.proofs.lemmas.List.{drop_all}
use Rattle.enc_base.specs.Token.{nil}
use Rattle.enc_base.specs.declared.token.Token.{Token}
use Rattle.enc_schema.specs.declared.column.Coding.{Coding}
use Rattle.enc_schema.specs.declared.column.Column.{Column}
use Rattle.enc_schema.specs.Coding.{tables_of, tag_bits, table_with, decoded, named}
use Rattle.enc_schema.proofs.Codes.{decoded_at}
use Rattle.enc_schema.proofs.TableNames.{tags_fit}
use Rattle.enc_plain.specs.Sound.{is_tables}
use Rattle.enc_edit_list.specs.declared.edit.Cell.{Cell as CellValue}
use Rattle.enc_edit_list.specs.Form.{is_stated}
use Rattle.enc_rules.specs.Rules.{value_breaks, cells_break}

-- whether the cells from one on break for the columns from another on
abbrev pub left : (ℕ → ℕ) → List Column → List CellValue → ℕ → ℕ → Bool
left count columns cells i k = cells_break count (filter is_stated (drop i columns)) (drop k cells)

drop_one : {X : Type 0} (xs : List X) (i : ℕ) (x : X) → slice_get xs i ≡ Some x → drop i xs ≡ x ∷ drop (suc i) xs
drop_one [] i x there = absurd cc
drop_one (y ∷ xs) zero x there = let is : y ≡ x = cc in ap (λ z. z ∷ xs) is
drop_one (y ∷ xs) (suc i) x there = drop_one xs i x there

drop_next : {X : Type 0} (xs : List X) (i : ℕ) (x : X) → slice_get xs i ≡ Some x → drop i xs ≡ x ∷ drop (i + 1) xs
drop_next xs i x there = let n : i + 1 ≡ suc i = omega arith in rw n (drop_one xs i x there)

drop_none : {X : Type 0} (xs : List X) (i : ℕ) → slice_get xs i ≡ None → drop i xs ≡ []
drop_none [] zero none = refl
drop_none [] (suc i) none = refl
drop_none (y ∷ xs) zero none = absurd cc
drop_none (y ∷ xs) (suc i) none = drop_none xs i none

pub names_start : (count : ℕ → ℕ) (columns : List Column) (cells : List CellValue) → left count columns cells 0 0 ≡ cells_break count (filter is_stated columns) cells
names_start count columns cells = refl

-- a run
pub names_skip : (count : ℕ → ℕ) (columns : List Column) (cells : List CellValue) (i k : ℕ) (c : Column) → slice_get columns i ≡ Some c → is_stated c ≡ false
    → left count columns cells i k ≡ left count columns cells (i + 1) k
names_skip count columns cells i k c at is = rw (drop_next columns i c at, is) refl

stated : (c : Column) (columns : List Column) → is_stated c ≡ true → filter is_stated (c ∷ columns) ≡ c ∷ filter is_stated columns
stated c columns is = rw is refl

one_cell : (count : ℕ → ℕ) (c : Column) (columns : List Column) (v : CellValue) (cells : List CellValue) → cells_break count (c ∷ columns) (v ∷ cells) ≡ (value_breaks count c v || cells_break count columns cells)
unfolding cells_break
one_cell count c columns v cells = refl

no_cell : (count : ℕ → ℕ) (c : Column) (columns : List Column) → cells_break count (c ∷ columns) [] ≡ false
unfolding cells_break
no_cell count c columns = refl

no_column : (count : ℕ → ℕ) (cells : List CellValue) → cells_break count [] cells ≡ false
unfolding cells_break
no_column count cells = refl

-- a cell
one_more : (count : ℕ → ℕ) (columns : List Column) (cells : List CellValue) (i k : ℕ) (c : Column) (v : CellValue) → slice_get columns i ≡ Some c → is_stated c ≡ true → slice_get cells k ≡ Some v
    → left count columns cells i k ≡ (value_breaks count c v || left count columns cells (i + 1) (k + 1))
one_more count columns cells i k c v at is there =
    rw (drop_next columns i c at, stated c (drop (i + 1) columns) is, drop_next cells k v there) (one_cell count c (filter is_stated (drop (i + 1) columns)) v (drop (k + 1) cells))

pub names_found : (count : ℕ → ℕ) (columns : List Column) (cells : List CellValue) (i k : ℕ) (c : Column) (v : CellValue) → slice_get columns i ≡ Some c → is_stated c ≡ true
    → slice_get cells k ≡ Some v → value_breaks count c v ≡ true → left count columns cells i k ≡ true
names_found count columns cells i k c v at is there breaks = one_more count columns cells i k c v at is there ∙ rw breaks refl

pub names_more : (count : ℕ → ℕ) (columns : List Column) (cells : List CellValue) (i k : ℕ) (c : Column) (v : CellValue) → slice_get columns i ≡ Some c → is_stated c ≡ true
    → slice_get cells k ≡ Some v → value_breaks count c v ≡ false → left count columns cells i k ≡ left count columns cells (i + 1) (k + 1)
names_more count columns cells i k c v at is there stands = one_more count columns cells i k c v at is there ∙ rw stands refl

-- no cell is left, or no column
pub names_short : (count : ℕ → ℕ) (columns : List Column) (cells : List CellValue) (i k : ℕ) (c : Column) → slice_get columns i ≡ Some c → is_stated c ≡ true → slice_get cells k ≡ None
    → left count columns cells i k ≡ false
names_short count columns cells i k c at is none =
    rw (drop_next columns i c at, stated c (drop (i + 1) columns) is, drop_none cells k none) (no_cell count c (filter is_stated (drop (i + 1) columns)))

pub names_done : (count : ℕ → ℕ) (columns : List Column) (cells : List CellValue) (i k : ℕ) → length columns ≤ i → left count columns cells i k ≡ false
names_done count columns cells i k past = rw (drop_all i columns past) (no_column count (drop k cells))

-- the tables of a coding and the tokens that it has
is_of : (table : ℕ) (o : Option ℕ) (b : Bool) → is_tables table o ≡ b → b ≡ true → o ≡ Some table
is_of table (Some t) b e is = ap Some (same t table (e ∙ is))
  where
    same : (a b : ℕ) → (a == b) ≡ true → a ≡ b
    same a b h = grind (arith, nat_tests, h)
is_of table None b e is = absurd cc

by_tag : (table : ℕ) (o : Option ℕ) (rest : List (Option ℕ)) (b : Bool) → is_tables table o ≡ b
    → (list_any (is_tables table) rest ≡ true → (tag : ℕ) × (tag < length rest) × (get_or rest tag None ≡ Some table))
    → (b || list_any (is_tables table) rest) ≡ true → (tag : ℕ) × (tag < length (o ∷ rest)) × (get_or (o ∷ rest) tag None ≡ Some table)
by_tag table o rest true is later e = (0, omega arith, is_of table o true is refl)
by_tag table o rest false is later e = let r = later e in (suc r.0, omega (arith, r.1), r.2)

tag_of : (table : ℕ) (tables : List (Option ℕ)) → list_any (is_tables table) tables ≡ true → (tag : ℕ) × (tag < length tables) × (get_or tables tag None ≡ Some table)
tag_of table [] e = absurd cc
tag_of table (o ∷ rest) e = by_tag table o rest (is_tables table o) refl (λ f. tag_of table rest f) e

or_right : (a b : Bool) → b ≡ true → (a || b) ≡ true
or_right true b h = refl
or_right false b h = h

eq_self : (n : ℕ) → (n == n) ≡ true
eq_self n = grind (arith, nat_tests)

in_tables : (tables : List (Option ℕ)) (tag t : ℕ) → option_and_then (λ (x : Option ℕ). x) (slice_get tables tag) ≡ Some t → list_any (is_tables t) tables ≡ true
in_tables [] tag t h = absurd cc
in_tables (None ∷ rest) zero t h = absurd cc
in_tables (Some x ∷ rest) zero t h = let is : x ≡ t = cc in rw (is, eq_self t) refl
in_tables (x ∷ rest) (suc tag) t h = or_right (is_tables t x) (list_any (is_tables t) rest) (in_tables rest tag t h)

named_by : (t : Token) (b : Bool) → (t.row == 0) ≡ b → 0 < t.row → (if b then nil else t) ≡ t
named_by t true e low = absurd (omega (arith, equal t.row 0 e, low))
  where
    equal : (a b : ℕ) → (a == b) ≡ true → a ≡ b
    equal a b h = grind (arith, nat_tests, h)
named_by t false e low = refl

named_row : (t : Token) → 0 < t.row → named t ≡ t
named_row t low = named_by t (t.row == 0) refl low

told_by : (kind : Coding) (t : Token) (v : ℕ) (b : Bool) (o : Option ℕ) → 0 < t.row → table_with kind (v % 2 ^ tag_bits kind) ≡ o
    → (if b then Some nil else option_map (λ (t : ℕ). record { table = t; row = v / 2 ^ tag_bits kind }) o) ≡ Some t → table_with kind (v % 2 ^ tag_bits kind) ≡ Some t.table
told_by kind t v true o low is e = absurd (let row : 0 ≡ t.row = cc in omega (arith, row, low))
told_by kind t v false None low is e = absurd cc
told_by kind t v false (Some table) low is e = let same : table ≡ t.table = cc in is ∙ ap Some same

decoded_in : (kind : Coding) (t : Token) (v : ℕ) → 0 < t.row → decoded kind v ≡ Some t → list_any (is_tables t.table) (tables_of kind) ≡ true
unfolding decoded table_with
decoded_in kind t v low e = in_tables (tables_of kind) (v % 2 ^ tag_bits kind) t.table (told_by kind t v _ _ low refl e)

le_of : (a b : ℕ) → nat_le a b ≡ true → a ≤ b
le_of a b e = grind (arith, nat_tests)

some_code : (kind : Coding) (t : Token) → 0 < t.row → list_any (is_tables t.table) (tables_of kind) ≡ true → (v : ℕ) × (decoded kind v ≡ Some t)
some_code kind t low there =
    let tag = tag_of t.table (tables_of kind) there in
    (t.row * 2 ^ tag_bits kind + tag.0, decoded_at kind (2 ^ tag_bits kind) tag.0 t.row t.table refl (omega (arith, tag.1, tags_fit kind)) low tag.2)

coded_by : (kind : Coding) (t : Token) (o : Option ℕ) (b : Bool) → list_any (is_tables t.table) (tables_of kind) ≡ b → 0 < t.row → IfSome o (λ v. decoded kind v ≡ Some (named t))
    → IfNone o ((v : ℕ) → decoded kind v ≢ Some (named t)) → is_some o ≡ b
coded_by kind t (Some v) b is low some none = sym (decoded_in kind t v low (some ∙ ap Some (named_row t low))) ∙ is
coded_by kind t None false is low some none = refl
coded_by kind t None true is low some none = absurd (let w = some_code kind t low is in none w.0 (w.1 ∙ ap Some (sym (named_row t low))))

-- a coding has a token of a row exactly where it has its table
pub coded_names : (kind : Coding) (t : Token) (o : Option ℕ) → 0 < t.row → IfSome o (λ v. decoded kind v ≡ Some (named t)) → IfNone o ((v : ℕ) → decoded kind v ≢ Some (named t))
    → is_some o ≡ list_any (is_tables t.table) (tables_of kind)
coded_names kind t o low some none = coded_by kind t o _ refl low some none

pub ruleset names_steps = (names_start, names_skip, names_done)
