-- The rows and cells of the module in a source.
use Rattle.std.proofs.Common.{◌≡◌, ℕ, suc, ◌+◌, ◌-◌, ◌<◌, ◌≤◌, Bool, true, false, [], length, Option, Some, None, refl, ap, ◌∙◌, inl, inr, arith}
use Rattle.std.specs.Prelude.{is_some, ◌&&◌, option_map, option_and_then, unwrap_or, if◌then◌else◌, IsTrue, nat_lt, nat_le, ◌⊎◌, MatchOption}
use Rattle.std.proofs.lemmas.Bool.{cases_lt}
use Rattle.std.proofs.lemmas.Bool.Decides.{nat_tests}
use Rattle.enc_base.specs.Token.{nth_row}
use Rattle.enc_base.specs.declared.token.Token.{Token}
use Rattle.enc_schema.specs.declared.column.Column.{Column}
use Rattle.enc_schema.specs.Schema.{columns_in, column_in, is_offset}
use Rattle.enc_rows.specs.Layout.{Layout, rows_of}
use Rattle.enc_rows.specs.Layout as rows
use Rattle.enc_schema.specs.declared.column.Coding.{Coding}
use Rattle.enc_schema.specs.Coding.{decoded}
use Rattle.enc_plain.specs.Cell.{Cell, Kind, number, text, blob, guid, refer, body, field, numbers, texts, blobs, guids, references, kind_of, is_body, is_field, kind_in, cell_count}
use Rattle.enc_plain.specs.Module.{rows_in, row_at, row_of, has_row, cell_of}
use Rattle.enc_meta.specs.Heaps.{text_at, blob_at, guid_at}
use Rattle.enc_schema.specs.declared.column.Column.TheVariants.{Num32, Text, Guid, Blob, Index, Coded}
use Rattle.enc_image.proofs.Good.{good_offset, good_index, index_there, coded_there, no_index_fault, no_offset_fault}
use Rattle.enc_rows.specs.Fault.{is_past, is_bad_index, index_fault}
use Rattle.enc_image.specs.Base.{users_of, field_bytes, reading_of, cell_for, offset_fault, rows_from, cells_fault, cell_in, row_in, table_rows, module_in}
use Rattle.enc_plain.specs.Sound.{is_part}
use Rattle.enc_rows.specs.Source.{Source, raw_in}
use Rattle.enc_plain.specs.Bodies.{body_loaded}
use Rattle.enc_plain.specs.Reading.{within, index_token, cell_read, cell_with}
use Rattle.enc_plain.proofs.Columns.{HasPlainKind, plain_kind, column_with, text_column, blob_column, guid_column, in_cells, number_for}
use Rattle.enc_rows.proofs.Listed.{get_below, get_past, length_below}

-- the rows of a table below 2D
pub rows_there : (s : Source) (table : ℕ) → table < 0x2D → rows_in (module_in s) table ≡ table_rows s table
unfolding module_in
rows_there s table h = rw (get_below (table_rows s) 0x2D table h) refl

pub rows_past : (s : Source) (table : ℕ) → 0x2D ≤ table → rows_in (module_in s) table ≡ []
unfolding module_in
rows_past s table h = rw (get_past (table_rows s) 0x2D table h) refl

-- how many rows a table has
pub count_there : (s : Source) (table : ℕ) → table < 0x2D → is_part table ≡ true → length (rows_in (module_in s) table) ≡ rows_of s.layout table
count_there s table h part = rw (rows_there s table h, part) (length_below (row_in s table) (rows_of s.layout table))

pub count_other : (s : Source) (table : ℕ) → is_part table ≡ false → length (rows_in (module_in s) table) ≡ 0
count_other s table part = elim (cases_lt table 0x2D) [ inl h ↦ rw (rows_there s table h, part) refl | inr h ↦ rw (rows_past s table h) refl ]

pub count_past : (s : Source) (table : ℕ) → 0x2D ≤ table → length (rows_in (module_in s) table) ≡ 0
count_past s table h = rw (rows_past s table h) refl

-- what a row of the module is in the stream
pub record Stands (s : Source) (token : Token) : Type 0 where
  pub table : token.table < 0x2D
  pub part : is_part token.table ≡ true
  pub low : 0 < token.row
  pub high : token.row ≤ rows_of s.layout token.table

part_cases : (b : Bool) → (b ≡ true) ⊎ (b ≡ false)
part_cases true = inl refl
part_cases false = inr refl

bounds : (n row : ℕ) → (nat_lt 0 row && nat_le row n) ≡ true → (0 < row) × (row ≤ n)
bounds n row h = (grind (arith, nat_tests), grind (arith, nat_tests))

none_there : (n row : ℕ) → n ≡ 0 → (nat_lt 0 row && nat_le row n) ≡ true → ⊥
none_there n row e h = let b = bounds n row h in omega arith

pub row_stands : (s : Source) (token : Token) → IsTrue (has_row (module_in s) token) → Stands s token
unfolding has_row
row_stands s token h =
    elim (cases_lt token.table 0x2D) [
      | inr past ↦ absurd (none_there _ token.row (count_past s token.table past) h)
      | inl low ↦ elim (part_cases (is_part token.table)) [
        | inr other ↦ absurd (none_there _ token.row (count_other s token.table other) h)
        | inl part ↦ let b = bounds _ token.row h in record { table = low; part = part; low = b.0; high = rw (← (count_there s token.table low part)) b.1 }
      ]
    ]

-- the token of the row before one
pub token_is : (token : Token) → 0 < token.row → nth_row token.table (token.row - 1) ≡ token
token_is token h = let e : token.row - 1 + 1 ≡ token.row = omega arith in rw e refl

-- a cell of the module is the source's
cell_at : (s : Source) (table r i : ℕ) (cell : Cell) → table < 0x2D → is_part table ≡ true → r < rows_of s.layout table → i < cell_count table → cell_in s (nth_row table r) i ≡ Some cell → cell_of (module_in s) (nth_row table r) i ≡ Some cell
unfolding cell_of row_of
cell_at s table r i cell there part row column is =
    let e : r + 1 ≡ suc r = omega arith in
    rw (rows_there s table there, part, e, get_below (row_in s table) (rows_of s.layout table) r row, get_below (λ (k : ℕ). unwrap_or (cell_in s (nth_row table r) k) (number 0)) (cell_count table) i column, is) refl

-- a cell of the module, where its number stands for one
pub held : (s : Source) (token : Token) (i : ℕ) (c : Column) (cell : Cell) → IsTrue (has_row (module_in s) token) → column_in token.table i ≡ Some c → is_some (kind_of c) ≡ true → is_body token.table i ≡ false → is_field token.table i ≡ false → cell_for s c (raw_in s token i) ≡ Some cell → cell_of (module_in s) token i ≡ Some cell
unfolding cell_in cell_with
held s token i c cell there column kind no_body no_field is =
    let row = row_stands s token there in
    let e = token_is token row.low in
    let at = cell_at s token.table (token.row - 1) i cell row.table row.part (omega (arith, row.low, row.high)) (in_cells token.table i c column kind) in
    let found : cell_in s token i ≡ Some cell = rw (column, no_body, no_field) is in
    rw e at at found

-- the body of a method is the one at its place
pub body_cell : (s : Source) (token : Token) → IsTrue (has_row (module_in s) token) → token.table ≡ 0x06 → cell_of (module_in s) token 0 ≡ Some (body (body_loaded s.loaded (users_of s) (raw_in s token 0)))
unfolding cell_in cell_with columns_in
body_cell s token there is =
    let row = row_stands s token there in
    let e = token_is token row.low in
    let at = cell_at s token.table (token.row - 1) 0 (body (body_loaded s.loaded (users_of s) (raw_in s token 0))) row.table row.part (omega (arith, row.low, row.high)) (rw is (in_cells 0x06 0 Num32 refl refl)) in
    let found : cell_in s token 0 ≡ Some (body (body_loaded s.loaded (users_of s) (raw_in s token 0))) = rw is refl in
    rw e at at found

-- and the initial bytes of a field are those of its row
pub field_cell : (s : Source) (token : Token) → IsTrue (has_row (module_in s) token) → token.table ≡ 0x1D → cell_of (module_in s) token 0 ≡ Some (field (field_bytes s token))
unfolding cell_in cell_with columns_in
field_cell s token there is =
    let row = row_stands s token there in
    let e = token_is token row.low in
    let at = cell_at s token.table (token.row - 1) 0 (field (field_bytes s token)) row.table row.part (omega (arith, row.low, row.high)) (rw is (in_cells 0x1D 0 Num32 refl refl)) in
    let found : cell_in s token 0 ≡ Some (field (field_bytes s token)) = rw is refl in
    rw e at at found

-- no offset of the module is bad
pub good : (s : Source) (token : Token) (i : ℕ) (c : Column) → offset_fault s ≡ None → IsTrue (has_row (module_in s) token) → column_in token.table i ≡ Some c → is_offset c ≡ true → is_some (cell_for s c (raw_in s token i)) ≡ true
good s token i c none there column speaks =
    let row = row_stands s token there in
    rw (token_is token row.low) at (good_offset s token.table (token.row - 1) i c none row.table (omega (arith, row.low, row.high)) column speaks)

-- and no index
pub unfaulted : (s : Source) (token : Token) (i : ℕ) (c : Column) → index_fault (rows_from s) ≡ None → IsTrue (has_row (module_in s) token) → column_in token.table i ≡ Some c → is_bad_index (rows_from s) token.table (token.row - 1) i c ≡ false
unfaulted s token i c none there column =
    let row = row_stands s token there in
    good_index s token.table (token.row - 1) i c none row.table (omega (arith, row.low, row.high)) column

-- where a cell is there and is made from an optional value, so is the value
pub made_from : {A : Type 0} (o : Option Cell) (f : A → Cell) (x : Option A) (P : Cell → Type 0) → is_some o ≡ true → o ≡ option_map f x → ((cell : Cell) → o ≡ Some cell → P cell) → MatchOption x ⊥ (λ a. P (f a))
made_from o f (Some a) P some is holds = holds (f a) is
made_from o f None P some is holds = let e = rw is at some in cc

-- where an optional value is there, and the cell is made from it, the module has that cell
pub made : {A : Type 0} (s : Source) (token : Token) (i : ℕ) (c : Column) (k : Kind) (f : A → Cell) (x : Option A) → IsTrue (has_row (module_in s) token) → column_in token.table i ≡ Some c → is_some (kind_of c) ≡ true → HasPlainKind token.table i k → is_some (cell_for s c (raw_in s token i)) ≡ true → cell_for s c (raw_in s token i) ≡ option_map f x → MatchOption x ⊥ (λ a. cell_of (module_in s) token i ≡ Some (f a))
made s token i c k f x there column kind plain some is =
    made_from (cell_for s c (raw_in s token i)) f x (λ cell. cell_of (module_in s) token i ≡ Some cell) some is (λ cell e. held s token i c cell there column kind plain.body plain.field e)

-- a cell of each kind: the entry is there, and the module has the cell with it
pub text_cell : (s : Source) (token : Token) (i n : ℕ) → cells_fault s ≡ None → IsTrue (has_row (module_in s) token) → kind_in token.table i ≡ Some texts → raw_in s token i ≡ n → MatchOption (text_at s.heaps.strings n) ⊥ (λ a. cell_of (module_in s) token i ≡ Some (text a))
unfolding cell_read
text_cell s token i n sound there kind is =
    let plain = plain_kind _ _ texts refl kind in
    let w = column_with _ _ plain.kind in
    let e = w.1 ∙ ap (λ c. Some c) (text_column w.0 w.2) in
    made s token i Text texts text _ there e refl plain (good s token i Text (no_offset_fault s sound) there e refl) (rw is refl)

pub blob_cell : (s : Source) (token : Token) (i n : ℕ) → cells_fault s ≡ None → IsTrue (has_row (module_in s) token) → kind_in token.table i ≡ Some blobs → raw_in s token i ≡ n → MatchOption (blob_at s.heaps.blobs n) ⊥ (λ a. cell_of (module_in s) token i ≡ Some (blob a))
unfolding cell_read
blob_cell s token i n sound there kind is =
    let plain = plain_kind _ _ blobs refl kind in
    let w = column_with _ _ plain.kind in
    let e = w.1 ∙ ap (λ c. Some c) (blob_column w.0 w.2) in
    made s token i Blob blobs blob _ there e refl plain (good s token i Blob (no_offset_fault s sound) there e refl) (rw is refl)

pub guid_cell : (s : Source) (token : Token) (i n : ℕ) → cells_fault s ≡ None → IsTrue (has_row (module_in s) token) → kind_in token.table i ≡ Some guids → raw_in s token i ≡ n → MatchOption (guid_at s.heaps.guids n) ⊥ (λ a. cell_of (module_in s) token i ≡ Some (guid a))
unfolding cell_read
guid_cell s token i n sound there kind is =
    let plain = plain_kind _ _ guids refl kind in
    let w = column_with _ _ plain.kind in
    let e = w.1 ∙ ap (λ c. Some c) (guid_column w.0 w.2) in
    made s token i Guid guids guid _ there e refl plain (good s token i Guid (no_offset_fault s sound) there e refl) (rw is refl)

within_from : (b : Bool) (t : Token) (P : Token → Type 0) → MatchOption (if b then Some t else None) ⊥ P → P t
within_from true t P h = h
within_from false t P h = absurd h

-- a token within the counts is the token itself
pub within_is : (count : ℕ → ℕ) (t : Token) (P : Token → Type 0) → MatchOption (within count t) ⊥ P → P t
within_is count t P h = within_from (nat_le t.row (count t.table)) t P h

pub index_cell : (s : Source) (token : Token) (i n table : ℕ) → cells_fault s ≡ None → IsTrue (has_row (module_in s) token) → kind_in token.table i ≡ Some references → column_in token.table i ≡ Some (Index table) → raw_in s token i ≡ n → cell_of (module_in s) token i ≡ Some (refer (index_token table n))
unfolding cell_read
index_cell s token i n table sound there kind column is =
    let row = row_stands s token there in
    let fits : nat_lt (rows_of s.layout table) (raw_in s token i) ≡ false = rw (token_is token row.low) at (unfaulted s token i (Index table) (no_index_fault s sound) there column) in
    within_is (rows_of s.layout) (index_token table n) (λ t. cell_of (module_in s) token i ≡ Some (refer t)) (made s token i (Index table) references refer _ there column refl (plain_kind _ _ references refl kind) (index_there (reading_of s) table (raw_in s token i) fits) (rw is refl))

-- the same of a coded index
pub coded_is : (count : ℕ → ℕ) (o : Option Token) (P : Token → Type 0) → MatchOption (option_and_then (within count) o) ⊥ P → MatchOption o ⊥ P
coded_is count (Some t) P h = within_is count t P h
coded_is count None P h = h

pub coded_cell : (s : Source) (token : Token) (i n : ℕ) (kind : Coding) → cells_fault s ≡ None → IsTrue (has_row (module_in s) token) → kind_in token.table i ≡ Some references → column_in token.table i ≡ Some (Coded kind) → raw_in s token i ≡ n → MatchOption (decoded kind n) ⊥ (λ t. cell_of (module_in s) token i ≡ Some (refer t))
unfolding cell_read
coded_cell s token i n kind sound there kinds column is =
    let row = row_stands s token there in
    let fits : is_past s.layout (decoded kind (raw_in s token i)) ≡ false = rw (token_is token row.low) at (unfaulted s token i (Coded kind) (no_index_fault s sound) there column) in
    coded_is (rows_of s.layout) (decoded kind n) (λ t. cell_of (module_in s) token i ≡ Some (refer t)) (made s token i (Coded kind) references refer (option_and_then (within (rows_of s.layout)) (decoded kind n)) there column refl (plain_kind _ _ references refl kinds) (coded_there s kind (raw_in s token i) fits) (rw is refl))

pub number_cell : (s : Source) (token : Token) (i n : ℕ) → IsTrue (has_row (module_in s) token) → kind_in token.table i ≡ Some numbers → raw_in s token i ≡ n → cell_of (module_in s) token i ≡ Some (number n)
number_cell s token i n there kind is =
    let plain = plain_kind _ _ numbers refl kind in
    let w = column_with _ _ plain.kind in
    held s token i w.0 (number n) there w.1 (ap is_some w.2) plain.body plain.field (rw is (number_for (reading_of s) w.0 n w.2))

-- the row of the module that a token names
pub row_there : (s : Source) (token : Token) → IsTrue (has_row (module_in s) token) → row_of (module_in s) token ≡ Some (row_in s token.table (token.row - 1))
unfolding row_of
row_there s token there =
    let row = row_stands s token there in
    let e : token.row ≡ suc (token.row - 1) = omega (arith, row.low) in
    let at : row_at (rows_in (module_in s) token.table) (suc (token.row - 1)) ≡ Some (row_in s token.table (token.row - 1)) = rw (rows_there s token.table row.table, row.part) (get_below (row_in s token.table) (rows_of s.layout token.table) (token.row - 1) (omega (arith, row.low, row.high))) in
    ap (row_at (rows_in (module_in s) token.table)) e ∙ at

-- a row of the module is a row of the tables
pub row_in_tables : (s : Source) (token : Token) → IsTrue (has_row (module_in s) token) → IsTrue (rows.stream_has_row s.layout token)
row_in_tables s token there =
    let row = row_stands s token there in
    grind (arith, nat_tests, row.low, row.high)

-- a module has all its tables
pub tables_there : (s : Source) → length (module_in s).tables ≡ 0x2D
unfolding module_in
tables_there s = length_below (table_rows s) 0x2D

pub ruleset count_steps = (count_there, count_other, count_past)
