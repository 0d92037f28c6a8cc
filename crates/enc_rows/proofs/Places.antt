-- A cell stands in its row, a row in its table, and a table before the end.
use Rattle.std.proofs.Common.{◌≡◌, ℕ, ◌+◌, ◌-◌, ◌*◌, ◌<◌, ◌≤◌, List, length, get_or, refl, arith}
use Rattle.std.proofs.Common.{inl, inr}
use Rattle.std.proofs.lemmas.Bool.{cases_lt}
use Rattle.std.proofs.Math.Nat.{mul-le-mul_right, add-mul}
use Rattle.std.proofs.lemmas.List.{get_or_past}
use Rattle.std.specs.Prelude.{Option, Some, None, IsTrue, IsSome, IfSome}
use Rattle.std.proofs.lemmas.Bool.Decides.{nat_tests}
use Rattle.enc_base.specs.declared.token.Token.{Token}
use Rattle.enc_schema.specs.declared.column.Column.{Column}
use Rattle.enc_schema.specs.Schema.{column_in}
use Rattle.enc_schema.specs.Widths.{Shape, width_of, space_of, row_width, column_start}
use Rattle.enc_rows.specs.Sums.{sum_below}
use Rattle.enc_rows.specs.Layout.{Layout, rows_of, stream_has_row, number_of_width, raw_cell, table_bytes, table_start, cell_place, IsLaidOut}
use Rattle.enc_rows.proofs.Below.{sum_part, sum_more}

-- a table that has a row is one of the 64
pub table_there : (counts : List ℕ) (t r : ℕ) → length counts ≡ 64 → 0 < r → r ≤ get_or counts t 0 → t < 64
table_there counts t r len low high = elim (cases_lt t 64) [ inl h ↦ h | inr h ↦ absurd (omega (arith, get_or_past counts t 0 (omega arith))) ]

-- the rows before one and this row are no more than all rows
pub rows_room : (n r w : ℕ) → 0 < r → r ≤ n → (r - 1) * w + w ≤ n * w
rows_room n r w low high =
    let e : r ≡ r - 1 + 1 = omega arith in
    let h : (r - 1 + 1) * w ≡ (r - 1) * w + 1 * w = add-mul (r - 1) 1 w in
    let le : (r - 1 + 1) * w ≤ n * w = mul-le-mul_right w (omega arith) in
    omega arith

-- the next table begins behind this one
pub table_start_more : (l : Layout) (n : ℕ) → table_start l (n + 1) ≡ table_start l n + table_bytes l n
unfolding table_start
table_start_more l n = omega (arith, sum_more (table_bytes l) n)

pub cell_place_is : (l : Layout) (token : Token) (i start row column : ℕ) → start ≡ table_start l token.table → row ≡ row_width l.shape token.table → column ≡ column_start l.shape token.table i → start + (token.row - 1) * row + column ≡ cell_place l token i
unfolding cell_place
cell_place_is l token i start row column a b c = rw (a, b, c) refl

-- a row ends before the end of all tables
pub row_end : (l : Layout) (token : Token) → token.table < 64 → 0 < token.row → token.row ≤ rows_of l token.table → table_start l token.table + (token.row - 1) * row_width l.shape token.table + row_width l.shape token.table ≤ table_start l 64
unfolding table_start
row_end l token there low high =
    let all : sum_below (table_bytes l) token.table + table_bytes l token.table ≤ sum_below (table_bytes l) 64 = sum_part (table_bytes l) token.table 64 there in
    let room : (token.row - 1) * row_width l.shape token.table + row_width l.shape token.table ≤ rows_of l token.table * row_width l.shape token.table = rows_room _ _ _ low high in
    omega arith

pub row_tells : (l : Layout) (token : Token) → IsTrue (stream_has_row l token) → (0 < token.row) × (token.row ≤ rows_of l token.table)
row_tells l token there = (grind (arith, nat_tests), grind (arith, nat_tests))

-- a part of a row stands before the end of all tables
pub cell_room : (l : Layout) (token : Token) (i w : ℕ) → IsTrue (stream_has_row l token) → length l.counts ≡ 64 → column_start l.shape token.table i + w ≤ row_width l.shape token.table → cell_place l token i + w ≤ table_start l 64
unfolding cell_place
cell_room l token i w there tables inside =
    let row = row_tells l token there in
    omega (arith, row_end l token (table_there l.counts token.table token.row tables row.0 row.1) row.0 row.1)

-- what a laid out table and one of its rows tell
pub place_facts : (l : Layout) (starts : List ℕ) (token : Token) → IsLaidOut l starts → IsTrue (stream_has_row l token) → (get_or starts token.table 0 ≡ table_start l token.table) × (table_start l token.table + (token.row - 1) * row_width l.shape token.table + row_width l.shape token.table ≤ table_start l 64) × (token.table < 64) × (0 < token.row) × (token.row ≤ rows_of l token.table)
place_facts l starts token laid there =
    let row = row_tells l token there in
    let low : token.table < 64 = table_there l.counts token.table token.row laid.tables row.0 row.1 in
    (laid.begin token.table low, row_end l token low row.0 row.1, low, row.0, row.1)

-- a column that is there ends before the end of all tables
pub column_room : (l : Layout) (starts : List ℕ) (token : Token) (i at : ℕ) (o : Option Column) → IsLaidOut l starts → IsTrue (stream_has_row l token) → at ≡ cell_place l token i → IfSome o (λ c. column_start l.shape token.table i + space_of l.shape c ≤ row_width l.shape token.table) → IfSome o (λ c. at + space_of l.shape c ≤ table_start l 64)
column_room l starts token i at None laid there is inside = tt
column_room l starts token i at (Some c) laid there is inside = rw is (cell_room l token i (space_of l.shape c) there laid.tables inside)

-- a number that is read is the cell's
pub raw_is : (stream : List ℕ) (l : Layout) (token : Token) (i w at n : ℕ) (c : Column) → column_in token.table i ≡ Some c → IsTrue (stream_has_row l token) → w ≡ width_of l.shape c → at ≡ cell_place l token i → number_of_width w stream at ≡ Some n → raw_cell stream l token i ≡ Some n
unfolding raw_cell
raw_is stream l token i w at n c column there width place read =
    rw (column, there, ← width, ← place) read

-- the same, of any column that is there
pub raw_there : (stream : List ℕ) (l : Layout) (token : Token) (i w at n : ℕ) (o : Option Column) → column_in token.table i ≡ o → IsSome o → IsTrue (stream_has_row l token) → IfSome o (λ c. w ≡ width_of l.shape c) → at ≡ cell_place l token i → number_of_width w stream at ≡ Some n → raw_cell stream l token i ≡ Some n
raw_there stream l token i w at n None is some there width place read = absurd cc
raw_there stream l token i w at n (Some c) is some there width place read = raw_is stream l token i w at n c is there width place read

-- and its number ends before the end of all tables
pub raw_room : (s : Shape) (o : Option Column) (w at end : ℕ) → IsSome o → IfSome o (λ c. at + space_of s c ≤ end) → IfSome o (λ c. w ≤ space_of s c) → at + w ≤ end
raw_room s None w at end some within fits = absurd cc
raw_room s (Some c) w at end some within fits = omega (arith, within, fits)
