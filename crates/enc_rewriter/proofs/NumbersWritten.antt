-- The numbers that are written for a sound module, one by one.
use Rattle.std.proofs.Common.{◌≡◌, ℕ, zero, suc, ◌<◌, ◌≤◌, Bool, true, false, List, [], ◌∷◌, length, Option, Some, None, refl, sym, ◌∙◌, arith}
use Rattle.std.specs.Prelude.{option_map, option_and_then, slice_get, nat_lt, nat_le, if◌then◌else◌}
use Rattle.std.proofs.lemmas.Bool.Decides.{nat_tests}
use Rattle.enc_base.specs.Token.{nth_row}
use Rattle.enc_base.specs.declared.token.Token.{Token}
use Rattle.enc_meta.specs.Heaps.{Counted}
use Rattle.enc_plain.specs.Cell.{Cell, number, refer, Kind, references, is_body, is_field, cell_kind}
use Rattle.enc_plain.specs.Module.{Module, has_row, cell_of}
use Rattle.enc_plain.specs.Reading.{cell_read, within, index_token}
use Rattle.enc_plain.specs.Sound.{row_count, is_part, IsSound}
use Rattle.enc_rows.specs.Written.{rows_at}
use Rattle.enc_schema.specs.Coding.{decoded}
use Rattle.enc_schema.specs.Schema.{columns_in, column_in}
use Rattle.enc_schema.specs.declared.column.Coding.{Coding}
use Rattle.enc_schema.specs.declared.column.Column.{Column}
use Rattle.enc_schema.specs.declared.column.Column.TheVariants.{Num8, Num16, Num32, Index, Coded, Run}
use Rattle.enc_rewriter.specs.Numbers.{reading_by, run_first, NumberSays, PlainNumberSays, HoldRows}
use Rattle.enc_rewriter.specs.Placed.{Placed}
use Rattle.enc_rewriter.proofs.Gathers.{body_column, field_column}
use Rattle.enc_rewriter.proofs.RefersTo.{index_kind, coded_kind}
use Rattle.enc_rewriter.proofs.RunStarts.{some_there}

-- a number in a column of a row that is written, and what it says
pub record IsWritten (m : Module) (h : Counted) (p : Placed) (rows : List (List (List ℕ))) (t n i : ℕ) (column : Column) : Type 0 where
  pub cells : List ℕ
  pub number : ℕ
  pub row : slice_get (rows_at rows t) n ≡ Some cells
  pub get : slice_get cells i ≡ Some number
  pub says : NumberSays m h p (nth_row t n) i column number

pub there : {A : Type 0} (xs : List A) (n : ℕ) (x : A) → slice_get xs n ≡ Some x → n < length xs
there [] n x e = absurd cc
there (y ∷ ys) zero x e = omega arith
there (y ∷ ys) (suc n) x e = omega (arith, there ys n x e)

-- each row of a module has a number in each of its columns
pub number_written : (m : Module) (h : Counted) (p : Placed) (rows : List (List (List ℕ))) (t n i : ℕ) (column : Column) → HoldRows m h p rows → is_part t ≡ true
    → n < row_count m t → column_in t i ≡ Some column → IsWritten m h p rows t n i column
number_written m h p rows t n i column said part low e =
    let table = said.parts t part in
    let many : length (rows_at rows t) ≡ row_count m t = table.count in
    let row = some_there (rows_at rows t) n (omega (arith, many, low)) in
    let says = table.each n row.0 row.1 in
    let wide : length row.0 ≡ length (columns_in t) = says.count in
    let here = there (columns_in t) i column e in
    let x = some_there row.0 i (omega (arith, wide, here)) in
    record { cells = row.0; number = x.0; row = row.1; get = x.1; says = says.each i column x.0 e x.1 }

body_test : (t i : ℕ) (c : Column) (b : Bool) → column_in t i ≡ Some c → is_body t i ≡ b → (c ≡ Num32 → ⊥) → is_body t i ≡ false
body_test t i c true e is other = absurd (other (body_column t i c e is))
body_test t i c false e is other = is

field_test : (t i : ℕ) (c : Column) (b : Bool) → column_in t i ≡ Some c → is_field t i ≡ b → (c ≡ Num32 → ⊥) → is_field t i ≡ false
field_test t i c true e is other = absurd (other (field_column t i c e is))
field_test t i c false e is other = is

-- a number in a column that isn't of four bytes is no place
pub plain_of : (m : Module) (h : Counted) (p : Placed) (u : Token) (i : ℕ) (c : Column) (x : ℕ) → column_in u.table i ≡ Some c → (c ≡ Num32 → ⊥) → NumberSays m h p u i c x
    → PlainNumberSays m h u i c x
plain_of m h p u i c x e other says = says.plain (body_test u.table i c (is_body u.table i) e refl other) (field_test u.table i c (is_field u.table i) e refl other)

byte_other : Num8 ≡ Num32 → ⊥
byte_other e = absurd cc

short_other : Num16 ≡ Num32 → ⊥
short_other e = absurd cc

index_other : (t : ℕ) → Index t ≡ Num32 → ⊥
index_other t e = absurd cc

coded_other : (k : Coding) → Coded k ≡ Num32 → ⊥
coded_other k e = absurd cc

run_other : (t : ℕ) → Run t ≡ Num32 → ⊥
run_other t e = absurd cc

-- where a run begins
pub run_written : (m : Module) (h : Counted) (p : Placed) (u : Token) (i child x : ℕ) → column_in u.table i ≡ Some (Run child) → NumberSays m h p u i (Run child) x
    → x ≡ run_first m child u.row
run_written m h p u i child x e says = plain_of m h p u i (Run child) x e (run_other child) says

-- numbers of one and of two bytes
pub byte_written : (m : Module) (h : Counted) (p : Placed) (u : Token) (i x : ℕ) → IsSound m → has_row m u ≡ true → column_in u.table i ≡ Some Num8
    → NumberSays m h p u i Num8 x → nat_lt x 0x100 ≡ true
unfolding cell_read
byte_written m h p u i x sound row e says =
    let plain : Some (number x) ≡ cell_of m u i = plain_of m h p u i Num8 x e byte_other says in
    sound.cells.each u i Num8 (number x) row e (sym plain)

pub short_written : (m : Module) (h : Counted) (p : Placed) (u : Token) (i x : ℕ) → IsSound m → has_row m u ≡ true → column_in u.table i ≡ Some Num16
    → NumberSays m h p u i Num16 x → nat_lt x 0x10000 ≡ true
unfolding cell_read
short_written m h p u i x sound row e says =
    let plain : Some (number x) ≡ cell_of m u i = plain_of m h p u i Num16 x e short_other says in
    sound.cells.each u i Num16 (number x) row e (sym plain)

cell_some : (o : Option Cell) (k : Kind) → option_map cell_kind o ≡ Some k → (c : Cell) × (o ≡ Some c)
cell_some (Some c) k e = (c, refl)
cell_some None k e = absurd cc

within_low : (count : ℕ → ℕ) (t : Token) (b : Bool) (c : Cell) → nat_le t.row (count t.table) ≡ b → option_map refer (if b then Some t else None) ≡ Some c
    → t.row ≤ count t.table
within_low count t true c e h = grind (arith, nat_tests)
within_low count t false c e h = absurd cc

index_low : (count : ℕ → ℕ) (other x : ℕ) (c : Cell) → option_map refer (within count (index_token other x)) ≡ Some c → x ≤ count other
index_low count other zero c e = omega arith
index_low count other (suc r) c e = within_low count (record { table = other; row = suc r }) (nat_le (suc r) (count other)) c refl e

-- an index isn't past its table
pub index_written : (m : Module) (h : Counted) (p : Placed) (u : Token) (i other x : ℕ) → IsSound m → has_row m u ≡ true → column_in u.table i ≡ Some (Index other)
    → NumberSays m h p u i (Index other) x → x ≤ row_count m other
unfolding cell_read
index_written m h p u i other x sound row e says =
    let plain : cell_read (reading_by m h) (Index other) x ≡ cell_of m u i = plain_of m h p u i (Index other) x e (index_other other) says in
    let c = cell_some (cell_of m u i) references (sound.kinds.kinds u i references row (index_kind u.table i other e)) in
    index_low (row_count m) other x c.0 (plain ∙ c.1)

-- nor is a coded one
pub record IsCoded (m : Module) (kind : Coding) (x : ℕ) : Type 0 where
  pub token : Token
  pub is : decoded kind x ≡ Some token
  pub row : token.row ≤ row_count m token.table

coded_low : (m : Module) (kind : Coding) (x : ℕ) (o : Option Token) (c : Cell) → decoded kind x ≡ o → option_map refer (option_and_then (within (row_count m)) o) ≡ Some c
    → IsCoded m kind x
coded_low m kind x None c e h = absurd cc
coded_low m kind x (Some t) c e h = record { token = t; is = e; row = within_low (row_count m) t (nat_le t.row (row_count m t.table)) c refl h }

pub coded_written : (m : Module) (h : Counted) (p : Placed) (u : Token) (i x : ℕ) (kind : Coding) → IsSound m → has_row m u ≡ true → column_in u.table i ≡ Some (Coded kind)
    → NumberSays m h p u i (Coded kind) x → IsCoded m kind x
unfolding cell_read
coded_written m h p u i x kind sound row e says =
    let plain : cell_read (reading_by m h) (Coded kind) x ≡ cell_of m u i = plain_of m h p u i (Coded kind) x e (coded_other kind) says in
    let c = cell_some (cell_of m u i) references (sound.kinds.kinds u i references row (coded_kind u.table i kind e)) in
    coded_low m kind x (decoded kind x) c.0 refl (plain ∙ c.1)
