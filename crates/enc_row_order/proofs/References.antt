-- What the references of a sound module name.
use Rattle.std.proofs.Common.{◌≡◌, ℕ, ◌+◌, ◌<◌, ◌≤◌, Bool, true, false, Some, refl, arith, inl, inr}
use Rattle.std.specs.Prelude.{◌^◌, ◌&&◌, ◌||◌, ◌==◌, nat_le, nat_lt, option_and_then, if◌then◌else◌}
use Rattle.std.proofs.lemmas.Bool.Decides.{nat_tests}
use Rattle.std.proofs.lemmas.Bool.{and_parts}
use Rattle.enc_base.specs.Token.{nil, is_token, nth_row}
use Rattle.enc_base.specs.declared.token.Token.{Token}
use Rattle.enc_plain.specs.Cell.{refer, numbers, references, bodies, fields, kind_of, kind_in, is_body, is_field}
use Rattle.enc_plain.specs.Module.{Module, has_row, cell_of}
use Rattle.enc_plain.specs.Sound.{IsSound, is_reference, can_name, row_count}
use Rattle.enc_schema.specs.Schema.{column_in, columns_in}
use Rattle.enc_schema.specs.declared.column.Coding.{Coding}
use Rattle.enc_schema.specs.declared.column.Column.{Column}
use Rattle.enc_schema.specs.declared.column.Column.TheVariants.{Num16, Num32, Index, Coded}
use Rattle.enc_base.specs.Tables.{type_def, nested_class}
use Rattle.enc_row_order.proofs.FirstWalks.{IsType}

-- the two columns whose cells aren't of their column's kind are of four bytes
body_is : (t i : ℕ) → is_body t i ≡ true → (t ≡ 0x06) × (i ≡ 0)
body_is t i e = (grind (arith, nat_tests), grind (arith, nat_tests))

field_is : (t i : ℕ) → is_field t i ≡ true → (t ≡ 0x1D) × (i ≡ 0)
field_is t i e = (grind (arith, nat_tests), grind (arith, nat_tests))

at_body : (c : Column) → column_in 0x06 0 ≡ Some c → c ≡ Num32
unfolding columns_in
at_body c e = cc

at_field : (c : Column) → column_in 0x1D 0 ≡ Some c → c ≡ Num32
unfolding columns_in
at_field c e = cc

kind_test : (t i : ℕ) (c : Column) (b f : Bool) → column_in t i ≡ Some c → is_body t i ≡ b → is_field t i ≡ f → (c ≡ Num32 → ⊥)
    → (if b then Some bodies else if f then Some fields else option_and_then kind_of (column_in t i)) ≡ kind_of c
kind_test t i c true f e is k other = let p = body_is t i is in absurd (other (at_body c (rw (p.0, p.1) at e)))
kind_test t i c false true e is k other = let p = field_is t i k in absurd (other (at_field c (rw (p.0, p.1) at e)))
kind_test t i c false false e is k other = rw e refl

other_kind : (t i : ℕ) (c : Column) → column_in t i ≡ Some c → (c ≡ Num32 → ⊥) → kind_in t i ≡ kind_of c
other_kind t i c e other = kind_test t i c (is_body t i) (is_field t i) e refl refl other

pub index_kind : (t i table : ℕ) → column_in t i ≡ Some (Index table) → kind_in t i ≡ Some references
index_kind t i table e = other_kind t i (Index table) e (λ f. cc)

pub coded_kind : (t i : ℕ) (k : Coding) → column_in t i ≡ Some (Coded k) → kind_in t i ≡ Some references
coded_kind t i k e = other_kind t i (Coded k) e (λ f. cc)

pub short_kind : (t i : ℕ) → column_in t i ≡ Some Num16 → kind_in t i ≡ Some numbers
short_kind t i e = other_kind t i Num16 e (λ f. cc)

same_parts : (table row : ℕ) (other_table other_row : ℕ) → table ≡ other_table → row ≡ other_row
    → ◌≡◌ {A = Token} (record { table = table; row = row }) (record { table = other_table; row = other_row })
same_parts table row other_table other_row a b = rw (a, b) refl

same_token : (t u : Token) → is_token t u ≡ true → t ≡ u
same_token t u e =
    let a : t.table ≡ u.table = grind (arith, nat_tests) in
    let b : t.row ≡ u.row = grind (arith, nat_tests) in
    same_parts t.table t.row u.table u.row a b

is_row : (m : Module) (t : Token) → has_row m t ≡ true → (0 < t.row) × (t.row ≤ row_count m t.table)
unfolding has_row
is_row m t e = (grind (arith, nat_tests), grind (arith, nat_tests))

low_by : (m : Module) (c : Column) (t : Token) (nothing : Bool) → ((k : ℕ) → row_count m k < 2 ^ 24) → is_token t nil ≡ nothing
    → (nothing || (can_name c t.table && has_row m t)) ≡ true → t.row < 2 ^ 24
low_by m c t true few is there = let e = same_token t nil is in rw e (omega arith)
low_by m c t false few is there =
    let row = is_row m t (and_parts (can_name c t.table) (has_row m t) there).1 in
    omega (arith, row.1, few t.table)

-- a reference's row is of three bytes
pub reference_low : (m : Module) (u : Token) (i : ℕ) (c : Column) (t : Token) → IsSound m → has_row m u ≡ true → column_in u.table i ≡ Some c
    → cell_of m u i ≡ Some (refer t) → t.row < 2 ^ 24
unfolding is_reference
reference_low m u i c t sound there e is = low_by m c t (is_token t nil) sound.counts.few refl (sound.cells.each u i c (refer t) there e is)

named_by : (m : Module) (c : Column) (t : Token) (nothing : Bool) → is_token t nil ≡ nothing → (nothing || (can_name c t.table && has_row m t)) ≡ true
    → ((t.row == 0) || can_name c t.table) ≡ true
named_by m c t true is there = let e = same_token t nil is in rw e refl
named_by m c t false is there = rw ((and_parts (can_name c t.table) (has_row m t) there).0) (by (t.row == 0))
  where
    by : (b : Bool) → (b || true) ≡ true
    by true = refl
    by false = refl

-- it has no row, or its table is one that the column can name
pub reference_named : (m : Module) (u : Token) (i : ℕ) (c : Column) (t : Token) → IsSound m → has_row m u ≡ true → column_in u.table i ≡ Some c
    → cell_of m u i ≡ Some (refer t) → ((t.row == 0) || can_name c t.table) ≡ true
unfolding is_reference
reference_named m u i c t sound there e is = named_by m c t (is_token t nil) refl (sound.cells.each u i c (refer t) there e is)

-- the rows of a table, counted from 0
pub row_here : (m : Module) (table k : ℕ) → k < row_count m table → has_row m (nth_row table k) ≡ true
unfolding has_row
row_here m table k low = by (row_count m table) low
  where
    by : (n : ℕ) → k < n → (nat_lt 0 (k + 1) && nat_le (k + 1) n) ≡ true
    by n low = grind (arith, nat_tests)

-- NestedClass names types
pub nested_column : column_in nested_class 0 ≡ Some (Index type_def)
unfolding columns_in
nested_column = refl

pub nested_kind : kind_in nested_class 0 ≡ Some references
unfolding columns_in
nested_kind = refl

pub enclosing_kind : kind_in nested_class 1 ≡ Some references
unfolding columns_in
enclosing_kind = refl

type_by : (m : Module) (t : Token) (nothing : Bool) → is_token t nil ≡ nothing → (nothing || ((type_def == t.table) && has_row m t)) ≡ true
    → IsType (row_count m type_def) t
type_by m t true is there = inl (same_token t nil is)
type_by m t false is there =
    let both = and_parts (type_def == t.table) (has_row m t) there in
    let table : t.table ≡ type_def = let first = both.0 in grind (arith, nat_tests) in
    let row = is_row m t both.1 in
    inr (table, row.0, rw table at (row.1))

pub nested_type : (m : Module) (k : ℕ) (t : Token) → IsSound m → k < row_count m nested_class → cell_of m (nth_row nested_class k) 0 ≡ Some (refer t)
    → IsType (row_count m type_def) t
unfolding is_reference
nested_type m k t sound low is =
    type_by m t (is_token t nil) refl (sound.cells.each (nth_row nested_class k) 0 (Index type_def) (refer t) (row_here m nested_class k low) nested_column is)
