-- Nine columns a table: where a column's start and width stand among them.
use Rattle.std.proofs.Common.{◌≡◌, ℕ, ◌+◌, ◌*◌, ◌/◌, ◌%◌, ◌<◌, ◌≤◌, ◌⊎◌, inl, inr, List, get_or, refl, arith, IsSome, Some, None, Option}
use Rattle.std.specs.Prelude.{IfSome}
use Rattle.std.proofs.lemmas.Bool.{cases_lt}
use Rattle.std.proofs.lemmas.Option.{slice_get_past}
use Rattle.enc_schema.specs.declared.column.Column.{Column}
use Rattle.enc_schema.specs.Schema.{schema, columns_in, column_in}
use Rattle.enc_schema.specs.Widths.{Shape, width_of, space_of, row_width, column_start}
use Rattle.enc_schema.proofs.TableNames.{columns_few}
use Rattle.enc_schema.proofs.Kept.{start_within}
use Rattle.enc_rows.specs.Columns.{width_at, width_or_none, AreStarts, AreWidths}
use Rattle.enc_rows.proofs.Lengths.{Sizes, sizes}

apart : (o : Option Column) → IsSome o → o ≡ None → ⊥
apart None there is = absurd cc
apart (Some c) there is = absurd cc

none_past : (t i : ℕ) → 56 ≤ t → column_in t i ≡ None
unfolding columns_in
none_past t i h = rw (slice_get_past schema t h) refl

-- a column that is there is one of the first nine, and its table one of 56
pub column_few : (t i : ℕ) → IsSome (column_in t i) → i < 9
column_few t i there = elim (cases_lt i 9) [
  | inl h ↦ h
  | inr h ↦ absurd (apart (column_in t i) there (slice_get_past (columns_in t) i (omega (arith, columns_few t))))
]

pub table_few : (t i : ℕ) → IsSome (column_in t i) → t < 56
table_few t i there = elim (cases_lt t 56) [
  | inl h ↦ h
  | inr h ↦ absurd (apart (column_in t i) there (none_past t i h))
]

pub start_at : (s : Shape) (starts : List ℕ) (t i k : ℕ) → AreStarts s starts → k ≡ t * 9 + i → k < 504 → i < 9 → get_or starts k 0 ≡ column_start s t i
start_at s starts t i k all is few low =
    let table : k / 9 ≡ t = omega arith in
    let column : k % 9 ≡ i = omega arith in
    rw (table, column) at (all k few)

size_at : (s : Shape) (starts : List ℕ) (t i k : ℕ) → AreWidths s starts → k ≡ t * 9 + i → k < 504 → i < 9 → get_or starts k 0 ≡ width_at s t i
size_at s starts t i k all is few low =
    let table : k / 9 ≡ t = omega arith in
    let column : k % 9 ≡ i = omega arith in
    rw (table, column) at (all k few)

-- a column ends in its row
pub start_room : (s : Shape) (t i n : ℕ) → n ≡ column_start s t i → IfSome (column_in t i) (λ c. n + space_of s c ≤ row_width s t)
start_room s t i n is = rw is (start_within s t i)

width_some : (s : Shape) (o : Option Column) (n : ℕ) → n ≡ width_or_none s o → IfSome o (λ c. n ≡ width_of s c)
width_some s None n is = tt
width_some s (Some c) n is = is

pub width_is : (s : Shape) (sizes : List ℕ) (t i k : ℕ) → AreWidths s sizes → k ≡ t * 9 + i → k < 504 → i < 9 → IfSome (column_in t i) (λ c. get_or sizes k 0 ≡ width_of s c)
unfolding width_at
width_is s sizes t i k all is few low = width_some s (column_in t i) _ (size_at s sizes t i k all is few low)

one_two_four : (width space : ℕ) → Sizes width space → (width ≡ 1) ⊎ ((width ≡ 2) ⊎ (width ≡ 4))
one_two_four width space (inl e) = inl e.0
one_two_four width space (inr (inl e)) = inr (inl e.0)
one_two_four width space (inr (inr e)) = inr (inr e.0)

in_space : (width space : ℕ) → Sizes width space → width ≤ space
in_space width space (inl e) = omega (arith, e.0, e.1)
in_space width space (inr (inl e)) = omega (arith, e.0, e.1)
in_space width space (inr (inr e)) = omega (arith, e.0, e.1)

pub width_size : (s : Shape) (o : Option Column) (n : ℕ) → IsSome o → IfSome o (λ c. n ≡ width_of s c) → (n ≡ 1) ⊎ ((n ≡ 2) ⊎ (n ≡ 4))
width_size s None n there is = absurd cc
width_size s (Some c) n there is = rw is (one_two_four (width_of s c) _ (sizes s c))

pub width_fits : (s : Shape) (o : Option Column) (n : ℕ) → IfSome o (λ c. n ≡ width_of s c) → IfSome o (λ c. n ≤ space_of s c)
width_fits s None n is = tt
width_fits s (Some c) n is = rw is (in_space (width_of s c) _ (sizes s c))
