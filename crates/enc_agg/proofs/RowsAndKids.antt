-- The rows and the children of a module.
use Rattle.std.proofs.Common.{◌≡◌, ℕ, zero, suc, ◌<◌, ◌≤◌, Bool, true, false, List, [], ◌∷◌, ◌++◌, length, Option, Some, None, refl, ap, inl, inr, arith}
use Rattle.std.specs.Prelude.{IsTrue, if◌then◌else◌, slice_get}
use Rattle.std.proofs.lemmas.Bool.{cases_lt}
use Rattle.std.proofs.lemmas.Bool.Decides.{nat_tests}
use Rattle.std.proofs.lemmas.Option.{slice_get_past}
use Rattle.enc_base.specs.declared.token.Token.{Token}
use Rattle.enc_plain.specs.Module.{Module, Row, rows_in, row_at, row_of, has_row, kids_with, kids_of}

-- a row from 1 to the last is there
pub has_old : (m : Module) (u : Token) (n : ℕ) → n ≡ length (rows_in m u.table) → 0 < u.row → u.row ≤ n → IsTrue (has_row m u)
unfolding has_row
has_old m u n e low high = rw (← e) (grind (arith, nat_tests))

past_row : (rows : List Row) (row : ℕ) → length rows < row → row_at rows row ≡ None
past_row rows zero h = absurd (omega arith)
past_row rows (suc i) h = slice_get_past rows i (omega arith)

no_kids : (b : Bool) (o : Option Row) (t : ℕ) → o ≡ None → (if b then kids_with o t else []) ≡ []
no_kids true o t h = rw h refl
no_kids false o t h = refl

-- a row past the last has no children
pub kids_past : (m : Module) (u : Token) (t n : ℕ) → n ≡ length (rows_in m u.table) → n < u.row → kids_of m u t ≡ []
unfolding kids_of row_of
kids_past m u t n e past = no_kids _ (row_at (rows_in m u.table) u.row) t (past_row (rows_in m u.table) u.row (omega arith))

-- an owner that has a child is a row
pub kids_row : (m : Module) (u : Token) (t i n : ℕ) → n ≡ length (rows_in m u.table) → 0 < u.row → i < length (kids_of m u t) → IsTrue (has_row m u)
kids_row m u t i n e low h =
    elim (cases_lt n u.row) [
      | inl past ↦ let none = ap (λ (xs : List ℕ). length xs) (kids_past m u t n e past) in absurd (omega arith)
      | inr high ↦ has_old m u n e low high
    ]

-- rows count from 1
pub some_row : (m : Module) (u : Token) → IsTrue (has_row m u) → 0 < u.row
unfolding has_row
some_row m u h = grind (arith, nat_tests)

pub get_left : (xs ys : List ℕ) (i : ℕ) (x : ℕ) → slice_get xs i ≡ Some x → slice_get (xs ++ ys) i ≡ Some x
get_left [] ys i x h = absurd cc
get_left (y ∷ xs) ys zero x h = h
get_left (y ∷ xs) ys (suc i) x h = get_left xs ys i x h
