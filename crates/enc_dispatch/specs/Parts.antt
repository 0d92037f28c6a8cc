-- Parts by their places.
use Rattle.std.specs.Prelude.{◌≡◌, ℕ, zero, suc, List, Option, Some, None, slice_get}

-- the n-th from 1; there is none at 0
abbrev pub nth_part : {A : Type 0} → List A → ℕ → Option A
nth_part parts zero = None
nth_part parts (suc i) = slice_get parts i

-- each of a list's parts is as its place says
abbrev pub EachPart : {A : Type 0} → (ℕ → A → Type 0) → List A → Type 0
EachPart {A} is parts = (n : ℕ) (p : A) → slice_get parts n ≡ Some p → is n p
