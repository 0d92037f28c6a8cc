-- Which twin is named: of the attached children that have a twin the least.
use Rattle.std.specs.Prelude.{◌≡◌, ℕ, ◌≤◌, ◌<◌, ◌^◌, Bool, true, false, List, Option, Some, None, slice_get}
use Rattle.enc_base.specs.Token.{number_of}
use Rattle.enc_base.specs.declared.refusal.Place.{Place}
use Rattle.enc_base.specs.declared.refusal.Place.TheVariants as place
use Rattle.enc_plain.specs.Module.{Module}
use Rattle.enc_plain.specs.Apply.{Attached}
use Rattle.enc_delta.specs.Twins.{Asked, has_twin, twin_fault}

-- one of the elements passes a test, and none that passes has a lesser number
pub record IsLeastOf {A : Type 0} (number : A → ℕ) (test : A → Bool) (xs : List A) (x : A) : Type 0 where
  pub at : ℕ
  pub there : slice_get xs at ≡ Some x
  pub passes : test x ≡ true
  pub least : (i : ℕ) (y : A) → slice_get xs i ≡ Some y → test y ≡ true → number x ≤ number y

abbrev pub NonePasses : {A : Type 0} → (A → Bool) → List A → Type 0
NonePasses {A} test xs = (i : ℕ) (y : A) → slice_get xs i ≡ Some y → test y ≡ false

abbrev pub child_number : Attached → ℕ
child_number a = number_of a.child

-- no child has a twin, or the least that has one is named
abbrev pub NamesTwin : Asked → Module → List Attached → Option Place → Type 0
NamesTwin q m pairs None = NonePasses (has_twin q m pairs) pairs
NamesTwin q m pairs (Some p) = (a : Attached) × IsLeastOf child_number (has_twin q m pairs) pairs a
    × (a.child.row < 2 ^ 24 → p ≡ place.Row a.child)

abbrev pub NamesLeastTwin : Type 0
NamesLeastTwin = (q : Asked) (m : Module) (pairs : List Attached) → NamesTwin q m pairs (twin_fault q m pairs)
