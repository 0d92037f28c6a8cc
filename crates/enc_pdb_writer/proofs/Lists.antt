-- Lists: what stands at a place, and what tests of all or of some say of it.
use Rattle.std.proofs.Common.{◌≡◌, ℕ, zero, suc, Bool, true, false, List, [], ◌∷◌, Option, Some, None, refl, sym, ap, ◌∙◌}
use Rattle.std.specs.Prelude.{◌||◌, position, option_map, slice_get, if◌then◌else◌}
use Rattle.std.specs.List.{list_any, list_all}
use Rattle.std.proofs.lemmas.Bool.{and_parts, or_left, or_right}
use Rattle.enc_plain.proofs.Owned.{position_cons}

-- an element that passes, and its place
pub record PassesAt {X : Type 0} (p : X → Bool) (xs : List X) (k : ℕ) : Type 0 where
  pub element : X
  pub here : slice_get xs k ≡ Some element
  pub passes : p element ≡ true

passes_later : {X : Type 0} (p : X → Bool) (x : X) (xs : List X) (k : ℕ) → PassesAt p xs k → PassesAt p (x ∷ xs) (suc k)
passes_later p x xs k is = record { element = is.element; here = is.here; passes = is.passes }

first_by : {X : Type 0} (p : X → Bool) (x : X) (xs : List X) (a : Bool) (o : Option ℕ) (k : ℕ) → p x ≡ a → ((i : ℕ) → o ≡ Some i → PassesAt p xs i) → (if a then Some 0 else option_map suc o) ≡ Some k → PassesAt p (x ∷ xs) k
first_by p x xs true o zero is later e = record { element = x; here = refl; passes = is }
first_by p x xs true o (suc k) is later e = absurd cc
first_by p x xs false None k is later e = absurd cc
first_by p x xs false (Some i) zero is later e = absurd cc
first_by p x xs false (Some i) (suc k) is later e = let same : i ≡ k = cc in passes_later p x xs k (later k (ap (λ (n : ℕ). Some n) same))

-- the first place stands at an element that passes
pub first_passes : {X : Type 0} (p : X → Bool) (xs : List X) (k : ℕ) → position p xs ≡ Some k → PassesAt p xs k
first_passes p [] k e = absurd cc
first_passes p (x ∷ xs) k e = first_by p x xs (p x) (position p xs) k refl (λ i h. first_passes p xs i h) (sym (position_cons p x xs) ∙ e)

-- what holds of all holds of one
pub one_of_all : {X : Type 0} (p : X → Bool) (xs : List X) (k : ℕ) (x : X) → list_all p xs ≡ true → slice_get xs k ≡ Some x → p x ≡ true
one_of_all p [] k x all at = absurd cc
one_of_all p (y ∷ ys) zero x all at = let e : y ≡ x = cc in ap p (sym e) ∙ (and_parts (p y) (list_all p ys) all).0
one_of_all p (y ∷ ys) (suc k) x all at = one_of_all p ys k x (and_parts (p y) (list_all p ys) all).1 at

-- what holds of each holds of all
pub all_of_each : {X : Type 0} (p : X → Bool) (xs : List X) → ((k : ℕ) (x : X) → slice_get xs k ≡ Some x → p x ≡ true) → list_all p xs ≡ true
all_of_each p [] each = refl
all_of_each p (x ∷ xs) each = rw (each 0 x refl, all_of_each p xs (λ k y at. each (suc k) y at)) refl

-- one that passes is enough
pub some_by_one : {X : Type 0} (p : X → Bool) (xs : List X) (k : ℕ) (x : X) → slice_get xs k ≡ Some x → p x ≡ true → list_any p xs ≡ true
some_by_one p [] k x at is = absurd cc
some_by_one p (y ∷ ys) zero x at is = let e : y ≡ x = cc in or_left (p y) (list_any p ys) (ap p e ∙ is)
some_by_one p (y ∷ ys) (suc k) x at is = or_right (p y) (list_any p ys) (some_by_one p ys k x at is)

one_by : {X : Type 0} (p : X → Bool) (x : X) (xs : List X) (b : Bool) → p x ≡ b → (list_any p xs ≡ true → (k : ℕ) × PassesAt p xs k) → (b || list_any p xs) ≡ true → (k : ℕ) × PassesAt p (x ∷ xs) k
one_by p x xs true is later e = (0, record { element = x; here = refl; passes = is })
one_by p x xs false is later e = let r = later e in (suc (r.0), passes_later p x xs (r.0) (r.1))

-- where some pass, one stands at a place
pub one_of_some : {X : Type 0} (p : X → Bool) (xs : List X) → list_any p xs ≡ true → (k : ℕ) × PassesAt p xs k
one_of_some p [] e = absurd cc
one_of_some p (x ∷ xs) e = one_by p x xs (p x) refl (λ later. one_of_some p xs later) e

-- none passes where none does
pub none_by_each : {X : Type 0} (p : X → Bool) (xs : List X) → ((k : ℕ) (x : X) → slice_get xs k ≡ Some x → p x ≡ false) → list_any p xs ≡ false
none_by_each p [] each = refl
none_by_each p (x ∷ xs) each = rw (each 0 x refl, none_by_each p xs (λ k y at. each (suc k) y at)) refl
