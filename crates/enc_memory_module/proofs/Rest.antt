-- What is left of a list from a place on, and what holds of the item at a place.
use Rattle.std.proofs.Common.{◌≡◌, ℕ, zero, suc, ◌+◌, ◌≤◌, Bool, true, List, [], ◌∷◌, length, drop, Some, refl, arith}
use Rattle.std.specs.Prelude.{slice_get}
use Rattle.std.specs.List.{list_all}
use Rattle.std.proofs.lemmas.Bool.{and_parts, and_from}

rest_is : {A : Type 0} (xs : List A) (k : ℕ) (x : A) → slice_get xs k ≡ Some x → drop k xs ≡ x ∷ drop (suc k) xs
rest_is [] k x h = absurd cc
rest_is (y ∷ xs) zero x h = let e : y ≡ x = cc in rw e refl
rest_is (y ∷ xs) (suc k) x h = rest_is xs k x h

-- it begins with the item there, and past the last there is nothing
pub rest_next : {A : Type 0} (xs : List A) (k : ℕ) (x : A) → slice_get xs k ≡ Some x → drop k xs ≡ x ∷ drop (k + 1) xs
rest_next xs k x h = let n : k + 1 ≡ suc k = omega arith in rw n (rest_is xs k x h)

pub none_left : {A : Type 0} (xs : List A) (k : ℕ) → length xs ≤ k → drop k xs ≡ []
none_left [] zero h = refl
none_left [] (suc k) h = refl
none_left (x ∷ xs) zero h = absurd (omega arith)
none_left (x ∷ xs) (suc k) h = none_left xs k (omega arith)

-- what holds of all, and of the item at each place
pub each_of : {A : Type 0} (p : A → Bool) (xs : List A) → ((k : ℕ) (x : A) → slice_get xs k ≡ Some x → p x ≡ true) → list_all p xs ≡ true
each_of p [] each = refl
each_of p (x ∷ xs) each = and_from (p x) (list_all p xs) (each 0 x refl) (each_of p xs (λ k y there. each (suc k) y there))

pub at_place : {A : Type 0} (p : A → Bool) (xs : List A) (k : ℕ) (x : A) → list_all p xs ≡ true → slice_get xs k ≡ Some x → p x ≡ true
at_place p [] k x all there = absurd cc
at_place p (y ∷ xs) zero x all there = let is : y ≡ x = cc in rw (← is) (and_parts (p y) (list_all p xs) all).0
at_place p (y ∷ xs) (suc k) x all there = at_place p xs k x (and_parts (p y) (list_all p xs) all).1 there
