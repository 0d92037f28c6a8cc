-- The first position that passes a test.
use Rattle.std.proofs.Common.{◌≡◌, ℕ, suc, ◌+◌, ◌<◌, Bool, true, false, List, [], ◌∷◌, length, Option, Some, None, refl, sym, ◌∙◌, arith}
use Rattle.std.specs.Prelude.{◌||◌, position, filter, is_some, option_map, if◌then◌else◌}
use Rattle.std.specs.List.{list_any}
use Rattle.enc_plain.proofs.Owned.{position_cons}

some_or : (a b : Bool) (o : Option ℕ) → is_some o ≡ b → is_some (if a then Some 0 else option_map suc o) ≡ (a || b)
some_or true b o e = refl
some_or false b None e = e
some_or false b (Some n) e = e

-- some element passes exactly where there is a first
pub position_any : {X : Type 0} (p : X → Bool) (xs : List X) → is_some (position p xs) ≡ list_any p xs
position_any p [] = refl
position_any p (x ∷ xs) = rw (position_cons p x xs) (some_or (p x) (list_any p xs) (position p xs) (position_any p xs))

in_list : (a : Bool) (o : Option ℕ) (n k : ℕ) → ((i : ℕ) → o ≡ Some i → i < n) → (if a then Some 0 else option_map suc o) ≡ Some k → k < n + 1
in_list true o n k h e = let z : 0 ≡ k = cc in omega (arith, z)
in_list false None n k h e = absurd (cc)
in_list false (Some i) n k h e = let z : suc i ≡ k = cc in omega (arith, z, h i refl)

-- it is one of the list's
pub position_within : {X : Type 0} (p : X → Bool) (xs : List X) (k : ℕ) → position p xs ≡ Some k → k < length xs
position_within p [] k e = absurd (cc)
position_within p (x ∷ xs) k e =
    let n : length (x ∷ xs) ≡ length xs + 1 = omega arith in
    rw n (in_list (p x) (position p xs) (length xs) k (λ i h. position_within p xs i h) (sym (position_cons p x xs) ∙ e))

-- where no element passes there is none
pub position_none : {X : Type 0} (p : X → Bool) (xs : List X) → ((x : X) → p x ≡ false) → position p xs ≡ None
position_none p [] h = refl
position_none p (x ∷ xs) h = rw (position_cons p x xs, h x, position_none p xs h) refl

-- two tests that answer alike on what a third one keeps
same_kept : {X : Type 0} (p q keep : X → Bool) (x : X) (xs : List X) (k : Bool) → keep x ≡ k → (keep x ≡ true → p x ≡ q x) → position p (filter keep xs) ≡ position q (filter keep xs) → position p (filter keep (x ∷ xs)) ≡ position q (filter keep (x ∷ xs))
same_kept p q keep x xs true is alike rest = rw (is, position_cons p x (filter keep xs), position_cons q x (filter keep xs), alike is, rest) refl
same_kept p q keep x xs false is alike rest = rw is rest

pub position_same : {X : Type 0} (p q keep : X → Bool) (xs : List X) → ((x : X) → keep x ≡ true → p x ≡ q x) → position p (filter keep xs) ≡ position q (filter keep xs)
position_same p q keep [] h = refl
position_same p q keep (x ∷ xs) h = same_kept p q keep x xs (keep x) refl (h x) (position_same p q keep xs h)
