-- What the loops over the bytes of a heap work out.
use Rattle.std.proofs.Common.{◌≡◌, ℕ, suc, ◌+◌, ◌-◌, ◌<◌, ◌≤◌, Bool, true, false, cond, List, [], ◌∷◌, ◌++◌, length, take, get_or, Option, Some, None, option_map, refl, sym, subst, not, ◌∙◌, arith, nat_lt}
use Rattle.std.specs.Prelude.{◌==◌}
use Rattle.std.specs.List.{position, position_or_len}
use Rattle.std.proofs.lemmas.Bool.Decides.{nat_tests}
use Rattle.std.proofs.lemmas.List.{take_more, length-take-le}
use Rattle.enc_meta.specs.Root.{before_zero}
use Rattle.enc_meta.specs.Heaps.{filled}

abbrev cut : Bool → List ℕ → Option (List ℕ)
cut found front = cond found (Some front) None

longer : (b : ℕ) (front : List ℕ) (found : Bool) → option_map (λ t. b ∷ t) (cut found front) ≡ cut found (b ∷ front)
longer b front true = refl
longer b front false = refl

taken : (p : ℕ) (xs : List ℕ) (found : Bool) → cut found (take p xs) ≡ option_map (λ i. take i xs) (cond found (Some p) None)
taken p xs true = refl
taken p xs false = refl

next_zero : (b : ℕ) (rest : List ℕ) (zero : Bool) (p : ℕ) → cond zero (Some []) (cut (nat_lt p (length rest)) (b ∷ take p rest)) ≡ cut (nat_lt (cond (not zero) (1 + p) 0) (length (b ∷ rest))) (take (cond (not zero) (1 + p) 0) (b ∷ rest))
next_zero b rest true p = grind (arith, nat_tests)
next_zero b rest false p =
    let e : 1 + p ≡ suc p = omega arith in
    rw e (grind (arith, nat_tests))

-- the bytes before the first zero are those before its place
before_zero_cut : (xs : List ℕ) → before_zero xs ≡ cut (nat_lt (position_or_len (λ b. b == 0) xs) (length xs)) (take (position_or_len (λ b. b == 0) xs) xs)
before_zero_cut [] = refl
before_zero_cut (b ∷ rest) =
    rw (before_zero_cut rest, longer b _ _) (next_zero b rest (b == 0) (position_or_len (λ x. x == 0) rest))

pub before_zero_is : (xs : List ℕ) → before_zero xs ≡ option_map (λ i. take i xs) (position (λ b. b == 0) xs)
before_zero_is xs = before_zero_cut xs ∙ taken _ xs _

-- a zero at the end doesn't count, and up to another byte all count
filled_zero : (xs : List ℕ) → filled (xs ++ 0 ∷ []) ≡ filled xs
filled_zero [] = refl
filled_zero (b ∷ rest) = rw (filled_zero rest) refl

filled_to : (xs : List ℕ) (b : ℕ) → 0 < b → filled (xs ++ b ∷ []) ≡ length xs + 1
filled_to [] b h = grind (arith, nat_tests)
filled_to (x ∷ rest) b h = let e = filled_to rest b h in grind (arith, nat_tests)

pub filled_less : (xs : List ℕ) (n : ℕ) → 0 < n → n ≤ length xs → get_or xs (n - 1) 0 ≡ 0 → filled (take (n - 1) xs) ≡ filled (take n xs)
filled_less xs n some within nil =
    let m : n ≡ (n - 1) + 1 = omega arith in
    let e = take_more xs (n - 1) 0 (omega arith) in
    let P : ℕ → Type 0 = λ k. filled (take (n - 1) xs) ≡ filled (take k xs) in
    subst P (sym m) (rw (e, nil) (sym (filled_zero (take (n - 1) xs))))

pub filled_there : (xs : List ℕ) (n : ℕ) → 0 < n → n ≤ length xs → 0 < get_or xs (n - 1) 0 → filled (take n xs) ≡ n
filled_there xs n some within more =
    let m : n ≡ (n - 1) + 1 = omega arith in
    let e = take_more xs (n - 1) 0 (omega arith) in
    let l = length-take-le (n - 1) xs (omega arith) in
    let there = filled_to (take (n - 1) xs) (get_or xs (n - 1) 0) more in
    let P : ℕ → Type 0 = λ k. filled (take k xs) ≡ k in
    subst P (sym m) (rw e (omega arith))
