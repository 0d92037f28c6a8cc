-- One past the greatest of some numbers: what is at it or past it, and with one number more.
use Rattle.std.proofs.Common.{◌≡◌, ℕ, zero, suc, ◌+◌, ◌≤◌, false, List, [], ◌∷◌, length, take, Some, refl, ap, sym, ◌∙◌, arith}
use Rattle.std.specs.Prelude.{◌||◌, nat_le, nat_lt, max, slice_get}
use Rattle.std.specs.List.{list_any}
use Rattle.std.proofs.lemmas.Bool.Decides.{nat_tests}
use Rattle.std.proofs.lemmas.List.{take_all}
use Rattle.enc_ppdb.specs.Seen.{end_by}

end_cons : {X : Type 0} (f : X → ℕ) (x : X) (xs : List X) → end_by f (x ∷ xs) ≡ max (f x + 1) (end_by f xs)
unfolding end_by
end_cons f x xs = refl

pub end_empty : {X : Type 0} (f : X → ℕ) → end_by f [] ≡ 0
unfolding end_by
end_empty f = refl

-- of no element
pub end_none : {X : Type 0} (f : X → ℕ) (xs : List X) → end_by f (take 0 xs) ≡ 0
end_none f [] = end_empty f
end_none f (x ∷ xs) = end_empty f

-- of one element more
end_suc : {X : Type 0} (f : X → ℕ) (xs : List X) (k : ℕ) (x : X) → slice_get xs k ≡ Some x → end_by f (take (suc k) xs) ≡ max (end_by f (take k xs)) (f x + 1)
end_suc f [] k x is = absurd (cc)
end_suc f (y ∷ ys) zero x is =
    let e : y ≡ x = cc in
    rw (end_cons f y (take 0 ys), end_none f ys, e) (omega arith)
end_suc f (y ∷ ys) (suc k) x is =
    rw (end_cons f y (take (suc k) ys), end_cons f y (take k ys), end_suc f ys k x is) (omega arith)

pub end_more : {X : Type 0} (f : X → ℕ) (xs : List X) (k : ℕ) (x : X) → slice_get xs k ≡ Some x → end_by f (take (k + 1) xs) ≡ max (end_by f (take k xs)) (f x + 1)
end_more f xs k x is = let e : k + 1 ≡ suc k = omega arith in rw e (end_suc f xs k x is)

pub end_step : {X : Type 0} (f : X → ℕ) (xs : List X) (k : ℕ) (x : X) (end row after : ℕ) → slice_get xs k ≡ Some x → end ≡ end_by f (take k xs) → row ≡ f x → after ≡ max end (row + 1) → after ≡ end_by f (take (k + 1) xs)
end_step f xs k x end row after is before value grown = grown ∙ ap (λ n. max n (row + 1)) before ∙ ap (λ n. max (end_by f (take k xs)) (n + 1)) value ∙ sym (end_more f xs k x is)

-- of all elements
pub end_all : {X : Type 0} (f : X → ℕ) (xs : List X) (k : ℕ) → length xs ≤ k → end_by f (take k xs) ≡ end_by f xs
end_all f xs k le = ap (end_by f) (take_all k xs le)

both_tests : (n m e : ℕ) → (nat_le n m || nat_lt n e) ≡ nat_lt n (max (m + 1) e)
both_tests n m e = grind (arith, nat_tests)

none_before : (n : ℕ) → false ≡ nat_lt n 0
none_before n = grind (arith, nat_tests)

-- some element is no less than a number exactly where the number is before the end
pub any_before_end : {X : Type 0} (f : X → ℕ) (n : ℕ) (xs : List X) → list_any (λ x. nat_le n (f x)) xs ≡ nat_lt n (end_by f xs)
any_before_end f n [] = rw (end_empty f) (none_before n)
any_before_end f n (x ∷ xs) = rw (end_cons f x xs) (ap (λ b. nat_le n (f x) || b) (any_before_end f n xs) ∙ both_tests n (f x) (end_by f xs))

pub ruleset end_steps = (end_none, end_more, end_all)
