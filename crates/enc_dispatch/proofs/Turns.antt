-- The walks over the index, step by step.
use Rattle.std.proofs.Common.{◌≡◌, ℕ, zero, suc, ◌-◌, ◌<◌, List, [], ◌∷◌, ◌++◌, take, reverse, Option, Some, None, slice_get, refl, sym, ap, ◌∙◌, arith}
use Rattle.std.proofs.lemmas.List.{reverse-append}
use Rattle.enc_base.specs.declared.token.Token.{Token}
use Rattle.enc_dispatch.specs.Stored.{DispatchParts}
use Rattle.enc_dispatch.specs.Walked.{turn_in, go_on_in, walk_down_in, given_by_in, first_given_in}

pub take_one_more : {A : Type 0} (xs : List A) (i : ℕ) (x : A) → slice_get xs i ≡ Some x → take (suc i) xs ≡ take i xs ++ x ∷ []
take_one_more [] i x e = absurd cc
take_one_more (y ∷ xs) zero x e = let f : y ≡ x = cc in rw f refl
take_one_more (y ∷ xs) (suc i) x e = ap (λ ys. y ∷ ys) (take_one_more xs i x e)

pub reversed : (xs : List Token) (i : ℕ) (x : Token) → slice_get xs i ≡ Some x → reverse (take (suc i) xs) ≡ x ∷ reverse (take i xs)
reversed xs i x e = ap reverse (take_one_more xs i x e) ∙ reverse-append (take i xs) (x ∷ [])

-- the walk down, at its end and a class further
pub walk_end : (d : DispatchParts) (slot declared : ℕ) (path : List Token) (left current end : ℕ) → left ≡ 0 → walk_down_in d slot declared (reverse (take left path)) current ≡ end → current ≡ end
unfolding walk_down_in
walk_end d slot declared path left current end e is = rw e at is

walk_suc : (d : DispatchParts) (slot declared : ℕ) (path : List Token) (i : ℕ) (t : Token) (current end : ℕ) (o : Option ℕ) → slice_get path i ≡ Some t → turn_in d slot declared current t ≡ o → walk_down_in d slot declared (reverse (take (suc i) path)) current ≡ end → go_on_in current (walk_down_in d slot declared (reverse (take i path))) o ≡ end
unfolding walk_down_in
walk_suc d slot declared path i t current end o at is e = rw is at (rw (reversed path i t at) at e)

pub walk_step : (d : DispatchParts) (slot declared : ℕ) (path : List Token) (left : ℕ) (t : Token) (current end : ℕ) (o : Option ℕ) → 0 < left → slice_get path (left - 1) ≡ Some t → turn_in d slot declared current t ≡ o → walk_down_in d slot declared (reverse (take left path)) current ≡ end → go_on_in current (walk_down_in d slot declared (reverse (take (left - 1) path))) o ≡ end
walk_step d slot declared path left t current end o low at is e =
    let more : left ≡ suc (left - 1) = omega arith in
    walk_suc d slot declared path (left - 1) t current end o at is (ap (λ n. walk_down_in d slot declared (reverse (take n path)) current) (sym more) ∙ e)

-- the first class that gives a method
pub given_end : (d : DispatchParts) (slot declared : ℕ) (xs : List Token) (all : Option (Token × ℕ)) → xs ≡ [] → first_given_in d slot declared xs ≡ all → None ≡ all
unfolding first_given_in
given_end d slot declared xs all e is = rw e at is

pub given_here : (d : DispatchParts) (slot declared : ℕ) (t : Token) (xs rest : List Token) (row : ℕ) (all : Option (Token × ℕ)) → xs ≡ t ∷ rest → given_by_in d slot declared t ≡ Some row → first_given_in d slot declared xs ≡ all → Some (t, row) ≡ all
unfolding first_given_in
given_here d slot declared t xs rest row all e h is = rw h at (rw e at is)

pub given_next : (d : DispatchParts) (slot declared : ℕ) (t : Token) (xs rest : List Token) (all : Option (Token × ℕ)) → xs ≡ t ∷ rest → given_by_in d slot declared t ≡ None → first_given_in d slot declared xs ≡ all → first_given_in d slot declared rest ≡ all
unfolding first_given_in
given_next d slot declared t xs rest all e h is = rw h at (rw e at is)
