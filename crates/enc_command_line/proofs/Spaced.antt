-- Names that are printed behind each other.
use Rattle.std.proofs.Common.{◌≡◌, ℕ, zero, suc, ◌+◌, ◌<◌, ◌≤◌, List, [], ◌∷◌, ◌++◌, length, map, drop, get_or, refl, sym, ap, ◌∙◌, arith, append_assoc, append-nil}
use Rattle.std.specs.Borrow.{Bor}
use Rattle.enc_command_line.specs.Lines.{spaced}

abbrev names_from : List (Bor (List ℕ)) → ℕ → List (List ℕ)
names_from names i = drop i (map (λ (s : Bor (List ℕ)). s.now) names)

front : (names : List (Bor (List ℕ))) (i : ℕ) (d : Bor (List ℕ)) → i < length names → names_from names i ≡ (get_or names i d).now ∷ names_from names (i + 1)
front [] i d low = absurd (omega (arith, low))
front (x ∷ xs) zero d low = refl
front (x ∷ xs) (suc i) d low = let e : suc i + 1 ≡ suc (i + 1) = omega arith in rw e (front xs i d (omega (arith, low)))

none : (names : List (Bor (List ℕ))) (i : ℕ) → length names ≤ i → names_from names i ≡ []
none [] zero all = refl
none [] (suc i) all = refl
none (x ∷ xs) zero all = absurd (omega (arith, all))
none (x ∷ xs) (suc i) all = none xs i (omega (arith, all))

-- one name more
pub name_more : (names : List (Bor (List ℕ))) (i : ℕ) (d : Bor (List ℕ)) (out space new all : List ℕ) → i < length names → space ≡ out ++ 0x20 ∷ [] → new ≡ space ++ (get_or names i d).now
    → out ++ spaced (names_from names i) ≡ all → new ++ spaced (names_from names (i + 1)) ≡ all
unfolding spaced
name_more names i d out space new all low one two so =
    rw (two, one) (append_assoc (out ++ 0x20 ∷ []) (get_or names i d).now _ ∙ append_assoc out (0x20 ∷ []) _ ∙ ap (λ xs. out ++ spaced xs) (sym (front names i d low)) ∙ so)

-- none is left
pub none_left : (names : List (Bor (List ℕ))) (i : ℕ) (out all : List ℕ) → length names ≤ i → out ++ spaced (names_from names i) ≡ all → out ≡ all
unfolding spaced
none_left names i out all past so = sym (append-nil out) ∙ ap (λ xs. out ++ spaced xs) (sym (none names i past)) ∙ so
