-- Lists by their first and those behind it.
use Rattle.std.proofs.Common.{◌≡◌, ◌-◌, ◌≤◌, List, [], ◌∷◌, length, take, drop, get_or, sym, ap, ◌∙◌, arith}
use Rattle.std.proofs.lemmas.List.{take_all}

-- the first of some and those behind it
pub front_of : {X : Type 0} (xs : List X) (d : X) → 1 ≤ length xs → xs ≡ get_or xs 0 d ∷ take (length xs - 1) (drop 1 xs)
front_of [] d low = absurd (omega arith)
front_of (x ∷ xs) d low = ap (λ ys. x ∷ ys) (sym (take_all (length (x ∷ xs) - 1) xs (omega arith)))

-- the same, with the first as a loop has it
pub front_is : {X : Type 0} (xs : List X) (x : X) → 1 ≤ length xs → x ≡ get_or xs 0 x → xs ≡ x ∷ take (length xs - 1) (drop 1 xs)
front_is {X} xs x low there = front_of xs x low ∙ ap (λ (y : X). y ∷ take (length xs - 1) (drop 1 xs)) (sym there)
