-- The first deltas of a chain.
use Rattle.std.proofs.Common.{◌≡◌, ℕ, zero, suc, ◌-◌, ◌≤◌, List, [], ◌∷◌, ◌++◌, length, take, drop, reverse, Option, ap, sym, ◌∙◌, arith}
use Rattle.std.proofs.lemmas.List.{reverse-append, length-reverse, length-drop, take-append-drop, drop_at}
use Rattle.enc_rows.specs.Source.{Source}
use Rattle.enc_ppdb.specs.PdbChain.{DebugDelta, earlier_pdb}

-- a front is no longer
pub take_short : (n : ℕ) (xs : List DebugDelta) → length (take n xs) ≤ length xs
take_short zero xs = omega arith
take_short (suc n) [] = omega arith
take_short (suc n) (x ∷ xs) = omega (arith, take_short n xs)

-- the first deltas, the newest of them first
pub reversed_front : (xs : List DebugDelta) (g : ℕ) → reverse (take g xs) ≡ drop (length (reverse xs) - g) (reverse xs)
reversed_front xs g =
    let parts : reverse xs ≡ reverse (drop g xs) ++ reverse (take g xs) = ap reverse (sym (take-append-drop g xs)) ∙ reverse-append (take g xs) (drop g xs) in
    let many : length (reverse xs) ≡ length xs = length-reverse xs in
    rw (many, parts) (sym (drop_at (reverse (drop g xs)) (reverse (take g xs)) (length xs - g) (length-reverse (drop g xs) ∙ length-drop g xs)))

pub earlier_is : (base : Option Source) (added : List DebugDelta) (g room : ℕ)
    → record { base = base; deltas = reverse (take g added); room = 0 } ≡ earlier_pdb g (record { base = base; deltas = reverse added; room = room })
earlier_is base added g room = ap (λ (ds : List DebugDelta). record { base = base; deltas = ds; room = 0 }) (reversed_front added g)
