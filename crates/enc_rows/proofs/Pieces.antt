-- Pieces of bytes one behind the other, by number.
use Rattle.std.proofs.Common.{◌≡◌, ℕ, ◌+◌, List, [], ◌∷◌, ◌++◌, sym, ap, ◌∙◌, arith, append_assoc}
use Rattle.std.specs.Prelude.{flat_map}
use Rattle.std.specs.List.{range_with_len}
use Rattle.std.proofs.lemmas.List.{append-nil}
use Rattle.std.proofs.lemmas.List.Concat.{flat_map-cons}
use Rattle.std.proofs.lemmas.Grind.{flat_map-append}
use Rattle.enc_rows.specs.Sums.{below}
use Rattle.enc_rows.proofs.Runs.{range_more}

-- what is written behind a part that was written
pub behind : (out a b x y : List ℕ) → x ≡ out ++ a → y ≡ x ++ b → y ≡ out ++ (a ++ b)
behind out a b x y before after = after ∙ ap (λ xs. xs ++ b) before ∙ append_assoc out a b

-- no pieces are no bytes
pub pieces_none : (f : ℕ → List ℕ) (out : List ℕ) → out ++ flat_map f (below 0) ≡ out
unfolding below
pieces_none f out = append-nil out

-- one piece more
pub pieces_more : (f : ℕ → List ℕ) (n : ℕ) → flat_map f (below (n + 1)) ≡ flat_map f (below n) ++ f n
unfolding below
pieces_more f n =
    let z : 0 + n ≡ n = omega arith in
    let one : flat_map f ((0 + n) ∷ []) ≡ f n = flat_map-cons f (0 + n) [] ∙ append-nil (f (0 + n)) ∙ ap f z in
    rw (range_more 0 n) (flat_map-append f (range_with_len 0 n) ((0 + n) ∷ []) ∙ ap (λ xs. flat_map f (range_with_len 0 n) ++ xs) one)

-- the same behind what was written before
pub pieces_behind : (f : ℕ → List ℕ) (n : ℕ) (out so_far new : List ℕ) → so_far ≡ out ++ flat_map f (below n) → new ≡ so_far ++ f n → new ≡ out ++ flat_map f (below (n + 1))
pieces_behind f n out so_far new before after =
    behind out (flat_map f (below n)) (f n) so_far new before after ∙ ap (λ xs. out ++ xs) (sym (pieces_more f n))

pub ruleset pieces_steps = (pieces_none, pieces_behind)
