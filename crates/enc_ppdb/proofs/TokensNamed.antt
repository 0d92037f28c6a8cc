-- Lists of what is kept of f 0, f 1, ..
use Rattle.std.proofs.Common.{◌≡◌, ℕ, ◌+◌, map, [], ◌∷◌, ◌++◌, Bool, true, false, cond, refl, ◌∙◌, arith}
use Rattle.std.specs.Prelude.{filter}
use Rattle.std.proofs.lemmas.List.FromFn.{map-range_with_len_more, filter_of_map_range_with_len_more}
use Rattle.std.proofs.lemmas.List.{append-nil}
use Rattle.enc_rows.specs.Sums.{below}

pub map_none : {X : Type 0} (f : ℕ → X) → map f (below 0) ≡ []
unfolding below
map_none f = refl

-- one number more
pub map_more : {X : Type 0} (f : ℕ → X) (n : ℕ) → map f (below (n + 1)) ≡ map f (below n) ++ f n ∷ []
unfolding below
map_more f n = map-range_with_len_more f 0 n n (omega arith)

pub tokens_none : {X : Type 0} (p : X → Bool) (f : ℕ → X) → filter p (map f (below 0)) ≡ []
unfolding below
tokens_none p f = refl

with_kept : {X : Type 0} (p : X → Bool) (f : ℕ → X) (n : ℕ) → filter p (map f (below (n + 1))) ≡ filter p (map f (below n)) ++ cond (p (f n)) (f n ∷ []) []
unfolding below
with_kept p f n = filter_of_map_range_with_len_more p f 0 n n (omega arith)

-- one number more, whose element is kept or not
pub tokens_kept : {X : Type 0} (p : X → Bool) (f : ℕ → X) (n : ℕ) → p (f n) ≡ true → filter p (map f (below (n + 1))) ≡ filter p (map f (below n)) ++ f n ∷ []
tokens_kept {X} p f n h = let e = with_kept {X = X} p f n in rw h at e

pub tokens_left : {X : Type 0} (p : X → Bool) (f : ℕ → X) (n : ℕ) → p (f n) ≡ false → filter p (map f (below (n + 1))) ≡ filter p (map f (below n))
tokens_left {X} p f n h = let e = with_kept {X = X} p f n in (rw h at e) ∙ append-nil _

pub ruleset tokens_steps = (tokens_none, tokens_kept, tokens_left)
