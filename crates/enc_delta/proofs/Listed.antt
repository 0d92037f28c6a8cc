-- Lists made from the numbers below one.
use Rattle.std.proofs.Common.{◌≡◌, ℕ, ◌+◌, ◌<◌, length, map, List, [], ◌∷◌, ◌++◌, Bool, true, false, cond, Some, refl, ap, sym, ◌∙◌, arith}
use Rattle.std.specs.Prelude.{slice_get, filter}
use Rattle.std.specs.List.{list_all}
use Rattle.std.proofs.lemmas.List.FromFn.{map-range_with_len_more, filter_of_map_range_with_len_more}
use Rattle.std.proofs.lemmas.List.{append-nil}
use Rattle.std.proofs.lemmas.Bool.{and_parts}
use Rattle.enc_rows.specs.Sums.{below}
use Rattle.enc_rows.specs.Source.{Source}
use Rattle.enc_rows.specs.Layout.{rows_of}
use Rattle.enc_rows.proofs.Listed.{get_below}
use Rattle.enc_delta.specs.Delta.{entry_at, map_token, log_in, map_in}

pub map_none : {X : Type 0} (f : ℕ → X) → map f (below 0) ≡ []
unfolding below
map_none f = refl

-- one number more
pub map_more : {X : Type 0} (f : ℕ → X) (n : ℕ) → map f (below (n + 1)) ≡ map f (below n) ++ f n ∷ []
unfolding below
map_more f n = map-range_with_len_more f 0 n n (omega arith)

pub tokens_none : {X : Type 0} (p : X → Bool) (f : ℕ → X) → filter p (map f (below 0)) ≡ []
unfolding below
tokens_none p f = refl

with_kept : {X : Type 0} (p : X → Bool) (f : ℕ → X) (n : ℕ) → filter p (map f (below (n + 1))) ≡ filter p (map f (below n)) ++ cond (p (f n)) (f n ∷ []) []
unfolding below
with_kept p f n = filter_of_map_range_with_len_more p f 0 n n (omega arith)

-- one number more, whose element is kept or not
pub tokens_kept : {X : Type 0} (p : X → Bool) (f : ℕ → X) (n : ℕ) → p (f n) ≡ true → filter p (map f (below (n + 1))) ≡ filter p (map f (below n)) ++ f n ∷ []
tokens_kept {X} p f n h = let e = with_kept {X = X} p f n in rw h at e

pub tokens_left : {X : Type 0} (p : X → Bool) (f : ℕ → X) (n : ℕ) → p (f n) ≡ false → filter p (map f (below (n + 1))) ≡ filter p (map f (below n))
tokens_left {X} p f n h = let e = with_kept {X = X} p f n in (rw h at e) ∙ append-nil _

pub log_get : (s : Source) (i : ℕ) → i < rows_of s.layout 0x1E → slice_get (log_in s) i ≡ Some (entry_at s i)
unfolding log_in
log_get s i h = get_below (entry_at s) _ i h

pub map_get : (s : Source) (i : ℕ) → i < rows_of s.layout 0x1F → slice_get (map_in s) i ≡ Some (map_token s i)
unfolding map_in
map_get s i h = get_below (map_token s) _ i h

-- a test of all elements, with one more
pub all_more : {X : Type 0} (p : X → Bool) (xs : List X) (x : X) → list_all p xs ≡ true → p x ≡ true → list_all p (xs ++ x ∷ []) ≡ true
all_more p [] x all h = rw h refl
all_more p (y ∷ ys) x all h = let e = and_parts (p y) (list_all p ys) all in rw e.0 (all_more p ys x e.1 h)

pub more_kept : {X : Type 0} (p q : X → Bool) (f : ℕ → X) (n : ℕ) (items after : List X) (x : X) → items ≡ filter p (map f (below n)) → list_all q items ≡ true → x ≡ f n → p x ≡ true → q x ≡ true → after ≡ items ++ x ∷ [] → (after ≡ filter p (map f (below (n + 1)))) × (list_all q after ≡ true)
more_kept p q f n items after x is all e kept good more =
    (more ∙ ap (λ l. l ++ x ∷ []) is ∙ ap (λ y. filter p (map f (below n)) ++ y ∷ []) e ∙ sym (tokens_kept p f n (rw e at kept)), rw more (all_more q items x all good))

pub more_left : {X : Type 0} (p q : X → Bool) (f : ℕ → X) (n : ℕ) (items after : List X) (x : X) → items ≡ filter p (map f (below n)) → list_all q items ≡ true → x ≡ f n → p x ≡ false → after ≡ items → (after ≡ filter p (map f (below (n + 1)))) × (list_all q after ≡ true)
more_left p q f n items after x is all e left same =
    (same ∙ is ∙ sym (tokens_left p f n (rw e at left)), rw same all)

snoc_length : {X : Type 0} (xs : List X) (x : X) → length (xs ++ x ∷ []) ≡ length xs + 1
snoc_length [] x = refl
snoc_length (y ∷ ys) x = omega (arith, snoc_length ys x)

pub more_items : {X : Type 0} (f : ℕ → X) (n : ℕ) (items after : List X) (x : X) → items ≡ map f (below n) → x ≡ f n → after ≡ items ++ x ∷ [] → after ≡ map f (below (n + 1))
more_items f n items after x is e more = more ∙ ap (λ l. l ++ x ∷ []) is ∙ ap (λ y. map f (below n) ++ y ∷ []) e ∙ sym (map_more f n)

pub more_rows : {X : Type 0} (q : X → Bool) (items after : List X) (x : X) → list_all q items ≡ true → q x ≡ true → after ≡ items ++ x ∷ [] → list_all q after ≡ true
more_rows q items after x all good more = rw more (all_more q items x all good)

pub more_few : {X : Type 0} (n : ℕ) (items after : List X) (x : X) → length items ≡ n → after ≡ items ++ x ∷ [] → length after ≡ n + 1
more_few n items after x few more = rw more (snoc_length items x ∙ ap (λ k. k + 1) few)

pub ruleset map_steps = (map_none, map_more)

pub ruleset tokens_steps = (tokens_none, tokens_kept, tokens_left)
