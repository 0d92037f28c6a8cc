-- The methods of a list of tokens, one token after the other.
use Rattle.std.proofs.Common.{◌≡◌, ℕ, zero, suc, ◌+◌, ◌≤◌, Bool, true, false, List, [], ◌∷◌, ◌++◌, length, drop, map, filter, Some, refl, sym, ap, ◌∙◌, arith, append_assoc, append-nil}
use Rattle.std.specs.Prelude.{flat_map, slice_get, is_some, if◌then◌else◌, ◌==◌}
use Rattle.enc_base.specs.declared.token.Token.{Token}
use Rattle.enc_rows.specs.Source.{Source}
use Rattle.enc_base.specs.Tables as tables
use Rattle.enc_delta.specs.Delta.{of_table, listed}
use Rattle.enc_checker.specs.Check.{new_code, code_size, code_sizes, new_bodies}

-- what a token gives
abbrev pub size_of_one : Source → Token → List (Token × ℕ)
size_of_one s t = if t.table == tables.method_def then (t, code_size (new_code s t)) ∷ [] else []

abbrev pub body_if : Bool → Token → List Token
body_if true t = t ∷ []
body_if false t = []

abbrev pub body_of_one : Source → Token → List Token
body_of_one s t = if t.table == tables.method_def then body_if (is_some (new_code s t)) t else []

mapped : (s : Source) (tokens : List Token) → map (λ (t : Token). (t, code_size (new_code s t))) (of_table tables.method_def tokens) ≡ flat_map (size_of_one s) tokens
mapped s [] = refl
mapped s (t ∷ tokens) = by_table (t.table == tables.method_def) refl (mapped s tokens)
  where
    by_table : (b : Bool) → (t.table == tables.method_def) ≡ b → map (λ (t : Token). (t, code_size (new_code s t))) (of_table tables.method_def tokens) ≡ flat_map (size_of_one s) tokens → map (λ (t : Token). (t, code_size (new_code s t))) (of_table tables.method_def (t ∷ tokens)) ≡ flat_map (size_of_one s) (t ∷ tokens)
    by_table true e more = rw e (ap (λ l. (t, code_size (new_code s t)) ∷ l) more)
    by_table false e more = rw e more

pub all_sizes : (s : Source) → code_sizes s ≡ flat_map (size_of_one s) (listed s)
unfolding code_sizes
all_sizes s = mapped s (listed s)

filtered : (s : Source) (tokens : List Token) → filter (λ (t : Token). is_some (new_code s t)) (of_table tables.method_def tokens) ≡ flat_map (body_of_one s) tokens
filtered s [] = refl
filtered s (t ∷ tokens) = by_table (t.table == tables.method_def) (is_some (new_code s t)) refl refl (filtered s tokens)
  where
    by_table : (b k : Bool) → (t.table == tables.method_def) ≡ b → is_some (new_code s t) ≡ k → filter (λ (t : Token). is_some (new_code s t)) (of_table tables.method_def tokens) ≡ flat_map (body_of_one s) tokens → filter (λ (t : Token). is_some (new_code s t)) (of_table tables.method_def (t ∷ tokens)) ≡ flat_map (body_of_one s) (t ∷ tokens)
    by_table true true e f more = rw (e, f) (ap (λ l. t ∷ l) more)
    by_table true false e f more = rw (e, f) more
    by_table false k e f more = rw e more

pub all_bodies : (s : Source) → new_bodies s ≡ flat_map (body_of_one s) (listed s)
unfolding new_bodies
all_bodies s = filtered s (listed s)

-- the next token
next_one : {Y : Type 0} (f : Token → List Y) (xs : List Token) (i : ℕ) (x : Token) → slice_get xs i ≡ Some x → flat_map f (drop i xs) ≡ f x ++ flat_map f (drop (i + 1) xs)
next_one f [] i x is = absurd (cc)
next_one f (y ∷ ys) zero x is = let e : y ≡ x = cc in rw e refl
next_one f (y ∷ ys) (suc i) x is = let e : suc i + 1 ≡ suc (i + 1) = omega arith in rw e (next_one f ys i x is)

pub one_pushed : {Y : Type 0} (f : Token → List Y) (xs : List Token) (i : ℕ) (x : Token) (before now all : List Y) → slice_get xs i ≡ Some x → now ≡ before ++ f x → before ++ flat_map f (drop i xs) ≡ all → now ++ flat_map f (drop (i + 1) xs) ≡ all
one_pushed f xs i x before now all is more so = ap (λ l. l ++ flat_map f (drop (i + 1) xs)) more ∙ append_assoc before (f x) (flat_map f (drop (i + 1) xs)) ∙ ap (λ l. before ++ l) (sym (next_one f xs i x is)) ∙ so

pub none_left : {Y : Type 0} (f : Token → List Y) (xs : List Token) (i : ℕ) (before all : List Y) → length xs ≤ i → before ++ flat_map f (drop i xs) ≡ all → before ≡ all
none_left f xs i before all past so = sym (append-nil before) ∙ ap (λ l. before ++ l) (sym (nothing xs i past)) ∙ so
  where
    nothing : (xs : List Token) (i : ℕ) → length xs ≤ i → flat_map f (drop i xs) ≡ []
    nothing [] zero h = refl
    nothing [] (suc i) h = refl
    nothing (x ∷ xs) zero h = absurd (omega arith)
    nothing (x ∷ xs) (suc i) h = nothing xs i (omega arith)
