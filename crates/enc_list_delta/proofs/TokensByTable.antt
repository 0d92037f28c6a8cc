-- The tokens of many tables, one table behind the other.
use Rattle.std.proofs.Common.{◌≡◌, ◌≢◌, ℕ, zero, suc, ◌+◌, ◌*◌, ◌<◌, ◌≤◌, Bool, true, false, List, [], ◌∷◌, ◌++◌, refl, sym, ap, ◌∙◌, inl, inr, arith}
use Rattle.std.specs.Prelude.{◌==◌, filter, flat_map}
use Rattle.std.specs.List.{list_all, range_with_len}
use Rattle.std.proofs.lemmas.Bool.{cases_eq, and_parts, and_from, eqb-true, ne_eqb}
use Rattle.std.proofs.lemmas.List.{append-nil}
use Rattle.std.proofs.lemmas.List.Elements.{filter-append}
use Rattle.std.proofs.lemmas.List.Folds.{list_all-append}
use Rattle.enc_base.specs.declared.token.Token.{Token}
use Rattle.enc_rows.specs.Sums.{below}
use Rattle.enc_delta.specs.Delta.{of_table}
use Rattle.enc_list_delta.proofs.TokensWritten.{Rise, rise_append}

-- tokens of one table by their table
abbrev pub OfTables : (ℕ → List Token) → Type 0
OfTables f = (k : ℕ) → list_all (λ (t : Token). t.table == k) (f k) ≡ true

kept : {X : Type 0} (p : X → Bool) (x : X) (xs : List X) → p x ≡ true → filter p xs ≡ xs → filter p (x ∷ xs) ≡ x ∷ xs
kept p x xs h e = rw (h, e) refl

-- where all pass nothing is left out
pub all_kept : {X : Type 0} (p : X → Bool) (xs : List X) → list_all p xs ≡ true → filter p xs ≡ xs
all_kept p [] all = refl
all_kept p (x ∷ xs) all = let two = and_parts (p x) (list_all p xs) all in kept p x xs two.0 (all_kept p xs two.1)

left : (table k : ℕ) (t : Token) → (t.table == k) ≡ true → k ≢ table → (t.table == table) ≡ false
left table k t h other = let is : t.table ≡ k = eqb-true t.table k h in ne_eqb t.table table (λ e. other (sym is ∙ e))

others_left : (table k : ℕ) (ts : List Token) → list_all (λ (t : Token). t.table == k) ts ≡ true → k ≢ table → of_table table ts ≡ []
others_left table k [] all other = refl
others_left table k (t ∷ ts) all other =
    let two = and_parts (t.table == k) (list_all (λ (v : Token). v.table == k) ts) all in
    rw (left table k t two.0 other) (others_left table k ts two.1 other)

of_both : (table : ℕ) (xs ys : List Token) → of_table table (xs ++ ys) ≡ of_table table xs ++ of_table table ys
of_both table xs ys = filter-append (λ (t : Token). t.table == table) xs ys

none_before : (f : ℕ → List Token) (table a n : ℕ) → OfTables f → table < a → of_table table (flat_map f (range_with_len a n)) ≡ []
none_before f table a zero each low = refl
none_before f table a (suc n) each low =
    of_both table (f a) (flat_map f (range_with_len (a + 1) n))
    ∙ ap (λ ts. ts ++ of_table table (flat_map f (range_with_len (a + 1) n))) (others_left table a (f a) (each a) (λ e. absurd (omega (arith, e, low))))
    ∙ none_before f table (a + 1) n each (omega (arith, low))

none_behind : (f : ℕ → List Token) (table a n : ℕ) → OfTables f → a + n ≤ table → of_table table (flat_map f (range_with_len a n)) ≡ []
none_behind f table a zero each high = refl
none_behind f table a (suc n) each high =
    of_both table (f a) (flat_map f (range_with_len (a + 1) n))
    ∙ ap (λ ts. ts ++ of_table table (flat_map f (range_with_len (a + 1) n))) (others_left table a (f a) (each a) (λ e. absurd (omega (arith, e, high))))
    ∙ none_behind f table (a + 1) n each (omega (arith, high))

those_of : (f : ℕ → List Token) (table a n : ℕ) → OfTables f → a ≤ table → table < a + n → of_table table (flat_map f (range_with_len a n)) ≡ f table
those_of f table a zero each low high = absurd (omega (arith, low, high))
those_of f table a (suc n) each low high = elim (cases_eq a table) [
  | inl here ↦
      of_both table (f a) (flat_map f (range_with_len (a + 1) n))
      ∙ ap (λ ts. of_table table (f a) ++ ts) (none_before f table (a + 1) n each (omega (arith, here)))
      ∙ append-nil (of_table table (f a))
      ∙ (rw here (all_kept (λ (t : Token). t.table == table) (f table) (each table)))
  | inr other ↦
      of_both table (f a) (flat_map f (range_with_len (a + 1) n))
      ∙ ap (λ ts. ts ++ of_table table (flat_map f (range_with_len (a + 1) n))) (others_left table a (f a) (each a) other)
      ∙ those_of f table (a + 1) n each (omega (arith, low, other)) (omega (arith, high))
]

-- those of one of the tables are its own
pub of_one : (f : ℕ → List Token) (table n : ℕ) → OfTables f → table < n → of_table table (flat_map f (below n)) ≡ f table
unfolding below
of_one f table n each low = those_of f table 0 n each (omega arith) (omega (arith, low))

-- and of a table behind them there are none
pub of_none : (f : ℕ → List Token) (table n : ℕ) → OfTables f → n ≤ table → of_table table (flat_map f (below n)) ≡ []
unfolding below
of_none f table n each high = none_behind f table 0 n each (omega (arith, high))

rise_range : (f : ℕ → List Token) (a n : ℕ) → ((k : ℕ) → Rise (k * 0x1000000) (f k) ((k + 1) * 0x1000000)) → Rise (a * 0x1000000) (flat_map f (range_with_len a n)) ((a + n) * 0x1000000)
rise_range f a zero each = omega arith
rise_range f a (suc n) each =
    let e : a + 1 + n ≡ a + suc n = omega arith in
    rise_append (a * 0x1000000) ((a + 1) * 0x1000000) ((a + suc n) * 0x1000000) (f a) (flat_map f (range_with_len (a + 1) n)) (each a) (rw e at (rise_range f (a + 1) n each))

-- where those of each table rise, all rise
pub all_rise : (f : ℕ → List Token) (n : ℕ) → ((k : ℕ) → Rise (k * 0x1000000) (f k) ((k + 1) * 0x1000000)) → Rise 0 (flat_map f (below n)) (n * 0x1000000)
unfolding below
all_rise f n each = let e : 0 + n ≡ n = omega arith in rw e at (rise_range f 0 n each)

range_all : (q : Token → Bool) (f : ℕ → List Token) (a n : ℕ) → ((k : ℕ) → list_all q (f k) ≡ true) → list_all q (flat_map f (range_with_len a n)) ≡ true
range_all q f a zero each = refl
range_all q f a (suc n) each = list_all-append q (f a) (flat_map f (range_with_len (a + 1) n)) ∙ and_from (list_all q (f a)) (list_all q (flat_map f (range_with_len (a + 1) n))) (each a) (range_all q f (a + 1) n each)

-- a test that those of each table pass
pub all_pass : (q : Token → Bool) (f : ℕ → List Token) (n : ℕ) → ((k : ℕ) → list_all q (f k) ≡ true) → list_all q (flat_map f (below n)) ≡ true
unfolding below
all_pass q f n each = range_all q f 0 n each
