-- A delta's tokens and the rows that go with them.
use Rattle.std.proofs.Common.{◌≡◌, ℕ, zero, suc, ◌-◌, ◌<◌, ◌≤◌, Bool, true, false, List, [], ◌∷◌, length, get_or, map, Option, Some, None, refl, ap, ◌∙◌, inl, inr, arith}
use Rattle.std.specs.Prelude.{is_some, ◌&&◌, ◌||◌, ◌==◌, option_map, slice_get, filter, position, if◌then◌else◌, nat_lt}
use Rattle.std.specs.List.{list_all, list_any}
use Rattle.std.proofs.lemmas.Bool.{and_from, and_parts, or_cases, ltb-true, lt-ltb, eqb-true, not-false}
use Rattle.std.proofs.lemmas.Option.{slice_get-get_or, slice_get_within}
use Rattle.std.proofs.lemmas.List.Quantifiers.{position-Some}
use Rattle.enc_plain.proofs.Owned.{position_cons}
use Rattle.enc_base.specs.Token.{is_token}
use Rattle.enc_base.specs.declared.token.Token.{Token}
use Rattle.enc_base.specs.declared.refusal.Place.{Place}
use Rattle.enc_base.proofs.First.{silent}
use Rattle.enc_rows.specs.Layout.{rows_of}
use Rattle.enc_rows.specs.Source.{Source}
use Rattle.enc_plain.specs.Cell.{Cell}
use Rattle.enc_plain.specs.Chain.{Chain}
use Rattle.enc_plain.specs.Fits.{cells_for}
use Rattle.enc_plain.proofs.Applied.{same_is}
use Rattle.enc_delta.specs.Delta.{listed, of_table, place_in}
use Rattle.enc_delta.specs.Rules.{broken, uneven_at, rows_for, uneven_table, may_change, closed_at, closed_table}
use Rattle.enc_agg.specs.Extend.{changes_of}
use Rattle.enc_delta.specs.Rows.{cells_after, own_row}
use Rattle.enc_agg.specs.Follows.{Lands}
use Rattle.enc_delta.proofs.Unbroken.{landed}

some_suc : (o : Option ℕ) → is_some (option_map suc o) ≡ is_some o
some_suc None = refl
some_suc (Some n) = refl

some_from : (b rest : Bool) (o : Option ℕ) → is_some o ≡ rest → is_some (if b then Some 0 else option_map suc o) ≡ (b || rest)
some_from true rest o h = refl
some_from false rest o h = some_suc o ∙ h

position_any : {X : Type 0} (p : X → Bool) (xs : List X) → is_some (position p xs) ≡ list_any p xs
position_any p [] = refl
position_any p (x ∷ xs) = rw (position_cons p x xs) (some_from (p x) (list_any p xs) (position p xs) (position_any p xs))

any_kept : {X : Type 0} (p q : X → Bool) (b : Bool) (x : X) (xs : List X) → p x ≡ b → list_any q (filter p xs) ≡ list_any (λ y. p y && q y) xs → list_any q (filter p (x ∷ xs)) ≡ (b && q x || list_any (λ y. p y && q y) xs)
any_kept p q true x xs e h = rw e (ap (λ b. q x || b) h)
any_kept p q false x xs e h = rw e h

any_filter : {X : Type 0} (p q : X → Bool) (xs : List X) → list_any q (filter p xs) ≡ list_any (λ x. p x && q x) xs
any_filter p q [] = refl
any_filter p q (x ∷ xs) = any_kept p q (p x) x xs refl (any_filter p q xs)

-- a token has a place just where it is listed
place_any : (ts : List Token) (u : Token) → is_some (place_in ts u) ≡ list_any (λ (t : Token). is_token t u) ts
unfolding place_in
place_any ts u =
    some_suc _ ∙ position_any (λ (t : Token). t.row == u.row) (of_table u.table ts) ∙ any_filter (λ (t : Token). t.table == u.table) (λ (t : Token). t.row == u.row) ts

cells_step : (f : Token → List Cell) (t u : Token) (rest b : Bool) (o : Option (List Cell)) → is_token t u ≡ b → o ≡ (if rest then Some (f u) else None) → (if b then Some (f t) else o) ≡ (if b || rest then Some (f u) else None)
cells_step f t u rest true o e h = rw (same_is t u e) refl
cells_step f t u rest false o e h = h

-- the changes give a token the cells made for it, where it is one of theirs
cells_if : (f : Token → List Cell) (ts : List Token) (u : Token) → cells_for (map (λ (t : Token). record { token = t; cells = f t }) ts) u ≡ (if list_any (λ (t : Token). is_token t u) ts then Some (f u) else None)
unfolding cells_for
cells_if f [] u = refl
cells_if f (t ∷ ts) u = cells_step f t u (list_any (λ (t : Token). is_token t u) ts) (is_token t u) _ refl (cells_if f ts u)

cells_by : (c : Chain) (s : Source) (u : Token) → cells_for (changes_of c s) u ≡ (if is_some (place_in (listed s) u) then Some (cells_after c s (own_row s u)) else None)
unfolding changes_of
cells_by c s u = rw (place_any (listed s) u) (cells_if (λ (t : Token). cells_after c s (own_row s t)) (listed s) u)

-- a delta's cells for a token that it lists
pub cells_for_there : (c : Chain) (s : Source) (u : Token) (k : ℕ) → place_in (listed s) u ≡ Some k → cells_for (changes_of c s) u ≡ Some (cells_after c s (record { table = u.table; row = k }))
cells_for_there c s u k h = cells_by c s u ∙ rw h refl

-- and none for any other
pub cells_for_none : (c : Chain) (s : Source) (u : Token) → place_in (listed s) u ≡ None → cells_for (changes_of c s) u ≡ None
cells_for_none c s u h = cells_by c s u ∙ rw h refl

-- where a token's row stands in the delta
pub record PlaceRow (s : Source) (u : Token) (k : ℕ) : Type 0 where
  pub table : u.table < 0x2D
  pub low : 0 < k
  pub high : k ≤ rows_of s.layout u.table
  pub token : slice_get (of_table u.table (listed s)) (k - 1) ≡ Some u

all_step : {X : Type 0} (p r : X → Bool) (b : Bool) (x : X) (xs : List X) → p x ≡ b → (r x && list_all r xs) ≡ true → list_all r (filter p xs) ≡ true → list_all r (filter p (x ∷ xs)) ≡ true
all_step p r true x xs e h rest = rw e (and_from _ _ (and_parts _ _ h).0 rest)
all_step p r false x xs e h rest = rw e rest

-- what holds of all holds of those that are kept
pub all_filter : {X : Type 0} (p r : X → Bool) (xs : List X) → list_all r xs ≡ true → list_all r (filter p xs) ≡ true
all_filter p r [] h = refl
all_filter p r (x ∷ xs) h = all_step p r (p x) x xs refl h (all_filter p r xs (and_parts _ _ h).1)

kept_step : {X : Type 0} (p : X → Bool) (b : Bool) (x : X) (xs : List X) → p x ≡ b → list_all p (filter p xs) ≡ true → list_all p (filter p (x ∷ xs)) ≡ true
kept_step p true x xs e h = rw (e, e) h
kept_step p false x xs e h = rw e h

all_kept : {X : Type 0} (p : X → Bool) (xs : List X) → list_all p (filter p xs) ≡ true
all_kept p [] = refl
all_kept p (x ∷ xs) = kept_step p (p x) x xs refl (all_kept p xs)

one_of : {X : Type 0} (r : X → Bool) (xs : List X) (i : ℕ) (x : X) → list_all r xs ≡ true → slice_get xs i ≡ Some x → r x ≡ true
one_of r [] i x h e = absurd cc
one_of r (y ∷ ys) zero x h e = let is : y ≡ x = cc in let here : r y ≡ true = (and_parts (r y) (list_all r ys) h).0 in rw is at here
one_of r (y ∷ ys) (suc i) x h e = one_of r ys i x (and_parts _ _ h).1 e

before : (o : Option ℕ) (k : ℕ) → option_map suc o ≡ Some k → (0 < k) × (o ≡ Some (k - 1))
before None k h = absurd cc
before (Some n) k h =
    let is : suc n ≡ k = cc in
    let e : n ≡ k - 1 = omega arith in
    (omega arith, ap (λ m. Some m) e)

-- the token at a place among its table's
pub place_token : (ts : List Token) (u : Token) (k : ℕ) → place_in ts u ≡ Some k → (0 < k) × (slice_get (of_table u.table ts) (k - 1) ≡ Some u)
unfolding place_in
place_token ts u k h =
    let b = before _ k h in
    let at = position-Some (λ (t : Token). t.row == u.row) (of_table u.table ts) (k - 1) u b.1 in
    let t = get_or (of_table u.table ts) (k - 1) u in
    let get : slice_get (of_table u.table ts) (k - 1) ≡ Some t = slice_get-get_or (of_table u.table ts) (k - 1) u at.0 in
    let table : (t.table == u.table) ≡ true = one_of (λ (v : Token). v.table == u.table) (of_table u.table ts) (k - 1) t (all_kept (λ (v : Token). v.table == u.table) ts) get in
    let same : t ≡ u = same_is t u (and_from _ _ table at.1) in
    (b.0, get ∙ ap (λ (v : Token). Some v) same)

unbroken_at : (b : Bool) (p : Place) → broken b p ≡ None → b ≡ false
unbroken_at true p h = absurd cc
unbroken_at false p h = refl

-- one of some numbers below n is below n
any_below : (ns : List ℕ) (n k : ℕ) → list_all (λ m. nat_lt m n) ns ≡ true → list_any (λ m. m == k) ns ≡ true → k < n
any_below [] n k h e = absurd cc
any_below (m ∷ ms) n k h e =
    let parts = and_parts (nat_lt m n) (list_all (λ m. nat_lt m n) ms) h in
    elim (or_cases (m == k) (list_any (λ m. m == k) ms) e) [
      | inl here ↦ let is : m ≡ k = eqb-true m k here in let low : m < n = ltb-true m n parts.0 in omega arith
      | inr behind ↦ any_below ms n k parts.1 behind
    ]

changing : (table : ℕ) → may_change table ≡ true → table < 0x2D
changing table h = search any_below

of_some : (k n m : ℕ) (b : Bool) → (if b then 0 else n) ≡ m → 0 < k → k - 1 < m → k ≤ n
of_some k n m true e low h = absurd (omega arith)
of_some k n m false e low h = omega arith

-- a listed token's row stands in a table that the delta may change
pub place_row : (c : Chain) (s : Source) (u : Token) (k : ℕ) → Lands c s → place_in (listed s) u ≡ Some k → PlaceRow s u k
unfolding uneven_table uneven_at closed_table closed_at
place_row c s u k follows h =
    let place = place_token (listed s) u k h in
    let rules = landed c s follows.early in
    let listed_all : list_all (λ (t : Token). nat_lt t.table 0x100) (of_table u.table (listed s)) ≡ true = all_filter (λ (t : Token). t.table == u.table) _ (listed s) follows.tables in
    let low : u.table < 0x100 = ltb-true u.table 0x100 (one_of _ _ (k - 1) u listed_all place.1) in
    let same : rows_for s u.table ≡ length (of_table u.table (listed s)) = eqb-true _ _ (not-false _ (unbroken_at _ _ (silent (uneven_at s) 0x100 u.table rules.tables low))) in
    let change = unbroken_at _ _ (silent (closed_at s) 0x100 u.table rules.cell_tables low) in
    let high : k ≤ rows_of s.layout u.table = of_some k (rows_of s.layout u.table) _ _ same place.0 (slice_get_within (of_table u.table (listed s)) (k - 1) u place.1) in
    let some : nat_lt 0 (rows_of s.layout u.table) ≡ true = lt-ltb 0 (rows_of s.layout u.table) (omega (arith, place.0)) in
    record { table = changing u.table (not-false _ (rw some at change)); low = place.0; high = high; token = place.1 }
