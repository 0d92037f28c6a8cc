-- The generations of newest bodies.
use Rattle.std.proofs.Common.{◌≡◌, ℕ, zero, suc, ◌+◌, ◌-◌, ◌<◌, Bool, true, false, ◌&&◌, List, [], ◌∷◌, ◌++◌, length, max, drop, get_or, replicate, Some, slice_get, slice_set, inl, inr, refl, sym, ap, ◌∙◌, subst, arith, add-one, length-append}
use Rattle.std.proofs.lemmas.Bool.Decides.{eqb_tells}
use Rattle.std.proofs.lemmas.Grind.{get_or-set_at}
use Rattle.std.proofs.lemmas.List.{length-replicate, length-set, get_or-set_other}
use Rattle.std.specs.Prelude.{filter, if◌then◌else◌, ◌==◌, ◌||◌}
use Rattle.std.specs.List.{list_any, list_all}
use Rattle.enc_base.specs.Token.{is_token}
use Rattle.enc_base.specs.declared.token.Token.{Token}
use Rattle.enc_checker.specs.Check.{new_bodies, own_methods}
use Rattle.enc_delta.specs.Delta.{listed}
use Rattle.enc_rows.specs.Source.{Source}
use Rattle.enc_base.specs.Tables.{method_def}
use Rattle.enc_session.specs.Recording.{body_generation}
use Rattle.enc_session.specs.RecordingSeen.{generation_at, greatest_row, with_rows_to, brought_in, AreGenerationsOf}

-- what is behind a place
behind_place : {X : Type 0} (xs : List X) (i : ℕ) (x : X) → slice_get xs i ≡ Some x → drop i xs ≡ x ∷ drop (suc i) xs
behind_place [] i x is = absurd cc
behind_place {X = X} (y ∷ xs) zero x is = ap (λ (z : X). z ∷ xs) cc
behind_place (y ∷ xs) (suc i) x is = behind_place xs i x is

pub drop_there : {X : Type 0} (xs : List X) (i : ℕ) (x : X) → slice_get xs i ≡ Some x → drop i xs ≡ x ∷ drop (i + 1) xs
drop_there xs i x is = rw (add-one i) (behind_place xs i x is)

-- the greatest row so far, and those behind it
pub greatest_step : (methods : List Token) (i : ℕ) (m : Token) (greatest now all : ℕ) → slice_get methods i ≡ Some m
    → max greatest (greatest_row (drop i methods)) ≡ all → now ≡ max greatest m.row → max now (greatest_row (drop (i + 1) methods)) ≡ all
unfolding greatest_row
greatest_step methods i m greatest now all is h next =
    three greatest m.row (greatest_row (drop (i + 1) methods)) all now
    (subst (λ (ts : List Token). max greatest (greatest_row ts) ≡ all) (drop_there methods i m is) h) next
  where
    three : (a b c all now : ℕ) → max a (max b c) ≡ all → now ≡ max a b → max now c ≡ all
    three a b c all now h next = grind (arith, h, next)

-- and bodies that came
pub brought_step : (methods : List Token) (i : ℕ) (m : Token) (generation : ℕ) (now new all : List ℕ) → slice_get methods i ≡ Some m
    → brought_in generation (drop i methods) now ≡ all → new ≡ slice_set now m.row generation → brought_in generation (drop (i + 1) methods) new ≡ all
unfolding brought_in
brought_step methods i m generation now new all is h next =
    rw next (subst (λ (ts : List Token). brought_in generation ts now ≡ all) (drop_there methods i m is) h)

-- rows that nobody has a body in change nothing
nothing_behind : (xs : List ℕ) (n i : ℕ) → get_or (xs ++ replicate n 0) i 0 ≡ get_or xs i 0
nothing_behind [] zero i = refl
nothing_behind [] (suc n) zero = refl
nothing_behind [] (suc n) (suc i) = nothing_behind [] n i
nothing_behind (x ∷ xs) n zero = refl
nothing_behind (x ∷ xs) n (suc i) = nothing_behind xs n i

if_table : (b : Bool) (x y : ℕ) → x ≡ y → (if b then x else 0) ≡ (if b then y else 0)
if_table b x y same = ap (λ (n : ℕ). if b then n else 0) same

pub same_generations : (row : ℕ) (rows : List ℕ) (t : Token) → generation_at (with_rows_to row rows) t ≡ generation_at rows t
unfolding with_rows_to
same_generations row rows t = if_table (t.table == method_def) _ _ (nothing_behind rows (row + 1 - length rows) t.row)

-- and there is room for the greatest
pub rows_to_length : (row : ℕ) (rows : List ℕ) → row < length (with_rows_to row rows)
unfolding with_rows_to
rows_to_length row rows =
    let e : length (rows ++ replicate (row + 1 - length rows) 0) ≡ length rows + (row + 1 - length rows) =
    length-append rows (replicate (row + 1 - length rows) 0) ∙ ap (λ (n : ℕ). length rows + n) (length-replicate (row + 1 - length rows) 0) in omega (arith, e)

-- a row gets a generation
put_by : (rows : List ℕ) (i j g : ℕ) → i < length rows → get_or (slice_set rows i g) j 0 ≡ (if j == i then g else get_or rows j 0)
put_by rows i j g within = elim (eqb_tells j i) [
  | inl e ↦ rw e.0 (get_or-set_at rows i j g 0 e.1 within)
  | inr e ↦ rw e.0 (get_or-set_other rows i j g 0 e.1)
]

either_way : (a b : Bool) (g n : ℕ) → (if a then g else if b then g else n) ≡ (if b || a then g else n)
either_way true true g n = refl
either_way true false g n = refl
either_way false true g n = refl
either_way false false g n = refl

-- methods get one
rows_brought : (g j : ℕ) (methods : List Token) (rows : List ℕ) → greatest_row methods < length rows
    → get_or (brought_in g methods rows) j 0 ≡ (if list_any (λ (t : Token). j == t.row) methods then g else get_or rows j 0)
unfolding brought_in greatest_row
rows_brought g j [] rows room = refl
rows_brought g j (t ∷ methods) rows room =
    let here : t.row < length rows = omega (arith, room) in
    let count : length (slice_set rows t.row g) ≡ length rows = length-set rows t.row g in
    let rest : greatest_row methods < length (slice_set rows t.row g) = omega (arith, room, count) in
    rows_brought g j methods (slice_set rows t.row g) rest
    ∙ ap (λ (n : ℕ). if list_any (λ (u : Token). j == u.row) methods then g else n) (put_by rows t.row j g here)
    ∙ either_way (list_any (λ (u : Token). j == u.row) methods) (j == t.row) g (get_or rows j 0)

-- tokens of one table by their rows
abbrev is_of : ℕ → Token → Bool
is_of table t = t.table == table

by_rows : (t : Token) (methods : List Token) → list_all (is_of t.table) methods ≡ true
    → list_any (is_token t) methods ≡ list_any (λ (u : Token). t.row == u.row) methods
by_rows t [] all = refl
by_rows t (m ∷ methods) all = elim (eqb_tells m.table t.table) [
  | inl e ↦
      let same : (t.table == m.table) ≡ true = same_table t.table m.table (sym e.1) in
      let rest : list_all (is_of t.table) methods ≡ true = sym (ap (λ (b : Bool). b && list_all (is_of t.table) methods) e.0) ∙ all in
      rw (same, by_rows t methods rest) refl
  | inr e ↦ absurd (not_all (is_of t.table m) (list_all (is_of t.table) methods) e.0 all)
]
  where
    same_table : (a b : ℕ) → a ≡ b → (a == b) ≡ true
    same_table a b e = elim (eqb_tells a b) [ inl f ↦ f.0 | inr f ↦ absurd (f.1 e) ]

    not_all : (a b : Bool) → a ≡ false → (a && b) ≡ true → ⊥
    not_all true b e h = cc
    not_all false b e h = cc

none_of : (t : Token) (table : ℕ) (methods : List Token) → (t.table == table) ≡ false → list_all (is_of table) methods ≡ true → list_any (is_token t) methods ≡ false
none_of t table [] other all = refl
none_of t table (m ∷ methods) other all = elim (eqb_tells m.table table) [
  | inl e ↦
      let rest : list_all (is_of table) methods ≡ true = sym (ap (λ (b : Bool). b && list_all (is_of table) methods) e.0) ∙ all in
      rw (e.1, other, none_of t table methods other rest) refl
  | inr e ↦ absurd (not_all (is_of table m) (list_all (is_of table) methods) e.0 all)
]
  where
    not_all : (a b : Bool) → a ≡ false → (a && b) ≡ true → ⊥
    not_all true b e h = cc
    not_all false b e h = cc

-- the new bodies of a delta are of methods
filtered : (p q : Token → Bool) (ts : List Token) → list_all p ts ≡ true → list_all p (filter q ts) ≡ true
filtered p q [] all = refl
filtered p q (t ∷ ts) all = by (q t) (p t) refl (filtered p q ts) all
  where
    by : (b a : Bool) → p t ≡ a → (list_all p ts ≡ true → list_all p (filter q ts) ≡ true) → (a && list_all p ts) ≡ true
        → list_all p (if b then t ∷ filter q ts else filter q ts) ≡ true
    by true true e rest h = rw (e, rest h) refl
    by false true e rest h = rest h
    by true false e rest h = absurd cc
    by false false e rest h = absurd cc

own_filtered : (p : Token → Bool) (ts : List Token) → list_all p (filter p ts) ≡ true
own_filtered p [] = refl
own_filtered p (t ∷ ts) = by (p t) refl (own_filtered p ts)
  where
    by : (b : Bool) → p t ≡ b → list_all p (filter p ts) ≡ true → list_all p (if b then t ∷ filter p ts else filter p ts) ≡ true
    by true e rest = rw (e, rest) refl
    by false e rest = rest

new_are_methods : (d : Source) → list_all (is_of method_def) (new_bodies d) ≡ true
unfolding new_bodies
new_are_methods d = filtered (is_of method_def) _ (own_methods d) (own_filtered (is_of method_def) (listed d))

-- so the generations of newest bodies stand for one delta more
if_both : (a b : Bool) (g n m : ℕ) → n ≡ m → (if a then (if b then g else n) else 0) ≡ (if a then (if b then g else m) else 0)
if_both a b g n m e = ap (λ (k : ℕ). if a then (if b then g else k) else 0) e

by_table : (d : Source) (deltas : List Source) (rows : List ℕ) (t : Token) (b : Bool) → (t.table == method_def) ≡ b → greatest_row (new_bodies d) < length rows
    → (if b then get_or rows t.row 0 else 0) ≡ body_generation deltas t
    → (if b then get_or (brought_in (length deltas + 1) (new_bodies d) rows) t.row 0 else 0) ≡ body_generation (d ∷ deltas) t
unfolding body_generation
by_table d deltas rows t true is room before =
    let table : t.table ≡ method_def = same t.table method_def is in
    let all : list_all (is_of t.table) (new_bodies d) ≡ true = rw table (new_are_methods d) in
    rows_brought (length deltas + 1) t.row (new_bodies d) rows room
    ∙ ap (λ (n : ℕ). if list_any (λ (u : Token). t.row == u.row) (new_bodies d) then length deltas + 1 else n) before
    ∙ ap (λ (b : Bool). if b then length deltas + 1 else body_generation deltas t) (sym (by_rows t (new_bodies d) all))
  where
    same : (a b : ℕ) → (a == b) ≡ true → a ≡ b
    same a b e = elim (eqb_tells a b) [ inl f ↦ f.1 | inr f ↦ absurd cc ]
by_table d deltas rows t false is room before =
    before ∙ ap (λ (b : Bool). if b then length deltas + 1 else body_generation deltas t) (sym (none_of t method_def (new_bodies d) is (new_are_methods d)))

pub generations_follow : (d : Source) (deltas : List Source) (methods : List Token) (new mid old : List ℕ) (g : ℕ) → methods ≡ new_bodies d → g ≡ length deltas + 1
    → mid ≡ with_rows_to (greatest_row methods) old → new ≡ brought_in g methods mid → AreGenerationsOf deltas old → AreGenerationsOf (d ∷ deltas) new
generations_follow d deltas methods new mid old g bodies next room brought are t =
    let wide : greatest_row (new_bodies d) < length mid = rw (room, bodies) (rows_to_length (greatest_row (new_bodies d)) old) in
    let kept : generation_at mid t ≡ body_generation deltas t = rw room (same_generations (greatest_row methods) old t) ∙ are t in
    rw (brought, next, bodies) (by_table d deltas mid t (t.table == method_def) refl wide kept)

-- and room changes nothing
pub generations_stay : (deltas : List Source) (row : ℕ) (new old : List ℕ) → new ≡ with_rows_to row old → AreGenerationsOf deltas old → AreGenerationsOf deltas new
generations_stay deltas row new old room are t = rw room (same_generations row old t) ∙ are t

pub no_generations : AreGenerationsOf [] []
unfolding body_generation
no_generations t = by (t.table == method_def) 0 refl
  where
    by : (b : Bool) (n : ℕ) → n ≡ 0 → (if b then n else 0) ≡ 0
    by true n e = e
    by false n e = refl
