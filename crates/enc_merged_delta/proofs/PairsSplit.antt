-- The pairs of a log, one by one: what rules say of each, and which children they give.
use Rattle.std.proofs.Common.{◌≡◌, ℕ, zero, suc, ◌+◌, ◌≤◌, Bool, true, false, List, [], ◌∷◌, ◌++◌, length, map, Option, Some, None, refl, sym, ap, ◌∙◌, inl, inr, arith, subst}
use Rattle.std.specs.Prelude.{◌⊎◌, ◌||◌, ◌&&◌, ◌==◌, filter, nat_le, if◌then◌else◌, count_by, cond, flat_map, slice_get}
use Rattle.std.specs.List.{list_any}
use Rattle.std.proofs.lemmas.Bool.{and_parts, or_cases, or_left, or_right}
use Rattle.std.proofs.lemmas.Bool.Decides.{nat_tests}
use Rattle.enc_base.specs.Token.{is_token, number_of}
use Rattle.enc_base.specs.declared.token.Token.{Token}
use Rattle.enc_schema.specs.Children.{is_child_table, owner_table}
use Rattle.enc_rows.specs.Source.{Source}
use Rattle.enc_plain.specs.Apply.{Attached, gained}
use Rattle.enc_plain.specs.Chain.{Chain, rows_before}
use Rattle.enc_plain.specs.Module.{Module, Row, rows_in, row_at, row_of, has_row, kids_at, kids_with, kids_of}
use Rattle.enc_plain.specs.Sound.{IsOwned, all_kids}
use Rattle.enc_plain.proofs.Applied.{same_is}
use Rattle.enc_plain.proofs.Owned.{count_append, count_cons}
use Rattle.enc_delta.specs.Delta.{listed, log_in}
use Rattle.enc_delta.specs.Pairs.{attached_of}
use Rattle.enc_delta.specs.Rules.{at_token, least, rows_with}
use Rattle.enc_delta.proofs.Unbroken.{landed}
use Rattle.enc_agg.specs.Follows.{Lands}
use Rattle.enc_agg.proofs.Changed.{log_names}
use Rattle.enc_agg.proofs.Pairs.{OwnedBy, AllOwned, log_owned}
use Rattle.enc_agg.proofs.Rising.{no_least, no_place}

-- a pair is one of some
abbrev pub Has : List Attached → Attached → Type 0
Has [] x = ⊥
Has (p ∷ pairs) x = (p ≡ x) ⊎ Has pairs x

pub in_either : (ps qs : List Attached) (x : Attached) → Has (ps ++ qs) x → Has ps x ⊎ Has qs x
in_either [] qs x h = inr h
in_either (p ∷ ps) qs x (inl here) = inl (inl here)
in_either (p ∷ ps) qs x (inr behind) = elim (in_either ps qs x behind) [ inl first ↦ inl (inr first) | inr second ↦ inr second ]

-- what all owners and children keep
owned_at : (count before : ℕ → ℕ) (ps : List Attached) (x : Attached) → AllOwned count before ps → Has ps x → OwnedBy count before x
owned_at count before [] x all h = absurd h
owned_at count before (p ∷ ps) x all (inl here) = subst (OwnedBy count before) here all.0
owned_at count before (p ∷ ps) x all (inr behind) = owned_at count before ps x all.1 behind

pub pair_owned : (c : Chain) (s : Source) (x : Attached) → Lands c s → Has (attached_of s) x → OwnedBy (rows_with c (listed s)) (rows_before c) x
unfolding attached_of
pair_owned c s x f h = owned_at (rows_with c (listed s)) (rows_before c) (attached_of s) x (log_owned c (listed s) (log_in s) (landed c s f.early).log (log_names c s f)) h

-- a rule that has no least child says it of none
no_pairs : (f : Attached → ℕ) (xs : List Attached) → map f xs ≡ [] → xs ≡ []
no_pairs f [] h = refl
no_pairs f (x ∷ xs) h = absurd cc

none_kept : (p : Attached → Bool) (ps : List Attached) (x : Attached) → filter p ps ≡ [] → Has ps x → p x ≡ false
none_kept p [] x none h = absurd h
none_kept p (y ∷ ps) x none h = by (p y) refl none h (λ rest there. none_kept p ps x rest there)
  where
    by : (b : Bool) → p y ≡ b → (if b then y ∷ filter p ps else filter p ps) ≡ [] → (y ≡ x) ⊎ Has ps x → (filter p ps ≡ [] → Has ps x → p x ≡ false) → p x ≡ false
    by true e n there rest = absurd cc
    by false e n (inl here) rest = ap p (sym here) ∙ e
    by false e n (inr behind) rest = rest n behind

pub no_child : (p : Attached → Bool) (ps : List Attached) (x : Attached) → at_token (least (map (λ (a : Attached). number_of a.child) (filter p ps))) ≡ None → Has ps x → p x ≡ false
no_child p ps x none h = none_kept p ps x (no_pairs (λ (a : Attached). number_of a.child) (filter p ps) (no_least _ (no_place _ none))) h

-- and one that says it of none has no least child
filter_none : (p : Attached → Bool) (ps : List Attached) → ((x : Attached) → Has ps x → p x ≡ false) → filter p ps ≡ []
filter_none p [] each = refl
filter_none p (x ∷ ps) each = rw (each x (inl refl)) (filter_none p ps (λ y h. each y (inr h)))

pub silent_children : (p : Attached → Bool) (ps : List Attached) → ((x : Attached) → Has ps x → p x ≡ false) → at_token (least (map (λ (a : Attached). number_of a.child) (filter p ps))) ≡ None
silent_children p ps each = ap (λ (xs : List Attached). at_token (least (map (λ (a : Attached). number_of a.child) xs))) (filter_none p ps each)

-- a row is among some
abbrev pub among : ℕ → List ℕ → Bool
among row rows = list_any (λ k. k == row) rows

-- a pair's owner gains its child
number_self : (n : ℕ) → (n == n) ≡ true
number_self n = grind (arith, nat_tests)

token_self : (t : Token) → is_token t t ≡ true
token_self t = grind (arith, nat_tests)

pub gains : (ps : List Attached) (x : Attached) → Has ps x → among x.child.row (gained ps x.owner x.child.table) ≡ true
gains [] x h = absurd h
gains (p ∷ ps) x h = by (is_token p.owner x.owner && p.child.table == x.child.table) refl h (λ behind. gains ps x behind)
  where
    here_true : p ≡ x → (is_token p.owner x.owner && p.child.table == x.child.table) ≡ true
    here_true here = ap (λ (y : Attached). is_token y.owner x.owner && y.child.table == x.child.table) here ∙ rw (token_self x.owner, number_self x.child.table) refl

    by : (b : Bool) → (is_token p.owner x.owner && p.child.table == x.child.table) ≡ b → (p ≡ x) ⊎ Has ps x → (Has ps x → among x.child.row (gained ps x.owner x.child.table) ≡ true)
        → among x.child.row (map (λ (a : Attached). a.child.row) (if b then p ∷ filter (λ (a : Attached). is_token a.owner x.owner && a.child.table == x.child.table) ps else filter (λ (a : Attached). is_token a.owner x.owner && a.child.table == x.child.table) ps)) ≡ true
    by true e (inl here) rest = or_left (p.child.row == x.child.row) _ (ap (λ (y : Attached). y.child.row == x.child.row) here ∙ number_self x.child.row)
    by true e (inr behind) rest = or_right (p.child.row == x.child.row) _ (rest behind)
    by false e (inl here) rest = let f : true ≡ false = sym (here_true here) ∙ e in absurd cc
    by false e (inr behind) rest = rest behind

-- and what an owner gains is the child of a pair
pub record GainedBy (ps : List Attached) (owner child : Token) : Type 0 where
  pub pair : Attached
  pub there : Has ps pair
  pub owner_is : pair.owner ≡ owner
  pub child_is : pair.child ≡ child

pub gained_by : (ps : List Attached) (owner child : Token) → among child.row (gained ps owner child.table) ≡ true → GainedBy ps owner child
gained_by [] owner child h = absurd cc
gained_by (p ∷ ps) owner child h = by (is_token p.owner owner && p.child.table == child.table) refl h (λ later. behind (gained_by ps owner child later))
  where
    behind : GainedBy ps owner child → GainedBy (p ∷ ps) owner child
    behind w = record { pair = w.pair; there = inr w.there; owner_is = w.owner_is; child_is = w.child_is }

    here : (is_token p.owner owner && p.child.table == child.table) ≡ true → (p.child.row == child.row) ≡ true → GainedBy (p ∷ ps) owner child
    here e row =
        let both = and_parts (is_token p.owner owner) (p.child.table == child.table) e in
        let same : is_token p.child child ≡ true = rw (both.1, row) refl in
        record { pair = p; there = inl refl; owner_is = same_is p.owner owner both.0; child_is = same_is p.child child same }

    by : (b : Bool) → (is_token p.owner owner && p.child.table == child.table) ≡ b
        → among child.row (map (λ (a : Attached). a.child.row) (if b then p ∷ filter (λ (a : Attached). is_token a.owner owner && a.child.table == child.table) ps else filter (λ (a : Attached). is_token a.owner owner && a.child.table == child.table) ps)) ≡ true
        → (among child.row (gained ps owner child.table) ≡ true → GainedBy (p ∷ ps) owner child) → GainedBy (p ∷ ps) owner child
    by true e h rest = elim (or_cases (p.child.row == child.row) (among child.row (gained ps owner child.table)) h) [
      | inl row ↦ here e row
      | inr later ↦ rest later
    ]
    by false e h rest = rest h

-- a row that is a child is there
counted_some : (row : ℕ) (xs : List ℕ) → among row xs ≡ true → 1 ≤ count_by (λ k. k == row) xs
counted_some row [] h = absurd cc
counted_some row (x ∷ xs) h = by (x == row) refl (count_cons (λ k. k == row) x xs) h (counted_some row xs)
  where
    by : (b : Bool) → (x == row) ≡ b → count_by (λ k. k == row) (x ∷ xs) ≡ cond (x == row) 1 0 + count_by (λ k. k == row) xs → (b || among row xs) ≡ true → (among row xs ≡ true → 1 ≤ count_by (λ k. k == row) xs)
        → 1 ≤ count_by (λ k. k == row) (x ∷ xs)
    by true e count h rest = let f : count_by (λ k. k == row) (x ∷ xs) ≡ 1 + count_by (λ k. k == row) xs = count ∙ ap (λ b. cond b 1 0 + count_by (λ k. k == row) xs) e in omega (arith, f)
    by false e count h rest = let f : count_by (λ k. k == row) (x ∷ xs) ≡ 0 + count_by (λ k. k == row) xs = count ∙ ap (λ b. cond b 1 0 + count_by (λ k. k == row) xs) e in omega (arith, f, rest h)

in_rows : (row : ℕ) (f : Row → List ℕ) (rows : List Row) (i : ℕ) (x : Row) → slice_get rows i ≡ Some x → among row (f x) ≡ true → 1 ≤ count_by (λ k. k == row) (flat_map f rows)
in_rows row f [] i x e h = absurd cc
in_rows row f (r ∷ rows) zero x e h =
    let is : r ≡ x = cc in
    let some = counted_some row (f r) (rw is h) in
    omega (arith, count_append (λ k. k == row) (f r) (flat_map f rows), some)
in_rows row f (r ∷ rows) (suc i) x e h = omega (arith, count_append (λ k. k == row) (f r) (flat_map f rows), in_rows row f rows i x e h)

at_row : (table row : ℕ) (rows : List Row) (owner : ℕ) → among row (kids_with (row_at rows owner) table) ≡ true → 1 ≤ count_by (λ k. k == row) (flat_map (λ (r : Row). kids_at r table) rows)
at_row table row rows zero h = absurd cc
at_row table row rows (suc i) h = by (slice_get rows i) refl h
  where
    by : (o : Option Row) → slice_get rows i ≡ o → among row (kids_with o table) ≡ true → 1 ≤ count_by (λ k. k == row) (flat_map (λ (r : Row). kids_at r table) rows)
    by None e h = absurd cc
    by (Some x) e h = in_rows row (λ (r : Row). kids_at r table) rows i x e h

kid_counted : (m : Module) (u : Token) (table row : ℕ) → is_child_table table ≡ true → among row (kids_of m u table) ≡ true → 1 ≤ count_by (λ k. k == row) (all_kids m table)
unfolding kids_of row_of
kid_counted m u table row child h = by (u.table == owner_table table) refl (rw child at h)
  where
    by : (b : Bool) → (u.table == owner_table table) ≡ b → among row (if b then kids_with (row_at (rows_in m u.table) u.row) table else []) ≡ true → 1 ≤ count_by (λ k. k == row) (all_kids m table)
    by false e h = absurd cc
    by true e h =
        let is : u.table ≡ owner_table table = grind (arith, nat_tests, e) in
        subst (λ t. 1 ≤ count_by (λ k. k == row) (flat_map (λ (r : Row). kids_at r table) (rows_in m t))) is (at_row table row (rows_in m u.table) u.row h)

cond_some : (n : ℕ) (b : Bool) → n ≡ cond b 1 0 → 1 ≤ n → b ≡ true
cond_some n true e some = refl
cond_some n false e some = absurd (omega (arith, e, some))

pub kid_there : (m : Module) (u child : Token) → IsOwned m → is_child_table child.table ≡ true → among child.row (kids_of m u child.table) ≡ true → has_row m child ≡ true
unfolding has_row
kid_there m u child owned table h =
    let one = cond_some (count_by (λ k. k == child.row) (all_kids m child.table)) (nat_le 1 child.row && nat_le child.row (length (rows_in m child.table)))
    (owned.once child.table child.row table) (kid_counted m u child.table child.row table h) in
    grind (arith, nat_tests, one)
