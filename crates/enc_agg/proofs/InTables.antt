-- The tables of a delta's tokens are those of metadata.
use Rattle.std.proofs.Common.{◌≡◌, ℕ, ◌<◌, ◌≤◌, Bool, true, false, List, [], ◌∷◌, length, Option, None, refl, arith}
use Rattle.std.specs.Prelude.{◌==◌, ◌&&◌, ◌||◌, not, cond, nat_lt}
use Rattle.std.specs.List.{list_all, list_any}
use Rattle.std.proofs.lemmas.Bool.{and_parts, and_from}
use Rattle.std.proofs.lemmas.Bool.Decides.{nat_tests}
use Rattle.enc_base.specs.declared.refusal.Place.{Place}
use Rattle.enc_base.specs.declared.refusal.Place.TheVariants as place
use Rattle.enc_base.specs.declared.token.Token.{Token}
use Rattle.enc_base.specs.Order.{first_below}
use Rattle.enc_base.proofs.First.{first_means}
use Rattle.enc_rows.specs.Layout.{rows_of}
use Rattle.enc_rows.specs.Source.{Source}
use Rattle.enc_delta.specs.Delta.{listed, of_table}
use Rattle.enc_delta.specs.Rules.{broken, rows_for, uneven_at, uneven_table, may_change, closed_at, closed_table}

-- no answer below n, none at any place below
pub silent : {A : Type 0} (rule : ℕ → Option A) (n k : ℕ) → first_below rule n ≡ None → k < n → rule k ≡ None
silent rule n k none lt = (rw none at (first_means rule n)) k lt

unbroken : (p : Place) (b : Bool) → broken b p ≡ None → b ≡ false
unbroken p true h = absurd cc
unbroken p false h = refl

equal : (p : Place) (a b : ℕ) → broken (not (a == b)) p ≡ None → a ≡ b
equal p a b h =
    let e : not (a == b) ≡ false = unbroken p _ h in
    grind (arith, nat_tests)

-- a table has as many rows as tokens
pub rows_are : (s : Source) (t : ℕ) → uneven_table s ≡ None → t < 0x100 → rows_for s t ≡ length (of_table t (listed s))
unfolding uneven_table uneven_at
rows_are s t none h = equal (place.Row (record { table = t; row = 0 })) (rows_for s t) (length (of_table t (listed s))) (silent (uneven_at s) 0x100 t none h)

some_rows : (b : Bool) (n : ℕ) → 0 < cond b 0 n → 0 < n
some_rows true n h = absurd (omega arith)
some_rows false n h = h

allowed : (p : Place) (n : ℕ) (b : Bool) → broken (nat_lt 0 n && not b) p ≡ None → 0 < n → b ≡ true
allowed p n true h lt = refl
allowed p n false h lt =
    let e = unbroken p _ h in
    grind (arith, nat_tests)

-- a table with rows is one that may change
pub may_be : (s : Source) (t : ℕ) → closed_table s ≡ None → t < 0x100 → 0 < rows_of s.layout t → may_change t ≡ true
unfolding closed_table closed_at
may_be s t none h some = allowed (place.Row (record { table = t; row = 0 })) (rows_of s.layout t) (may_change t) (silent (closed_at s) 0x100 t none h) some

one_small : (u t n : ℕ) (rest : Bool) → ((u == t) || rest) ≡ true → nat_lt u n ≡ true → (rest ≡ true → nat_lt t n ≡ true) → nat_lt t n ≡ true
one_small u t n true h small f = f refl
one_small u t n false h small f = grind (arith, nat_tests)

small_of : (ns : List ℕ) (t n : ℕ) → list_any (λ u. u == t) ns ≡ true → list_all (λ u. nat_lt u n) ns ≡ true → nat_lt t n ≡ true
small_of [] t n h all = absurd cc
small_of (u ∷ us) t n h all =
    let both = and_parts (nat_lt u n) (list_all (λ v. nat_lt v n) us) all in
    one_small u t n (list_any (λ v. v == t) us) h both.0 (λ more. small_of us t n more both.1)

-- those are below 2D
pub may_small : (t : ℕ) → may_change t ≡ true → nat_lt t 0x2D ≡ true
may_small t h = search (small_of, h)

longer : (b : Bool) (t : Token) (ts : List Token) → length ts ≤ length (cond b (t ∷ ts) ts)
longer true t ts = omega arith
longer false t ts = omega arith

some_here : (t : Token) (ts : List Token) → 0 < length (of_table t.table (t ∷ ts))
some_here t ts =
    let e : (t.table == t.table) ≡ true = grind (arith, nat_tests) in
    rw e (omega arith)

-- where the tables that have tokens are small, each token's is
pub small_tables : (ts : List Token) → ((t : ℕ) → t < 0x100 → 0 < length (of_table t ts) → nat_lt t 0x2D ≡ true) → list_all (λ (t : Token). nat_lt t.table 0x100) ts ≡ true → list_all (λ (t : Token). nat_lt t.table 0x2D) ts ≡ true
small_tables [] f h = refl
small_tables (t ∷ ts) f h =
    let both = and_parts (nat_lt t.table 0x100) (list_all (λ (u : Token). nat_lt u.table 0x100) ts) h in
    let within : t.table < 0x100 = grind (arith, nat_tests, both.0) in
    and_from (nat_lt t.table 0x2D) (list_all (λ (u : Token). nat_lt u.table 0x2D) ts) (f t.table within (some_here t ts)) (small_tables ts (λ u lt some. f u lt (omega (arith, some, longer (t.table == u) t (of_table u ts)))) both.1)

-- the tokens of a delta whose tables are as many as its tokens, and none of another kind
pub listed_tables : (s : Source) → uneven_table s ≡ None → closed_table s ≡ None → list_all (λ (t : Token). nat_lt t.table 0x100) (listed s) ≡ true → list_all (λ (t : Token). nat_lt t.table 0x2D) (listed s) ≡ true
listed_tables s equal_rows allowed_rows h = small_tables (listed s) (λ t lt some. may_small t (may_be s t allowed_rows lt (some_rows _ (rows_of s.layout t) (rw (← rows_are s t equal_rows lt) at some)))) h
