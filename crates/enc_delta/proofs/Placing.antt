-- The position of a token, one entry of the map after the other.
use Rattle.std.proofs.Common.{◌≡◌, ℕ, zero, suc, ◌+◌, ◌-◌, ◌<◌, ◌≤◌, Bool, true, false, List, [], ◌∷◌, length, drop, map, Option, Some, None, refl, sym, ap, ◌∙◌, arith}
use Rattle.std.specs.Prelude.{slice_get, filter, not, ◌==◌, if◌then◌else◌, option_map}
use Rattle.std.specs.List.{position_from, list_any}
use Rattle.std.proofs.lemmas.Option.{slice_get_past}
use Rattle.std.proofs.lemmas.Iterator.Adapters.{position_from-zero}
use Rattle.enc_base.specs.declared.token.Token.{Token}
use Rattle.enc_base.specs.Token.{is_token}
use Rattle.enc_plain.proofs.Applied.{same_is}
use Rattle.enc_rows.specs.Layout.{rows_of}
use Rattle.enc_rows.specs.Source.{Source}
use Rattle.std.specs.List.{range_with_len}
use Rattle.enc_rows.specs.Sums.{below}
use Rattle.enc_delta.specs.Delta.{map_token, is_module, map_in, listed, of_table, place_in}

-- the position of a token among its table's where n of them stand before
abbrev pub place_behind : ℕ → List Token → Token → Option ℕ
place_behind n [] token = None
place_behind n (t ∷ ts) token = if t.table == token.table then (if t.row == token.row then Some (n + 1) else place_behind (n + 1) ts token) else place_behind n ts token

-- the same row
abbrev has_row_of : Token → Token → Bool
has_row_of u t = t.row == u.row

behind_step : (n : ℕ) (t u : Token) (ts : List Token) (a b : Bool) → (t.table == u.table) ≡ a → (t.row == u.row) ≡ b → place_behind (n + 1) ts u ≡ option_map suc (position_from (has_row_of u) (n + 1) (of_table u.table ts)) → place_behind n ts u ≡ option_map suc (position_from (has_row_of u) n (of_table u.table ts)) → place_behind n (t ∷ ts) u ≡ option_map suc (position_from (has_row_of u) n (of_table u.table (t ∷ ts)))
behind_step n t u ts true true same row next here = rw (same, row) (ap (λ k. Some k) (omega arith))
behind_step n t u ts true false same row next here = rw (same, row) next
behind_step n t u ts false b same row next here = rw same here

behind_is : (n : ℕ) (ts : List Token) (u : Token) → place_behind n ts u ≡ option_map suc (position_from (has_row_of u) n (of_table u.table ts))
behind_is n [] u = refl
behind_is n (t ∷ ts) u = behind_step n t u ts (t.table == u.table) (t.row == u.row) refl refl (behind_is (n + 1) ts u) (behind_is n ts u)

-- with none before them it is the position
pub place_is : (tokens : List Token) (u : Token) → place_behind 0 tokens u ≡ place_in tokens u
unfolding place_in
place_is tokens u = behind_is 0 tokens u ∙ ap (λ (o : Option ℕ). option_map suc o) (sym (position_from-zero (has_row_of u) (of_table u.table tokens)))

-- the k-th place from the n-th on
abbrev IsThere : ℕ → List Token → Token → ℕ → Type 0
IsThere n ts u k = (n < k) × (slice_get (of_table u.table ts) (k - 1 - n) ≡ Some u)

there_step : (n k : ℕ) (t u : Token) (ts : List Token) (a b : Bool) → (t.table == u.table) ≡ a → (t.row == u.row) ≡ b → (place_behind (n + 1) ts u ≡ Some k → IsThere (n + 1) ts u k) → (place_behind n ts u ≡ Some k → IsThere n ts u k) → place_behind n (t ∷ ts) u ≡ Some k → IsThere n (t ∷ ts) u k
there_step n k t u ts true true same row next here h =
    let e : Some (n + 1) ≡ Some k = rw (same, row) at h in
    let k_is : n + 1 ≡ k = cc in
    let first : k - 1 - n ≡ 0 = omega arith in
    (omega arith, rw (same, first) (ap (λ x. Some x) (same_is t u (rw (same, row) refl))))
there_step n k t u ts true false same row next here h =
    let there = next (rw (same, row) at h) in
    let later : k - 1 - n ≡ suc (k - 1 - (n + 1)) = omega (arith, there.0) in
    (omega (arith, there.0), rw (same, later) there.1)
there_step n k t u ts false b same row next here h = rw same (here (rw same at h))

there_from : (n : ℕ) (ts : List Token) (u : Token) (k : ℕ) → place_behind n ts u ≡ Some k → IsThere n ts u k
there_from n [] u k h = absurd cc
there_from n (t ∷ ts) u k h = there_step n k t u ts (t.table == u.table) (t.row == u.row) refl refl (there_from (n + 1) ts u k) (there_from n ts u k) h

-- the token stands at its place
pub place_there : (tokens : List Token) (u : Token) (k : ℕ) → place_in tokens u ≡ Some k → (0 < k) × (slice_get (of_table u.table tokens) (k - 1) ≡ Some u)
place_there tokens u k h =
    let there = there_from 0 tokens u k (place_is tokens u ∙ h) in
    let e : k - 1 - 0 ≡ k - 1 = omega arith in
    (there.0, ap (λ i. slice_get (of_table u.table tokens) i) (sym e) ∙ there.1)

none_step : (n : ℕ) (t u : Token) (ts : List Token) (a b : Bool) → (t.table == u.table) ≡ a → (t.row == u.row) ≡ b → (place_behind (n + 1) ts u ≡ None → list_any (λ x. is_token x u) ts ≡ false) → (place_behind n ts u ≡ None → list_any (λ x. is_token x u) ts ≡ false) → place_behind n (t ∷ ts) u ≡ None → list_any (λ x. is_token x u) (t ∷ ts) ≡ false
none_step n t u ts true true same row next here h = let e : Some (n + 1) ≡ None = rw (same, row) at h in absurd cc
none_step n t u ts true false same row next here h = rw (same, row) (next (rw (same, row) at h))
none_step n t u ts false b same row next here h = rw same (here (rw same at h))

none_from : (n : ℕ) (ts : List Token) (u : Token) → place_behind n ts u ≡ None → list_any (λ x. is_token x u) ts ≡ false
none_from n [] u h = refl
none_from n (t ∷ ts) u h = none_step n t u ts (t.table == u.table) (t.row == u.row) refl refl (none_from (n + 1) ts u) (none_from n ts u) h

-- a token without a place isn't in the list
pub place_none : (tokens : List Token) (u : Token) → place_in tokens u ≡ None → list_any (λ t. is_token t u) tokens ≡ false
place_none tokens u h = none_from 0 tokens u (place_is tokens u ∙ h)

abbrev pub keep : List Token → List Token
keep ts = filter (λ (t : Token). not (is_module t)) ts

pub drop_step : (xs : List Token) (i : ℕ) (t : Token) → slice_get xs i ≡ Some t → drop i xs ≡ t ∷ drop (i + 1) xs
drop_step [] i t h = absurd cc
drop_step (x ∷ xs) zero t h = let e : x ≡ t = cc in ap (λ (y : Token). y ∷ xs) e
drop_step (x ∷ xs) (suc i) t h = let e : suc i + 1 ≡ suc (i + 1) = omega arith in rw e (drop_step xs i t h)

pub place_start : (s : Source) (u : Token) → place_behind 0 (keep (drop 0 (map_in s))) u ≡ place_in (listed s) u
unfolding listed
place_start s u = place_is (listed s) u

-- a token that isn't the one, or of another table, or the Module's
pub place_module : (n i : ℕ) (xs : List Token) (t u : Token) (o : Option ℕ) → slice_get xs i ≡ Some t → is_module t ≡ true → place_behind n (keep (drop i xs)) u ≡ o → place_behind n (keep (drop (i + 1) xs)) u ≡ o
place_module n i xs t u o get m h = rw (drop_step xs i t get, m) at h

pub place_table : (n i : ℕ) (xs : List Token) (t u : Token) (o : Option ℕ) → slice_get xs i ≡ Some t → is_module t ≡ false → (t.table == u.table) ≡ false → place_behind n (keep (drop i xs)) u ≡ o → place_behind n (keep (drop (i + 1) xs)) u ≡ o
place_table n i xs t u o get m a h = rw (drop_step xs i t get, m, a) at h

pub place_row : (n i : ℕ) (xs : List Token) (t u : Token) (o : Option ℕ) → slice_get xs i ≡ Some t → is_module t ≡ false → (t.table == u.table) ≡ true → (t.row == u.row) ≡ false → place_behind n (keep (drop i xs)) u ≡ o → place_behind (n + 1) (keep (drop (i + 1) xs)) u ≡ o
place_row n i xs t u o get m a b h = rw (drop_step xs i t get, m, a, b) at h

pub place_found : (n i : ℕ) (xs : List Token) (t u : Token) (o : Option ℕ) → slice_get xs i ≡ Some t → is_module t ≡ false → (t.table == u.table) ≡ true → (t.row == u.row) ≡ true → place_behind n (keep (drop i xs)) u ≡ o → Some (n + 1) ≡ o
place_found n i xs t u o get m a b h = rw (drop_step xs i t get, m, a, b) at h

drop_past : (xs : List Token) (i : ℕ) → length xs ≤ i → drop i xs ≡ []
drop_past [] zero h = refl
drop_past [] (suc i) h = refl
drop_past (x ∷ xs) zero h = absurd (omega arith)
drop_past (x ∷ xs) (suc i) h = drop_past xs i (omega arith)

from_length : {X : Type 0} (f : ℕ → X) (a n : ℕ) → length (map f (range_with_len a n)) ≡ n
from_length f a zero = refl
from_length f a (suc n) = omega (arith, from_length f (a + 1) n)

length_below : {X : Type 0} (f : ℕ → X) (n : ℕ) → length (map f (below n)) ≡ n
unfolding below
length_below f n = from_length f 0 n

pub map_past : (s : Source) (i : ℕ) → rows_of s.layout 0x1F ≤ i → slice_get (map_in s) i ≡ None
unfolding map_in
map_past s i h = slice_get_past _ i (omega (arith, length_below (map_token s) (rows_of s.layout 0x1F)))

-- behind the last entry there is none
pub place_end : (n i : ℕ) (s : Source) (u : Token) (o : Option ℕ) → rows_of s.layout 0x1F ≤ i → place_behind n (keep (drop i (map_in s))) u ≡ o → None ≡ o
unfolding map_in
place_end n i s u o h e = rw (drop_past (map (map_token s) (below (rows_of s.layout 0x1F))) i (rw (length_below (map_token s) (rows_of s.layout 0x1F)) h)) at e
