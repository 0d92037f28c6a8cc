-- The newest row of a token that one of the last two deltas lists, and the numbers in it.
use Rattle.std.proofs.Common.{◌≡◌, ℕ, zero, suc, ◌+◌, ◌<◌, Bool, true, false, List, [], ◌∷◌, ◌++◌, length, drop, Option, Some, None, refl, sym, ap, ◌∙◌, subst, inl, inr, arith}
use Rattle.std.specs.Prelude.{◌^◌, ◌&&◌, ◌||◌, ◌==◌, is_some, option_map, unwrap_or, filter, nat_lt, slice_get}
use Rattle.std.specs.List.{list_any}
use Rattle.std.proofs.lemmas.Bool.{and_parts, cases_eq}
use Rattle.std.proofs.lemmas.List.{length-append}
use Rattle.std.proofs.lemmas.Bool.Decides.{nat_tests}
use Rattle.enc_base.specs.declared.token.Token.{Token}
use Rattle.enc_meta.specs.Heaps.{Counted}
use Rattle.enc_meta.specs.Joined.{joined_text}
use Rattle.enc_rows.specs.Source.{Source, raw_in}
use Rattle.enc_schema.specs.Schema.{column_in, columns_in}
use Rattle.enc_schema.specs.declared.column.Column.{Column}
use Rattle.enc_schema.specs.declared.column.Column.TheVariants.{Num8, Num16, Num32, Text, Guid, Blob, Index, Coded, Run}
use Rattle.enc_plain.specs.Cell.{is_body}
use Rattle.enc_plain.specs.Sound.{number_fits}
use Rattle.enc_plain.specs.declared.place.RowPlace.{RowPlace}
use Rattle.enc_delta.specs.Delta.{listed, of_table, place_in}
use Rattle.enc_delta.specs.Rows.{own_row}
use Rattle.enc_reference_depth.specs.Depth.{IsShallow}
use Rattle.enc_agg.specs.Place.{place_of, place_or}
use Rattle.enc_agg.specs.Seen.{History}
use Rattle.enc_ppdb.proofs.Positions.{position_any}
use Rattle.enc_merged_delta.specs.Held.{IsNumberOfBoth, NumberHeld, NumbersAreHeld, RowHeld, in_column, number_moved, number_of_both, place_moved, shift_of, text_moved}
use Rattle.enc_merged_delta.specs.Merged.{is_in_either, is_in_map}
use Rattle.enc_merge.specs.Writing.{AreLast, Both, FrontHeld, IsNewest, chain_of_both}
use Rattle.enc_merge.specs.declared.rows.Newest.{Newest}
use Rattle.enc_merge.proofs.LastTwo.{may_merge, shift_low}

-- a token has a place just where it is listed
some_suc : (o : Option ℕ) → is_some (option_map suc o) ≡ is_some o
some_suc None = refl
some_suc (Some n) = refl

any_kept : (p q : Token → Bool) (xs : List Token) → list_any q (filter p xs) ≡ list_any (λ x. p x && q x) xs
any_kept p q [] = refl
any_kept p q (x ∷ xs) = by (p x) refl (any_kept p q xs)
  where
    by : (b : Bool) → p x ≡ b → list_any q (filter p xs) ≡ list_any (λ y. p y && q y) xs → list_any q (filter p (x ∷ xs)) ≡ list_any (λ y. p y && q y) (x ∷ xs)
    by true is more = rw is (ap (λ b. q x || b) more)
    by false is more = rw is more

pub place_any : (s : Source) (u : Token) → is_some (place_in (listed s) u) ≡ is_in_map s u
unfolding place_in
place_any s u =
    some_suc _ ∙ position_any (λ (t : Token). t.row == u.row) (of_table u.table (listed s)) ∙ any_kept (λ (t : Token). t.table == u.table) (λ (t : Token). t.row == u.row) (listed s)

-- where a token stands, by the newest two
places_are : (ds : List Source) (a b : Source) (u : Token) → ds ≡ b ∷ a ∷ drop 2 ds
    → place_of ds u ≡ place_or (length (drop 2 ds) + 2) (place_in (listed b) u) (place_or (length (drop 2 ds) + 1) (place_in (listed a) u) (place_of (drop 2 ds) u))
unfolding place_of
places_are ds a b u is =
    let two : suc (suc (length (drop 2 ds))) ≡ length (drop 2 ds) + 2 = omega arith in
    let one : suc (length (drop 2 ds)) ≡ length (drop 2 ds) + 1 = omega arith in
    ap (λ xs. place_of xs u) is
    ∙ ap (λ n. place_or n (place_in (listed b) u) (place_or (suc (length (drop 2 ds))) (place_in (listed a) u) (place_of (drop 2 ds) u))) two
    ∙ ap (λ n. place_or (length (drop 2 ds) + 2) (place_in (listed b) u) (place_or n (place_in (listed a) u) (place_of (drop 2 ds) u))) one

by_second : (n : ℕ) (second first : Option ℕ) (p older : RowPlace) → p ≡ place_or (n + 2) second (place_or (n + 1) first older) → (is_some first || is_some second) ≡ true → p.generation ≡ n + 2
    → second ≡ Some p.row
by_second n (Some k) first p older is either last = ap (λ (q : RowPlace). Some q.row) (sym is)
by_second n None (Some k) p older is either last = let g : p.generation ≡ n + 1 = ap (λ (q : RowPlace). q.generation) is in absurd (omega (arith, g, last))
by_second n None None p older is either last = absurd cc

by_first : (n : ℕ) (second first : Option ℕ) (p older : RowPlace) → p ≡ place_or (n + 2) second (place_or (n + 1) first older) → (is_some first || is_some second) ≡ true → (p.generation ≡ n + 2 → ⊥)
    → (second ≡ None) × (first ≡ Some p.row)
by_first n (Some k) first p older is either other = absurd (other (ap (λ (q : RowPlace). q.generation) is))
by_first n None (Some k) p older is either other = (refl, ap (λ (q : RowPlace). Some q.row) (sym is))
by_first n None None p older is either other = absurd cc

either_some : (x : Both) (u : Token) → is_in_either x.first x.second u ≡ true → (is_some (place_in (listed x.first) u) || is_some (place_in (listed x.second) u)) ≡ true
either_some x u either = rw (place_any x.first u, place_any x.second u) either

deltas_many : (h : History) (x : Both) → AreLast h x → length h.deltas ≡ length (drop 2 h.deltas) + 2
deltas_many h x are = let e = ap (λ (ds : List Source). length ds) are.deltas in omega (arith, e)

own_is : (s : Source) (u : Token) (k : ℕ) → place_in (listed s) u ≡ Some k → record { table = u.table; row = k } ≡ own_row s u
own_is s u k is = ap (λ (o : Option ℕ). record { table = u.table; row = unwrap_or o 0 }) (sym is)

listed_at : (s : Source) (u : Token) (k : ℕ) → place_in (listed s) u ≡ Some k → is_in_map s u ≡ true
listed_at s u k is = sym (place_any s u) ∙ ap (λ (o : Option ℕ). is_some o) is

unlisted_at : (s : Source) (u : Token) → place_in (listed s) u ≡ None → is_in_map s u ≡ false
unlisted_at s u is = sym (place_any s u) ∙ ap (λ (o : Option ℕ). is_some o) is

pub of_second : (h : History) (x : Both) (u : Token) (p : RowPlace) (n : Newest) → AreLast h x → is_in_either x.first x.second u ≡ true → p ≡ place_of h.deltas u → p.generation ≡ length h.deltas
    → n.delta.now ≡ x.second → n.row ≡ record { table = u.table; row = p.row } → n.shift ≡ shift_of x.first → IsNewest x u n
of_second h x u p n are either is last delta row shift =
    let many = deltas_many h x are in
    let at = by_second (length (drop 2 h.deltas)) (place_in (listed x.second) u) (place_in (listed x.first) u) p (place_of (drop 2 h.deltas) u) (is ∙ places_are h.deltas x.first x.second u are.deltas) (either_some x u either) (omega (arith, last, many)) in
    let there = listed_at x.second u p.row at in
    record {
      second = λ yes. (delta, (row ∙ own_is x.second u p.row at, shift));
      first = λ not_there. let bad : true ≡ false = sym there ∙ not_there in absurd cc;
    }

pub of_first : (h : History) (x : Both) (u : Token) (p : RowPlace) (n : Newest) → AreLast h x → is_in_either x.first x.second u ≡ true → p ≡ place_of h.deltas u → (p.generation ≡ length h.deltas → ⊥)
    → n.delta.now ≡ x.first → n.row ≡ record { table = u.table; row = p.row } → n.shift ≡ 0 → IsNewest x u n
of_first h x u p n are either is other delta row shift =
    let many = deltas_many h x are in
    let at = by_first (length (drop 2 h.deltas)) (place_in (listed x.second) u) (place_in (listed x.first) u) p (place_of (drop 2 h.deltas) u) (is ∙ places_are h.deltas x.first x.second u are.deltas) (either_some x u either)
    (λ e. other (omega (arith, e, many))) in
    let not_there = unlisted_at x.second u at.0 in
    record {
      second = λ yes. let bad : true ≡ false = sym yes ∙ not_there in absurd cc;
      first = λ no. (delta, (row ∙ own_is x.first u p.row at.1, shift));
    }

-- its number, moved, says what the token has after both
abbrev pub HeldAs : Both → Token → ℕ → Column → ℕ → ℕ → Type 0
HeldAs x u i column shift n = NumberHeld x.chain x.first x.second u i column (number_moved (chain_of_both x).heaps shift u.table i column n)

pub newest_held : (h : History) (x : Both) (u : Token) (n : Newest) (i : ℕ) (column : Column) → NumbersAreHeld → AreLast h x → IsShallow (chain_of_both x).plain → is_in_either x.first x.second u ≡ true → IsNewest x u n
    → column_in u.table i ≡ Some column → HeldAs x u i column n.shift (raw_in n.delta.now n.row i)
newest_held h x u n i column held are shallow either newest there =
    by (is_in_map x.first u) (is_in_map x.second u) refl refl either (held x.chain x.first x.second u i column (may_merge h x are shallow) are.code there)
  where
    by : (a b : Bool) → is_in_map x.first u ≡ a → is_in_map x.second u ≡ b → (a || b) ≡ true
        → (is_in_map x.second u ≡ true → HeldAs x u i column (shift_of x.first) (raw_in x.second (own_row x.second u) i))
        × (is_in_map x.second u ≡ false → is_in_map x.first u ≡ true → HeldAs x u i column 0 (raw_in x.first (own_row x.first u) i))
        → HeldAs x u i column n.shift (raw_in n.delta.now n.row i)
    by a true in_first in_second some says = let e = newest.second in_second in rw (e.0, e.1.0, e.1.1) (says.0 in_second)
    by true false in_first in_second some says = let e = newest.first in_second in rw (e.0, e.1.0, e.1.1) (says.1 in_second in_first)
    by false false in_first in_second some says = absurd cc

-- that number, in each kind of column
moved_body : (heaps : List Counted) (shift table i : ℕ) (column : Column) (n : ℕ) → is_body table i ≡ true → number_moved heaps shift table i column n ≡ place_moved shift n
unfolding number_moved
moved_body heaps shift table i column n is = rw is refl

moved_text : (heaps : List Counted) (shift table i : ℕ) (column : Column) (n : ℕ) → is_body table i ≡ false → column ≡ Text → number_moved heaps shift table i column n ≡ text_moved (joined_text heaps n) n
unfolding number_moved
moved_text heaps shift table i column n is same = rw (is, same) refl

in_others : (heaps : List Counted) (column : Column) (n : ℕ) → (column ≡ Text → ⊥) → in_column heaps column n ≡ n
in_others heaps Text n other = absurd (other refl)
in_others heaps Num8 n other = refl
in_others heaps Num16 n other = refl
in_others heaps Num32 n other = refl
in_others heaps Guid n other = refl
in_others heaps Blob n other = refl
in_others heaps (Index t) n other = refl
in_others heaps (Coded k) n other = refl
in_others heaps (Run t) n other = refl

moved_other : (heaps : List Counted) (shift table i : ℕ) (column : Column) (n : ℕ) → is_body table i ≡ false → (column ≡ Text → ⊥) → number_moved heaps shift table i column n ≡ n
unfolding number_moved
moved_other heaps shift table i column n is other = rw is (in_others heaps column n other)

-- a body's place, moved, has four bytes
body_column : (table i : ℕ) (column : Column) → is_body table i ≡ true → column_in table i ≡ Some column → column ≡ Num32
unfolding columns_in
body_column table i column is there =
    let parts = and_parts (table == 6) (i == 0) is in
    let six : table ≡ 6 = grind (arith, nat_tests, parts.0) in
    let first : i ≡ 0 = grind (arith, nat_tests, parts.1) in
    let at : Some Num32 ≡ Some column = rw (six, first) at there in
    cc

low_place : (shift n : ℕ) → shift < 2 ^ 28 → place_moved shift n < 2 ^ 32 → n + shift < 2 ^ 32
low_place shift zero low fits = omega (arith, low)
low_place shift (suc n) low fits = fits

newest_shift : (h : History) (x : Both) (u : Token) (n : Newest) → AreLast h x → IsNewest x u n → n.shift < 2 ^ 28
newest_shift h x u n are newest = by (is_in_map x.second u) refl
  where
    by : (b : Bool) → is_in_map x.second u ≡ b → n.shift < 2 ^ 28
    by true is = let e = (newest.second is).1.1 in let low = shift_low h x are in omega (arith, e, low)
    by false is = let e = (newest.first is).1.1 in omega (arith, e)

pub body_fits : (h : History) (x : Both) (u : Token) (n : Newest) (i : ℕ) (column : Column) (k : ℕ) → AreLast h x → IsNewest x u n → column_in u.table i ≡ Some column → is_body u.table i ≡ true
    → HeldAs x u i column n.shift k → k + n.shift < 2 ^ 32
body_fits h x u n i column k are newest there is held =
    let fit : number_fits column (place_moved n.shift k) ≡ true = rw (moved_body (chain_of_both x).heaps n.shift u.table i column k is) at held.fit in
    let word : nat_lt (place_moved n.shift k) (2 ^ 32) ≡ true = rw (body_column u.table i column is there) at fit in
    low_place n.shift k (newest_shift h x u n are newest) (grind (arith, nat_tests, word))

-- the number of both is that of the newest row, moved
number_newest : (x : Both) (u : Token) (n : Newest) (i : ℕ) (column : Column) → IsNewest x u n
    → number_of_both x.chain x.first x.second u i column ≡ number_moved (chain_of_both x).heaps n.shift u.table i column (raw_in n.delta.now n.row i)
unfolding number_of_both
number_newest x u n i column newest = by (is_in_map x.second u) refl
  where
    by : (b : Bool) → is_in_map x.second u ≡ b
        → number_of_both x.chain x.first x.second u i column ≡ number_moved (chain_of_both x).heaps n.shift u.table i column (raw_in n.delta.now n.row i)
    by true e = let k = newest.second e in rw (e, k.0, k.1.0, k.1.1) refl
    by false e = let k = newest.first e in rw (e, k.0, k.1.0, k.1.1) refl

made_of : (x : Both) (u : Token) (n : Newest) (i : ℕ) (column : Column) (k y : ℕ) → IsNewest x u n → k ≡ raw_in n.delta.now n.row i → HeldAs x u i column n.shift k
    → number_moved (chain_of_both x).heaps n.shift u.table i column k ≡ y → IsNumberOfBoth x.chain x.first x.second u i column y
made_of x u n i column k y newest raw held is = record {
  held = subst (NumberHeld x.chain x.first x.second u i column) is held;
  moved = sym is ∙ ap (number_moved (chain_of_both x).heaps n.shift u.table i column) raw ∙ sym (number_newest x u n i column newest);
}

pub body_held : (x : Both) (u : Token) (n : Newest) (i : ℕ) (column : Column) (k y : ℕ) → IsNewest x u n → k ≡ raw_in n.delta.now n.row i → is_body u.table i ≡ true
    → HeldAs x u i column n.shift k → y ≡ place_moved n.shift k → IsNumberOfBoth x.chain x.first x.second u i column y
body_held x u n i column k y newest raw is held made =
    made_of x u n i column k y newest raw held (moved_body (chain_of_both x).heaps n.shift u.table i column k is ∙ sym made)

pub text_held : (x : Both) (u : Token) (n : Newest) (i : ℕ) (column : Column) (k y : ℕ) → IsNewest x u n → k ≡ raw_in n.delta.now n.row i → is_body u.table i ≡ false
    → column ≡ Text → HeldAs x u i column n.shift k → y ≡ text_moved (joined_text (chain_of_both x).heaps k) k → IsNumberOfBoth x.chain x.first x.second u i column y
text_held x u n i column k y newest raw is text held made =
    made_of x u n i column k y newest raw held (moved_text (chain_of_both x).heaps n.shift u.table i column k is text ∙ sym made)

pub other_held : (x : Both) (u : Token) (n : Newest) (i : ℕ) (column : Column) (k : ℕ) → IsNewest x u n → k ≡ raw_in n.delta.now n.row i → is_body u.table i ≡ false
    → (column ≡ Text → ⊥) → HeldAs x u i column n.shift k → IsNumberOfBoth x.chain x.first x.second u i column k
other_held x u n i column k newest raw is other held =
    made_of x u n i column k k newest raw held (moved_other (chain_of_both x).heaps n.shift u.table i column k is other)

pub number_held : (h : History) (x : Both) (u : Token) (n : Newest) (i : ℕ) (column : Column) (k : ℕ) → NumbersAreHeld → AreLast h x → IsShallow (chain_of_both x).plain → is_in_either x.first x.second u ≡ true
    → IsNewest x u n → column_in u.table i ≡ Some column → k ≡ raw_in n.delta.now n.row i → HeldAs x u i column n.shift k
number_held h x u n i column k held are shallow either newest there raw = subst (HeldAs x u i column n.shift) (sym raw) (newest_held h x u n i column held are shallow either newest there)

-- no number of a row yet, and one more
pub none_held : (x : Both) (u : Token) → FrontHeld x u 0 []
none_held x u = record { count = refl; each = λ j column n e f. absurd cc }

last_get : (xs : List ℕ) (y n i : ℕ) → slice_get (xs ++ y ∷ []) i ≡ Some n → (i ≡ length xs → ⊥) → slice_get xs i ≡ Some n
last_get [] y n zero e other = absurd (other refl)
last_get [] y n (suc i) e other = absurd cc
last_get (z ∷ xs) y n zero e other = e
last_get (z ∷ xs) y n (suc i) e other = last_get xs y n i e (λ is. other (ap suc is))

last_here : (xs : List ℕ) (y n : ℕ) → slice_get (xs ++ y ∷ []) (length xs) ≡ Some n → y ≡ n
last_here [] y n e = cc
last_here (z ∷ xs) y n e = last_here xs y n e

same_column : (t i : ℕ) (c d : Column) → column_in t i ≡ Some c → column_in t i ≡ Some d → c ≡ d
same_column t i c d e f = let g = sym e ∙ f in cc

pub more_held : (x : Both) (u : Token) (i : ℕ) (numbers new : List ℕ) (column : Column) (y : ℕ) → FrontHeld x u i numbers → column_in u.table i ≡ Some column
    → IsNumberOfBoth x.chain x.first x.second u i column y → new ≡ numbers ++ y ∷ [] → FrontHeld x u (i + 1) new
more_held x u i numbers new column y so_far here says is =
    subst (λ xs. FrontHeld x u (i + 1) xs) (sym is) (record {
      count = length-append numbers (y ∷ []) ∙ ap (λ n. n + 1) so_far.count;
      each = λ j d n at get. elim (cases_eq j (length numbers)) [
        | inl last ↦
            let k : j ≡ i = last ∙ so_far.count in
            let v : y ≡ n = last_here numbers y n (subst (λ m. slice_get (numbers ++ y ∷ []) m ≡ Some n) last get) in
            let e : column ≡ d = same_column u.table i column d here (subst (λ m. column_in u.table m ≡ Some d) k at) in
            subst (λ m. IsNumberOfBoth x.chain x.first x.second u m d n) (sym k)
            (subst (λ a. IsNumberOfBoth x.chain x.first x.second u i d a) v (subst (λ b. IsNumberOfBoth x.chain x.first x.second u i b y) e says))
        | inr before ↦ so_far.each j d n at (last_get numbers y n j get before)
      ];
    })

-- the numbers of all columns
pub row_held : (x : Both) (u : Token) (i : ℕ) (numbers : List ℕ) → FrontHeld x u i numbers → i ≡ length (columns_in u.table) → RowHeld x.chain x.first x.second u numbers
row_held x u i numbers so_far all = record { count = so_far.count ∙ all; each = λ j column n at get. so_far.each j column n at get }
