-- A search by halves finds what has a number, or that nothing has it.
use Rattle.std.proofs.Common.{◌≡◌, ℕ, ◌<◌, ◌≤◌, Bool, true, false, List, [], ◌∷◌, length, get_or, Option, Some, None, refl, sym, ◌∙◌, inl, inr, arith}
use Rattle.std.specs.Prelude.{◌==◌, ◌&&◌, nat_lt, position}
use Rattle.std.specs.List.{list_any}
use Rattle.std.specs.List.Sorted.{IsNonDecreasingBy, IsPartitionPoint}
use Rattle.std.proofs.lemmas.Bool.{cases_lt}
use Rattle.std.proofs.lemmas.Bool.Decides.{nat_tests}
use Rattle.std.proofs.lemmas.List.Folds.{list_any_at}
use Rattle.std.proofs.lemmas.List.Kept.{IsNonDecreasingBy-filter}
use Rattle.std.proofs.lemmas.List.Quantifiers.{position-Some}
use Rattle.std.proofs.lemmas.Option.{get_or_from_slice_get}
use Rattle.enc_base.specs.Token.{number_of, nil}
use Rattle.enc_base.specs.declared.token.Token.{Token}
use Rattle.enc_rows.specs.Layout.{rows_of}
use Rattle.enc_rows.specs.Source.{Source}
use Rattle.enc_rows.proofs.Listed.{length_below}
use Rattle.enc_plain.proofs.Columns.{both_left, both_right}
use Rattle.enc_delta.specs.Cuts.{is_number_of, IsCutBy}
use Rattle.enc_delta.specs.Delta.{map_token, map_in, listed, of_table, place_in}
use Rattle.enc_delta.specs.Seen.{IsRising}
use Rattle.enc_delta.proofs.Listed.{map_get}
use Rattle.enc_delta.proofs.ListsChildren.{two, equal, equal_is}
use Rattle.enc_delta.proofs.MembersBeside.{any_filter}
use Rattle.enc_delta.proofs.NearTwins.{where_one, iff_is}

lt_true : (n m : ℕ) → nat_lt n m ≡ true → n < m
lt_true n m e = grind (arith, nat_tests)

lt_false : (n m : ℕ) → nat_lt n m ≡ false → m ≤ n
lt_false n m e = grind (arith, nat_tests)

pub cut_at : {A : Type 0} (number : A → ℕ) (none : A) (xs : List A) (n i : ℕ) → i ≤ length xs → IsPartitionPoint (λ x. nat_lt (number x) n ≡ true) (λ x. nat_lt (number x) n ≡ false) xs i → IsCutBy number none xs n i
cut_at number none xs n i le p = record {
  within = le;
  less = λ k a. lt_true (number (get_or xs k none)) n (p.0 k none (omega arith) a);
  rest = λ k a b. lt_false (number (get_or xs k none)) n (p.1 k none a b);
}

-- what has the number stands there or behind it
found_behind : {A : Type 0} (number : A → ℕ) (none : A) (xs : List A) (n i : ℕ) → IsCutBy number none xs n i → is_number_of number xs n ≡ true → (j : ℕ) × (i ≤ j) × (j < length xs) × (number (get_or xs j none) ≡ n)
found_behind number none xs n i cut has =
    let w = where_one (λ x. number x == n) xs none has in
    let same : number (get_or xs w.0 none) ≡ n = equal _ _ w.2 in
    elim (cases_lt w.0 i) [
      | inl a ↦ let less = cut.less w.0 a in absurd (omega arith)
      | inr a ↦ (w.0, a, w.1, same)
    ]

-- past the end nothing has it
pub none_past : {A : Type 0} (number : A → ℕ) (none : A) (xs : List A) (n i : ℕ) → IsCutBy number none xs n i → length xs ≤ i → false ≡ is_number_of number xs n
none_past number none xs n i cut past = elim (two (is_number_of number xs n)) [
  | inl has ↦ let w = found_behind number none xs n i cut has in absurd (omega (arith, w.1, w.2))
  | inr fails ↦ sym fails
]

-- what stands there has it, or nothing has
pub one_there : {A : Type 0} (number : A → ℕ) (none : A) (xs : List A) (n i : ℕ) → IsNonDecreasingBy number xs → IsCutBy number none xs n i → i < length xs → (number (get_or xs i none) == n) ≡ is_number_of number xs n
one_there {A} number none xs n i sorted cut l = iff_is _ _ (λ is. list_any_at (λ x. number x == n) xs i none l is) back
  where
    back : is_number_of number xs n ≡ true → (number (get_or xs i none) == n) ≡ true
    back has =
        let w = found_behind number none xs n i cut has in
        let up = sorted i w.0 none w.1 w.2 in
        let least = cut.rest i (omega arith) l in
        equal_is _ _ (omega (arith, w.3))

-- the tokens of a map that rises stand in the order of their numbers
map_at : (s : Source) (i : ℕ) (d : Token) → i < rows_of s.layout 0x1F → get_or (map_in s) i d ≡ map_token s i
map_at s i d h = get_or_from_slice_get (map_in s) i (map_token s i) d (map_get s i h)

map_length : (s : Source) → length (map_in s) ≡ rows_of s.layout 0x1F
unfolding map_in
map_length s = length_below (map_token s) (rows_of s.layout 0x1F)

map_rises : (s : Source) → IsRising s → IsNonDecreasingBy number_of (map_in s)
map_rises s up i j d le l =
    let there : j < rows_of s.layout 0x1F = omega (arith, map_length s) in
    let first = map_at s i d (omega arith) in
    let second = map_at s j d there in
    elim (cases_lt i j) [
      | inl a ↦ let less = up i j a there in rw (first, second) (omega arith)
      | inr a ↦ let same : i ≡ j = omega arith in rw same (omega arith)
    ]

pub listed_rises : (s : Source) → IsRising s → IsNonDecreasingBy number_of (listed s)
unfolding listed
listed_rises s up = IsNonDecreasingBy-filter number_of _ (map_in s) (map_rises s up)

-- a token has no place among those none of which has its number
no_place_by : (p : Token → Bool) (ts : List Token) (o : Option ℕ) → position p ts ≡ o → list_any p ts ≡ false → o ≡ None
no_place_by p ts None e h = refl
no_place_by p ts (Some i) e h =
    let w = position-Some p ts i nil e in
    let f : false ≡ true = sym h ∙ list_any_at p ts i nil w.0 w.1 in
    absurd cc

fewer : {A : Type 0} (p q : A → Bool) (xs : List A) → ((x : A) → p x ≡ true → q x ≡ true) → list_any q xs ≡ false → list_any p xs ≡ false
fewer {A} p q xs h none = elim (two (list_any p xs)) [
  | inl is ↦
      let e : false ≡ true = sym none ∙ more xs is in
      absurd cc
  | inr fails ↦ fails
]
  where
    more : (ys : List A) → list_any p ys ≡ true → list_any q ys ≡ true
    more [] is = absurd cc
    more (y ∷ ys) is = elim (two (p y)) [
      | inl a ↦ rw (h y a) refl
      | inr a ↦ let rest = more ys (rw a at is) in elim (two (q y)) [ inl b ↦ rw b refl | inr b ↦ rw (b, rest) refl ]
    ]

same_number : (u t : Token) → (t.table == u.table && t.row == u.row) ≡ true → (number_of t == number_of u) ≡ true
same_number u t h =
    let table = equal t.table u.table (both_left (t.table == u.table) (t.row == u.row) h) in
    let row = equal t.row u.row (both_right (t.table == u.table) (t.row == u.row) h) in
    equal_is _ _ (omega (arith, table, row))

pub no_place : (tokens : List Token) (u : Token) → is_number_of number_of tokens (number_of u) ≡ false → place_in tokens u ≡ None
unfolding place_in
no_place tokens u none =
    let unlisted : list_any (λ (t : Token). t.row == u.row) (of_table u.table tokens) ≡ false = any_filter (λ (t : Token). t.table == u.table) (λ (t : Token). t.row == u.row) tokens ∙ fewer _ (λ (t : Token). number_of t == number_of u) tokens (same_number u) none in
    rw (no_place_by (λ (t : Token). t.row == u.row) (of_table u.table tokens) _ refl unlisted) refl
