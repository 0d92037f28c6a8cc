-- The methods that one of the last two deltas lists: the tokens of MethodDef among all that one of them lists, and few.
use Rattle.std.proofs.Common.{◌≡◌, ℕ, zero, suc, ◌+◌, ◌<◌, ◌≤◌, Bool, true, false, List, [], ◌∷◌, length, map, get_or, Option, Some, None, refl, sym, ap, subst, ◌∙◌, inl, inr, arith}
use Rattle.std.specs.Prelude.{◌^◌, ◌&&◌, ◌||◌, ◌==◌, not, min, filter, nat_lt, if◌then◌else◌}
use Rattle.std.specs.List.{list_all, range_with_len}
use Rattle.std.proofs.lemmas.Bool.{and_from, and_parts, cases_eq, eqb-true, or_cases, or_left, or_right}
use Rattle.std.proofs.lemmas.Bool.Decides.{nat_tests}
use Rattle.std.proofs.lemmas.List.Kept.{IsStrictlyIncreasing-filter}
use Rattle.enc_base.specs.Token.{nth_row, number_of, token_of}
use Rattle.enc_base.specs.declared.token.Token.{Token}
use Rattle.enc_rows.specs.Sums.{below}
use Rattle.enc_base.specs.Tables as tables
use Rattle.enc_plain.specs.Chain.{rows_before}
use Rattle.enc_plain.specs.Sound.{IsSound}
use Rattle.enc_delta.specs.Delta.{listed, of_table}
use Rattle.enc_delta.specs.Rules.{stands_in}
use Rattle.enc_delta.proofs.ListsSets.{IsLeast, Rises, apart, mismatch, mismatch_is, rises}
use Rattle.enc_agg.specs.Extend.{extended}
use Rattle.enc_agg.specs.Seen.{History}
use Rattle.enc_agg.proofs.Fitting.{count_is, has_tables}
use Rattle.enc_agg.proofs.SoundDeltas.{delta_keeps_sound}
use Rattle.enc_list_delta.proofs.WrittenSays.{token_back}
use Rattle.enc_merged_delta.specs.Merged.{is_in_either, is_in_map}
use Rattle.enc_merged_delta.proofs.Among.{number_there}
use Rattle.enc_merged_delta.proofs.Counts.{grows, held}
use Rattle.enc_merge.specs.Merges.{methods_listed}
use Rattle.enc_merge.specs.Writing.{AreLast, AreOfEither, Both, chain_of_both, tokens_of}
use Rattle.enc_merge.proofs.TokenRows.{either_lists}

-- the module after both is sound
pub after_sound : (h : History) (x : Both) → AreLast h x → IsSound (chain_of_both x).plain
after_sound h x are =
    delta_keeps_sound (extended x.chain x.first) x.second are.second_read are.second.rules (delta_keeps_sound x.chain x.first are.first_read are.first.rules are.sound)

-- a token of MethodDef that one of the two lists names one of the rows after both
pub record IsMethod (x : Both) (u : Token) : Type 0 where
  pub low : 1 ≤ u.row
  pub high : u.row ≤ rows_before (chain_of_both x) u.table

pub method_of_either : (h : History) (x : Both) (u : Token) → AreLast h x → is_in_either x.first x.second u ≡ true → IsMethod x u
method_of_either h x u are either =
    let tables = has_tables x.chain x.first are.sound.owners.tables in
    let first = count_is x.chain x.first are.sound.owners.tables are.first.lands u.table in
    let second = count_is (extended x.chain x.first) x.second tables are.second.lands u.table in
    elim (or_cases (is_in_map x.first u) (is_in_map x.second u) either) [
      | inl a ↦ let there = held x.chain x.first u are.first.lands a in record { low = there.low; high = omega (arith, there.high, first, second, grows (extended x.chain x.first) (listed x.second) u.table) }
      | inr b ↦ let there = held (extended x.chain x.first) x.second u are.second.lands b in record { low = there.low; high = omega (arith, there.high, second) }
    ]

-- two lists of rising numbers with the same numbers are the same
heads : (x y : ℕ) (xs ys : List ℕ) (b : Bool) → (x == y) ≡ b → (if b then mismatch xs ys else Some (min x y)) ≡ None → (mismatch xs ys ≡ None → xs ≡ ys) → x ∷ xs ≡ y ∷ ys
heads x y xs ys true is none later = let e : x ≡ y = eqb-true x y is in let f = later none in rw (e, f) refl
heads x y xs ys false is none later = absurd cc

no_mismatch : (xs ys : List ℕ) → mismatch xs ys ≡ None → xs ≡ ys
no_mismatch [] [] none = refl
no_mismatch [] (y ∷ ys) none = absurd cc
no_mismatch (x ∷ xs) [] none = absurd cc
no_mismatch (x ∷ xs) (y ∷ ys) none = heads x y xs ys (x == y) refl none (λ e. no_mismatch xs ys e)

not_alone : (a b : Bool) → a ≡ b → (not (a && b) && (a || b)) ≡ true → ⊥
not_alone true true same is = absurd cc
not_alone true false same is = absurd cc
not_alone false true same is = absurd cc
not_alone false false same is = absurd cc

none_least : (xs ys : List ℕ) (o : Option ℕ) → ((n : ℕ) → stands_in xs n ≡ stands_in ys n) → IsLeast (apart xs ys) o → o ≡ None
none_least xs ys None same least = refl
none_least xs ys (Some n) same least = absurd (not_alone (stands_in xs n) (stands_in ys n) (same n) least.0)

same_numbers : (xs ys : List ℕ) → Rises xs → Rises ys → ((n : ℕ) → stands_in xs n ≡ stands_in ys n) → xs ≡ ys
same_numbers xs ys a b same = no_mismatch xs ys (none_least xs ys (mismatch xs ys) same (mismatch_is xs ys a b))

both_ways : (a b : Bool) → (a ≡ true → b ≡ true) → (b ≡ true → a ≡ true) → a ≡ b
both_ways true b to from = sym (to refl)
both_ways false true to from = from refl
both_ways false false to from = refl

-- the methods of some rows that pass, by their numbers
abbrev pub rows_from : (Token → Bool) → ℕ → ℕ → List Token
rows_from p s n = filter p (map (nth_row tables.method_def) (range_with_len s n))

record IsRow (p : Token → Bool) (s n t : ℕ) : Type 0 where
  place : ℕ
  low : s ≤ place
  high : place < s + n
  here : t ≡ number_of (nth_row tables.method_def place)
  passes : p (nth_row tables.method_def place) ≡ true

row_later : (p : Token → Bool) (s n t : ℕ) → IsRow p (s + 1) n t → IsRow p s (suc n) t
row_later p s n t is = record { place = is.place; low = omega (arith, is.low); high = omega (arith, is.high); here = is.here; passes = is.passes }

row_of_number : (p : Token → Bool) (s n t : ℕ) → stands_in (map number_of (rows_from p s n)) t ≡ true → IsRow p s n t
row_of_number p s zero t there = absurd cc
row_of_number p s (suc n) t there = by (p (nth_row tables.method_def s)) refl there (λ rest. row_of_number p (s + 1) n t rest)
  where
    first : p (nth_row tables.method_def s) ≡ true → (number_of (nth_row tables.method_def s) == t) ≡ true → IsRow p s (suc n) t
    first passes is = record { place = s; low = omega arith; high = omega arith; here = sym (eqb-true (number_of (nth_row tables.method_def s)) t is); passes = passes }

    by : (b : Bool) → p (nth_row tables.method_def s) ≡ b → stands_in (map number_of (if b then nth_row tables.method_def s ∷ rows_from p (s + 1) n else rows_from p (s + 1) n)) t ≡ true
        → (stands_in (map number_of (rows_from p (s + 1) n)) t ≡ true → IsRow p (s + 1) n t) → IsRow p s (suc n) t
    by true passes there later = elim (or_cases (number_of (nth_row tables.method_def s) == t) (stands_in (map number_of (rows_from p (s + 1) n)) t) there) [
      | inl here ↦ first passes here
      | inr behind ↦ row_later p s n t (later behind)
    ]
    by false passes there later = row_later p s n t (later there)

number_of_row : (p : Token → Bool) (s n k : ℕ) → s ≤ k → k < s + n → p (nth_row tables.method_def k) ≡ true → stands_in (map number_of (rows_from p s n)) (number_of (nth_row tables.method_def k)) ≡ true
number_of_row p s zero k low high passes = absurd (omega (arith, low, high))
number_of_row p s (suc n) k low high passes =
    let t = number_of (nth_row tables.method_def k) in
    elim (cases_eq s k) [
      | inl same ↦
          let e : p (nth_row tables.method_def s) ≡ true = rw same passes in
          let f : (number_of (nth_row tables.method_def s) == t) ≡ true = grind (arith, nat_tests, same) in
          rw e (or_left (number_of (nth_row tables.method_def s) == t) (stands_in (map number_of (rows_from p (s + 1) n)) t) f)
      | inr apart ↦
          let later = number_of_row p (s + 1) n k (omega (arith, low, apart)) (omega (arith, high)) passes in
          with_first (p (nth_row tables.method_def s)) later
    ]
  where
    with_first : (b : Bool) → stands_in (map number_of (rows_from p (s + 1) n)) (number_of (nth_row tables.method_def k)) ≡ true
        → stands_in (map number_of (if b then nth_row tables.method_def s ∷ rows_from p (s + 1) n else rows_from p (s + 1) n)) (number_of (nth_row tables.method_def k)) ≡ true
    with_first true later = or_right (number_of (nth_row tables.method_def s) == number_of (nth_row tables.method_def k)) (stands_in (map number_of (rows_from p (s + 1) n)) (number_of (nth_row tables.method_def k))) later
    with_first false later = later

pub rows_rise : (p : Token → Bool) (s n : ℕ) → Rises (map number_of (rows_from p s n))
rows_rise p s zero = tt
rows_rise p s (suc n) = by (p (nth_row tables.method_def s)) (rows_rise p (s + 1) n)
  where
    by : (b : Bool) → Rises (map number_of (rows_from p (s + 1) n)) → Rises (map number_of (if b then nth_row tables.method_def s ∷ rows_from p (s + 1) n else rows_from p (s + 1) n))
    by true rest = ((λ t there. let is = row_of_number p (s + 1) n t there in omega (arith, is.low, is.here)), rest)
    by false rest = rest

-- numbers of tokens, and back
abbrev is_def : ℕ → Bool
is_def n = (token_of n).table == tables.method_def

number_back : (n : ℕ) → number_of (token_of n) ≡ n
number_back n = omega arith

tokens_kept : (numbers : List ℕ) → of_table tables.method_def (tokens_of numbers) ≡ map token_of (filter is_def numbers)
tokens_kept [] = refl
tokens_kept (n ∷ numbers) = by (is_def n) (tokens_kept numbers)
  where
    by : (b : Bool) → of_table tables.method_def (tokens_of numbers) ≡ map token_of (filter is_def numbers)
        → (if b then token_of n ∷ of_table tables.method_def (tokens_of numbers) else of_table tables.method_def (tokens_of numbers)) ≡ map token_of (if b then n ∷ filter is_def numbers else filter is_def numbers)
    by true rest = ap (λ (ts : List Token). token_of n ∷ ts) rest
    by false rest = rest

rows_back : (p : Token → Bool) (s n : ℕ) → s + n < 2 ^ 24 → map token_of (map number_of (rows_from p s n)) ≡ rows_from p s n
rows_back p s zero low = refl
rows_back p s (suc n) low = by (p (nth_row tables.method_def s)) (rows_back p (s + 1) n (omega (arith, low)))
  where
    by : (b : Bool) → map token_of (map number_of (rows_from p (s + 1) n)) ≡ rows_from p (s + 1) n
        → map token_of (map number_of (if b then nth_row tables.method_def s ∷ rows_from p (s + 1) n else rows_from p (s + 1) n)) ≡ (if b then nth_row tables.method_def s ∷ rows_from p (s + 1) n else rows_from p (s + 1) n)
    by true rest =
        let first : token_of (number_of (nth_row tables.method_def s)) ≡ nth_row tables.method_def s = token_back (nth_row tables.method_def s) (omega (arith, low)) in
        rw (first, rest) refl
    by false rest = rest

kept_stands : (numbers : List ℕ) (n : ℕ) → stands_in (filter is_def numbers) n ≡ (is_def n && stands_in numbers n)
kept_stands [] n = by (is_def n)
  where
    by : (b : Bool) → false ≡ (b && false)
    by true = refl
    by false = refl
kept_stands (m ∷ numbers) n = by (m == n) (is_def m) refl refl (is_def n) refl (kept_stands numbers n)
  where
    by : (here passes : Bool) → (m == n) ≡ here → is_def m ≡ passes → (b : Bool) → is_def n ≡ b → stands_in (filter is_def numbers) n ≡ (is_def n && stands_in numbers n)
        → stands_in (if passes then m ∷ filter is_def numbers else filter is_def numbers) n ≡ (b && (here || stands_in numbers n))
    by true true is passes b e rest = let same : m ≡ n = eqb-true m n is in let f : b ≡ true = sym e ∙ ap is_def (sym same) ∙ passes in rw (is, f) refl
    by true false is passes b e rest = let same : m ≡ n = eqb-true m n is in let f : b ≡ false = sym e ∙ ap is_def (sym same) ∙ passes in rw (rest, e, f) refl
    by false true is passes b e rest = rw (is, rest, e) refl
    by false false is passes b e rest = rw (rest, e) refl

-- a number among those of either is that of a token that one of them lists, and the other way
record IsPlaceOf (ns : List ℕ) (n : ℕ) : Type 0 where
  place : ℕ
  low : place < length ns
  here : n ≡ get_or ns place 0

place_of_number : (ns : List ℕ) (n : ℕ) → stands_in ns n ≡ true → IsPlaceOf ns n
place_of_number [] n there = absurd cc
place_of_number (m ∷ ns) n there = elim (or_cases (m == n) (stands_in ns n) there) [
  | inl here ↦ record { place = 0; low = omega arith; here = sym (eqb-true m n here) }
  | inr behind ↦ let is = place_of_number ns n behind in record { place = suc is.place; low = omega (arith, is.low); here = is.here }
]

number_listed : (h : History) (x : Both) (numbers : List ℕ) (n : ℕ) → AreLast h x → AreOfEither x.first x.second numbers → stands_in numbers n ≡ true → is_in_either x.first x.second (token_of n) ≡ true
number_listed h x numbers n are tokens there =
    let is = place_of_number numbers n there in
    either_lists h x numbers is.place (token_of n) are tokens is.low (ap token_of is.here)

listed_number : (x : Both) (numbers : List ℕ) (u : Token) → AreOfEither x.first x.second numbers → is_in_either x.first x.second u ≡ true → stands_in numbers (number_of u) ≡ true
listed_number x numbers u tokens either =
    tokens.each (number_of u) ∙ elim (or_cases (is_in_map x.first u) (is_in_map x.second u) either) [
      | inl a ↦ or_left (stands_in (map number_of (listed x.first)) (number_of u)) (stands_in (map number_of (listed x.second)) (number_of u)) (number_there (listed x.first) u a)
      | inr b ↦ or_right (stands_in (map number_of (listed x.first)) (number_of u)) (stands_in (map number_of (listed x.second)) (number_of u)) (number_there (listed x.second) u b)
    ]

-- so the methods are the tokens of MethodDef
abbrev pub methods_after : Both → ℕ
methods_after x = rows_before (chain_of_both x) tables.method_def

few_after : (h : History) (x : Both) → AreLast h x → methods_after x < 2 ^ 24
few_after h x are = (after_sound h x are).counts.few tables.method_def

def_table : (n : ℕ) → is_def n ≡ true → (token_of n).table ≡ tables.method_def
def_table n is = eqb-true (token_of n).table tables.method_def is

def_of_row : (k : ℕ) → k + 1 < 2 ^ 24 → is_def (number_of (nth_row tables.method_def k)) ≡ true
def_of_row k low = ap (λ (t : Token). t.table == tables.method_def) (token_back (nth_row tables.method_def k) low)

pub row_of_def : (t : Token) → t.table ≡ tables.method_def → 1 ≤ t.row → (k : ℕ) × ((k + 1 ≡ t.row) × (nth_row tables.method_def k ≡ t))
row_of_def t table low = by t.row refl low
  where
    by : (row : ℕ) → t.row ≡ row → 1 ≤ row → (k : ℕ) × ((k + 1 ≡ t.row) × (nth_row tables.method_def k ≡ t))
    by zero is low = absurd (omega (arith, low))
    by (suc k) is low =
        let same : k + 1 ≡ t.row = omega (arith, is) in
        let whole : record { table = tables.method_def; row = k + 1 } ≡ record { table = t.table; row = t.row } = rw (table, same) refl in
        (k, (same, whole))

kept_then : (h : History) (x : Both) (numbers : List ℕ) (n : ℕ) → AreLast h x → AreOfEither x.first x.second numbers → stands_in (filter is_def numbers) n ≡ true
    → stands_in (map number_of (rows_from (is_in_either x.first x.second) 0 (methods_after x))) n ≡ true
kept_then h x numbers n are tokens there =
    let parts = and_parts (is_def n) (stands_in numbers n) (sym (kept_stands numbers n) ∙ there) in
    let either = number_listed h x numbers n are tokens parts.1 in
    let table = def_table n parts.0 in
    let row = method_of_either h x (token_of n) are either in
    let r = row_of_def (token_of n) table row.low in
    let high : (token_of n).row ≤ methods_after x = subst (λ (t : ℕ). (token_of n).row ≤ rows_before (chain_of_both x) t) table row.high in
    let passes : is_in_either x.first x.second (nth_row tables.method_def r.0) ≡ true = ap (is_in_either x.first x.second) r.1.1 ∙ either in
    let same : number_of (nth_row tables.method_def r.0) ≡ n = ap number_of r.1.1 ∙ number_back n in
    subst (λ (t : ℕ). stands_in (map number_of (rows_from (is_in_either x.first x.second) 0 (methods_after x))) t ≡ true) same
    (number_of_row (is_in_either x.first x.second) 0 (methods_after x) r.0 (omega arith) (omega (arith, r.1.0, high)) passes)

row_then : (h : History) (x : Both) (numbers : List ℕ) (n : ℕ) → AreLast h x → AreOfEither x.first x.second numbers
    → stands_in (map number_of (rows_from (is_in_either x.first x.second) 0 (methods_after x))) n ≡ true → stands_in (filter is_def numbers) n ≡ true
row_then h x numbers n are tokens there =
    let is = row_of_number (is_in_either x.first x.second) 0 (methods_after x) n there in
    let u = nth_row tables.method_def is.place in
    let small : is_def (number_of u) ≡ true = def_of_row is.place (omega (arith, is.high, few_after h x are)) in
    let kept : stands_in (filter is_def numbers) (number_of u) ≡ true = kept_stands numbers (number_of u) ∙ and_from (is_def (number_of u)) (stands_in numbers (number_of u)) small (listed_number x numbers u tokens is.passes) in
    subst (λ (t : ℕ). stands_in (filter is_def numbers) t ≡ true) (sym is.here) kept

pub methods_are : (h : History) (x : Both) (numbers : List ℕ) → AreLast h x → AreOfEither x.first x.second numbers → of_table tables.method_def (tokens_of numbers) ≡ methods_listed x.chain x.first x.second
unfolding methods_listed below
methods_are h x numbers are tokens =
    let p = is_in_either x.first x.second in
    let same = same_numbers (filter is_def numbers) (map number_of (rows_from p 0 (methods_after x))) (rises (filter is_def numbers) (IsStrictlyIncreasing-filter is_def numbers tokens.rises)) (rows_rise p 0 (methods_after x))
    (λ n. both_ways _ _ (kept_then h x numbers n are tokens) (row_then h x numbers n are tokens)) in
    tokens_kept numbers ∙ ap (map token_of) same ∙ rows_back p 0 (methods_after x) (omega (arith, few_after h x are))

-- they are few, and so are those of them that pass a test, whose rows have three bytes
few_from : (p : Token → Bool) (s n : ℕ) → length (rows_from p s n) ≤ n
few_from p s zero = omega arith
few_from p s (suc n) = by (p (nth_row tables.method_def s)) (few_from p (s + 1) n)
  where
    by : (b : Bool) → length (rows_from p (s + 1) n) ≤ n → length (if b then nth_row tables.method_def s ∷ rows_from p (s + 1) n else rows_from p (s + 1) n) ≤ suc n
    by true rest = omega (arith, rest)
    by false rest = omega (arith, rest)

pub methods_few : (h : History) (x : Both) → AreLast h x → length (methods_listed x.chain x.first x.second) < 2 ^ 24
unfolding methods_listed below
methods_few h x are = omega (arith, few_from (is_in_either x.first x.second) 0 (methods_after x), few_after h x are)

pub fewer : (q : Token → Bool) (ts : List Token) → length (filter q ts) ≤ length ts
fewer q [] = omega arith
fewer q (t ∷ ts) = by (q t) (fewer q ts)
  where
    by : (b : Bool) → length (filter q ts) ≤ length ts → length (if b then t ∷ filter q ts else filter q ts) ≤ length (t ∷ ts)
    by true rest = omega (arith, rest)
    by false rest = omega (arith, rest)

-- those of them that pass another test
abbrev pub both : (Token → Bool) → (Token → Bool) → Token → Bool
both p q t = p t && q t

pub filtered_twice : (p q : Token → Bool) (ts : List Token) → filter q (filter p ts) ≡ filter (both p q) ts
filtered_twice p q [] = refl
filtered_twice p q (t ∷ ts) = by (p t) (q t) refl refl (filtered_twice p q ts)
  where
    by : (a b : Bool) → p t ≡ a → q t ≡ b → filter q (filter p ts) ≡ filter (both p q) ts → filter q (if a then t ∷ filter p ts else filter p ts) ≡ (if a && b then t ∷ filter (both p q) ts else filter (both p q) ts)
    by true true x y rest = rw (y, rest) refl
    by true false x y rest = rw (y, rest) refl
    by false b x y rest = rest

short_from : (p : Token → Bool) (s n : ℕ) → s + n < 2 ^ 24 → list_all (λ (r : ℕ). nat_lt r (2 ^ 24)) (map (λ (t : Token). t.row) (rows_from p s n)) ≡ true
short_from p s zero low = refl
short_from p s (suc n) low = by (p (nth_row tables.method_def s)) (short_from p (s + 1) n (omega (arith, low)))
  where
    by : (b : Bool) → list_all (λ (r : ℕ). nat_lt r (2 ^ 24)) (map (λ (t : Token). t.row) (rows_from p (s + 1) n)) ≡ true
        → list_all (λ (r : ℕ). nat_lt r (2 ^ 24)) (map (λ (t : Token). t.row) (if b then nth_row tables.method_def s ∷ rows_from p (s + 1) n else rows_from p (s + 1) n)) ≡ true
    by true rest =
        let first : nat_lt (s + 1) (2 ^ 24) ≡ true = grind (arith, nat_tests, low) in
        and_from _ _ first rest
    by false rest = rest

pub rows_are_short : (h : History) (x : Both) (q : Token → Bool) → AreLast h x → list_all (λ (r : ℕ). nat_lt r (2 ^ 24)) (map (λ (t : Token). t.row) (filter q (methods_listed x.chain x.first x.second))) ≡ true
unfolding methods_listed below
rows_are_short h x q are =
    let p = is_in_either x.first x.second in
    ap (λ (ts : List Token). list_all (λ (r : ℕ). nat_lt r (2 ^ 24)) (map (λ (t : Token). t.row) ts)) (filtered_twice p q (map (nth_row tables.method_def) (range_with_len 0 (methods_after x))))
    ∙ short_from (both p q) 0 (methods_after x) (omega (arith, few_after h x are))
