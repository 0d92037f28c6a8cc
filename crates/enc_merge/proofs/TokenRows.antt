-- The tokens that one of the last two deltas lists, by their numbers, and their rows by tables.
use Rattle.std.proofs.Common.{◌≡◌, ℕ, zero, suc, ◌+◌, ◌-◌, ◌<◌, ◌≤◌, Bool, true, false, List, [], ◌∷◌, ◌++◌, length, map, take, get_or, refl, sym, ap, ◌∙◌, inl, inr, arith}
use Rattle.std.specs.Prelude.{◌^◌, ◌==◌, nat_lt, if◌then◌else◌}
use Rattle.std.specs.List.{list_all, list_any}
use Rattle.std.proofs.lemmas.Bool.{and_parts, cases_Bool, or_cases, or_left, or_right}
use Rattle.std.proofs.lemmas.Bool.Decides.{nat_tests}
use Rattle.std.proofs.lemmas.List.{map-append}
use Rattle.enc_base.specs.Token.{is_token, number_of, token_of}
use Rattle.enc_base.specs.declared.token.Token.{Token}
use Rattle.enc_rows.specs.Source.{Source}
use Rattle.enc_rows.specs.Sums.{below}
use Rattle.enc_rows.specs.Written.{count_at, rows_at}
use Rattle.enc_rows.proofs.Below.{all_false}
use Rattle.enc_schema.specs.Schema.{columns_in}
use Rattle.enc_plain.specs.Chain.{Chain}
use Rattle.enc_delta.specs.Delta.{listed, of_table}
use Rattle.enc_delta.specs.Rules.{stands_in}
use Rattle.enc_agg.specs.Extend.{extended}
use Rattle.enc_agg.specs.Follows.{Lands}
use Rattle.enc_agg.specs.Seen.{History}
use Rattle.enc_list_delta.proofs.WrittenSays.{token_back}
use Rattle.enc_merged_delta.specs.Held.{RowHeld}
use Rattle.enc_merged_delta.specs.Merged.{has_tokens, is_in_either, is_in_map}
use Rattle.enc_merged_delta.proofs.Among.{self}
use Rattle.enc_merged_delta.proofs.Counts.{held}
use Rattle.enc_merged_delta.proofs.MapRules.{is_apart, none_apart, others_have}
use Rattle.enc_merge.proofs.ListRows.{filter_few, take_more}
use Rattle.enc_merge.specs.Writing.{AreLast, AreOfEither, AreRowsHeld, AreTokensHeld, Both, tokens_of}

-- the token with a number that stands among those of tokens is one of them
number_back : (ts : List Token) (n : ℕ) → list_all (λ (t : Token). nat_lt t.row 0x1000000) ts ≡ true → stands_in (map number_of ts) n ≡ true → list_any (λ t. is_token t (token_of n)) ts ≡ true
number_back [] n low there = absurd cc
number_back (t ∷ ts) n low there =
    let both = and_parts (nat_lt t.row 0x1000000) (list_all (λ (u : Token). nat_lt u.row 0x1000000) ts) low in
    elim (or_cases (number_of t == n) (stands_in (map number_of ts) n) there) [
      | inl here ↦
          let is : number_of t ≡ n = grind (arith, nat_tests, here) in
          let small : t.row < 2 ^ 24 = grind (arith, nat_tests, both.0) in
          let same : t ≡ token_of n = sym (token_back t small) ∙ ap token_of is in
          or_left (is_token t (token_of n)) (list_any (λ u. is_token u (token_of n)) ts) (ap (is_token t) (sym same) ∙ self t)
      | inr behind ↦ or_right (is_token t (token_of n)) (list_any (λ u. is_token u (token_of n)) ts) (number_back ts n both.1 behind)
    ]

number_at : (ns : List ℕ) (k : ℕ) → k < length ns → stands_in ns (get_or ns k 0) ≡ true
number_at [] k low = absurd (omega (arith, low))
number_at (m ∷ ns) zero low = or_left (m == m) (stands_in ns m) (grind (arith, nat_tests))
number_at (m ∷ ns) (suc k) low = or_right (m == get_or ns k 0) (stands_in ns (get_or ns k 0)) (number_at ns k (omega (arith, low)))

pub number_lists : (h : History) (x : Both) (numbers : List ℕ) (n : ℕ) → AreLast h x → AreOfEither x.first x.second numbers → stands_in numbers n ≡ true → is_in_either x.first x.second (token_of n) ≡ true
number_lists h x numbers n are tokens there =
    elim (or_cases (stands_in (map number_of (listed x.first)) n) (stands_in (map number_of (listed x.second)) n) (sym (tokens.each n) ∙ there)) [
      | inl a ↦ or_left (is_in_map x.first (token_of n)) (is_in_map x.second (token_of n)) (number_back (listed x.first) n are.first.lands.rows a)
      | inr b ↦ or_right (is_in_map x.first (token_of n)) (is_in_map x.second (token_of n)) (number_back (listed x.second) n are.second.lands.rows b)
    ]

pub either_lists : (h : History) (x : Both) (numbers : List ℕ) (k : ℕ) (u : Token) → AreLast h x → AreOfEither x.first x.second numbers → k < length numbers
    → u ≡ token_of (get_or numbers k 0) → is_in_either x.first x.second u ≡ true
either_lists h x numbers k u are tokens low is = rw is (number_lists h x numbers (get_or numbers k 0) are tokens (number_at numbers k low))

-- its table is one that has tokens
pub record IsTokenTable (table : ℕ) : Type 0 where
  pub low : table < 0x2D
  pub has : has_tokens table ≡ true

own_table : (c : Chain) (s : Source) (u : Token) → Lands c s → is_in_map s u ≡ true → IsTokenTable u.table
own_table c s u lands there =
    let low = (held c s u lands there).table in
    record {
      low = low;
      has = elim (cases_Bool (is_apart u.table)) [
        | inl apart ↦ absurd (none_apart c s u.table u lands (omega (arith, low)) apart there refl)
        | inr other ↦ others_have u.table other
      ];
    }

pub token_table : (h : History) (x : Both) (u : Token) → AreLast h x → is_in_either x.first x.second u ≡ true → IsTokenTable u.table
token_table h x u are either = elim (or_cases (is_in_map x.first u) (is_in_map x.second u) either) [
  | inl a ↦ own_table x.chain x.first u are.first.lands a
  | inr b ↦ own_table (extended x.chain x.first) x.second u are.second.lands b
]

has_columns : ℕ → Bool
has_columns table = nat_lt 0 (length (columns_in table))

all_have : list_all has_columns (below 0x2D) ≡ true
unfolding has_columns columns_in below
all_have = refl

pub some_columns : (table : ℕ) → table < 0x2D → nat_lt 0 (length (columns_in table)) ≡ true
unfolding has_columns
some_columns table low = elim (cases_Bool (has_columns table)) [
  | inl some ↦ some
  | inr none ↦ let bad : false ≡ true = sym (all_false has_columns table 0x2D low none) ∙ all_have in absurd cc
]

-- rows held, and one more
one_held : (x : Both) (tokens : List Token) (rows : List (List ℕ)) (u : Token) (r : List ℕ) → AreRowsHeld x tokens rows → RowHeld x.chain x.first x.second u r → AreRowsHeld x (tokens ++ u ∷ []) (rows ++ r ∷ [])
unfolding AreRowsHeld
one_held x [] [] u r held more = (more, _)
one_held x (t ∷ tokens) (q ∷ rows) u r held more = (held.0, one_held x tokens rows u r held.1 more)
one_held x [] (q ∷ rows) u r held more = absurd held
one_held x (t ∷ tokens) [] u r held more = absurd held

pub as_many : (x : Both) (tokens : List Token) (rows : List (List ℕ)) → AreRowsHeld x tokens rows → length rows ≡ length tokens
unfolding AreRowsHeld
as_many x [] [] held = refl
as_many x (t ∷ tokens) (q ∷ rows) held = ap suc (as_many x tokens rows held.1)
as_many x [] (q ∷ rows) held = absurd held
as_many x (t ∷ tokens) [] held = absurd held

table_more : (table : ℕ) (ts : List Token) (u : Token) (b : Bool) → (u.table == table) ≡ b → of_table table (ts ++ u ∷ []) ≡ (if b then of_table table ts ++ u ∷ [] else of_table table ts)
table_more table [] u true is = rw is refl
table_more table [] u false is = rw is refl
table_more table (t ∷ ts) u b is = by (t.table == table) b refl (table_more table ts u b is)
  where
    by : (a d : Bool) → (t.table == table) ≡ a → of_table table (ts ++ u ∷ []) ≡ (if d then of_table table ts ++ u ∷ [] else of_table table ts)
        → of_table table ((t ∷ ts) ++ u ∷ []) ≡ (if d then of_table table (t ∷ ts) ++ u ∷ [] else of_table table (t ∷ ts))
    by true true own more = rw own (ap (λ us. t ∷ us) more)
    by true false own more = rw own (ap (λ us. t ∷ us) more)
    by false true own more = rw own more
    by false false own more = rw own more

flipped : (a b : ℕ) (d : Bool) → (a == b) ≡ d → (b == a) ≡ d
flipped a b true h = grind (arith, nat_tests, h)
flipped a b false h = grind (arith, nat_tests, h)

pub token_held : (x : Both) (tokens : List Token) (u : Token) (r : List ℕ) (old so_far new : List (List (List ℕ))) → has_tokens u.table ≡ true → AreTokensHeld x tokens old so_far → RowHeld x.chain x.first x.second u r
    → ((k : ℕ) → rows_at new k ≡ (if k == u.table then rows_at so_far k ++ r ∷ [] else rows_at so_far k)) → AreTokensHeld x (tokens ++ u ∷ []) old new
token_held x tokens u r old so_far new has held row pushed = record {
  listed = λ table own. here table (table == u.table) refl (held.listed table own);
  others = λ table apart. there table (table == u.table) refl apart (held.others table apart);
}
  where
    here : (table : ℕ) (b : Bool) → (table == u.table) ≡ b → AreRowsHeld x (of_table table tokens) (rows_at so_far table) → AreRowsHeld x (of_table table (tokens ++ u ∷ [])) (rows_at new table)
    here table true is before = rw (table_more table tokens u true (flipped table u.table true is), pushed table, is) (one_held x (of_table table tokens) (rows_at so_far table) u r before row)
    here table false is before = rw (table_more table tokens u false (flipped table u.table false is), pushed table, is) before

    there : (table : ℕ) (b : Bool) → (table == u.table) ≡ b → has_tokens table ≡ false → rows_at so_far table ≡ rows_at old table → rows_at new table ≡ rows_at old table
    there table true is apart before =
        let same : table ≡ u.table = grind (arith, nat_tests, is) in
        let bad : true ≡ false = sym has ∙ ap has_tokens (sym same) ∙ apart in absurd cc
    there table false is apart before = pushed table ∙ rw is before

-- none yet
pub no_tokens_held : (x : Both) (old : List (List (List ℕ))) → ((table : ℕ) → has_tokens table ≡ true → rows_at old table ≡ []) → AreTokensHeld x [] old old
unfolding AreRowsHeld
no_tokens_held x old none = record { listed = λ table own. rw (none table own) _; others = λ table apart. refl }

-- one number more
pub tokens_more : (numbers : List ℕ) (k : ℕ) (u : Token) → k < length numbers → u ≡ token_of (get_or numbers k 0) → tokens_of (take (k + 1) numbers) ≡ tokens_of (take k numbers) ++ u ∷ []
tokens_more numbers k u low is =
    ap tokens_of (take_more numbers k 0 low) ∙ map-append token_of (take k numbers) (get_or numbers k 0 ∷ []) ∙ ap (λ (t : Token). tokens_of (take k numbers) ++ t ∷ []) (sym is)

-- no table has more rows than there are tokens
front_few : (xs : List ℕ) (k : ℕ) → length (tokens_of (take k xs)) ≤ k
front_few [] zero = omega arith
front_few [] (suc k) = omega arith
front_few (x ∷ xs) zero = omega arith
front_few (x ∷ xs) (suc k) = let more = front_few xs k in omega (arith, more)

pub table_has_room : (x : Both) (numbers : List ℕ) (k table : ℕ) (old so_far : List (List (List ℕ))) → has_tokens table ≡ true → AreTokensHeld x (tokens_of (take k numbers)) old so_far → k < length numbers
    → length numbers < 2 ^ 24 → count_at so_far table < 2 ^ 24 - 1
table_has_room x numbers k table old so_far has held low few =
    let many = as_many x (of_table table (tokens_of (take k numbers))) (rows_at so_far table) (held.listed table has) in
    let fewer = filter_few (λ (t : Token). t.table == table) (tokens_of (take k numbers)) in
    let front = front_few numbers k in
    omega (arith, many, fewer, front, low, few)
