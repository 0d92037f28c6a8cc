-- A map that rises, cut by a number: those less than it stand at the front, and their count is where it is cut.
use Rattle.std.proofs.Common.{◌≡◌, ℕ, zero, suc, ◌+◌, ◌-◌, ◌*◌, ◌<◌, ◌≤◌, Bool, true, false, List, [], ◌∷◌, ◌++◌, length, drop, map, Option, Some, None, IsSome, refl, sym, ap, ◌∙◌, inl, inr, arith}
use Rattle.std.specs.Prelude.{slice_get, filter, ◌==◌, ◌&&◌, nat_lt}
use Rattle.std.specs.List.{count_by}
use Rattle.std.proofs.lemmas.Bool.{cases_lt}
use Rattle.std.proofs.lemmas.Bool.Decides.{nat_tests}
use Rattle.std.proofs.lemmas.List.Sums.{length-filter}
use Rattle.enc_base.specs.declared.token.Token.{Token}
use Rattle.enc_base.specs.Token.{number_of, nth_row, is_token}
use Rattle.enc_meta.specs.Heaps.{part}
use Rattle.enc_schema.specs.Schema.{column_in, columns_in}
use Rattle.enc_rows.specs.Sums.{below}
use Rattle.enc_rows.specs.Layout.{rows_of, raw_cell}
use Rattle.enc_rows.specs.Source.{Source}
use Rattle.enc_delta.specs.declared.open.Opened.{Opened}
use Rattle.enc_delta.specs.Delta.{map_token, is_module, map_in, listed, place_in, delta_source}
use Rattle.enc_delta.specs.Seen.{IsDeltaOpened, IsRising}
use Rattle.enc_delta.proofs.Listed.{map_none, map_get, tokens_kept, tokens_left}
use Rattle.enc_delta.proofs.Placing.{place_behind, keep, place_start, place_module, place_table, place_row, place_found, map_past}

-- EncMap has a column
pub map_column : IsSome (column_in 0x1F 0)
unfolding columns_in
map_column = refl

-- a token's number is the number that stands in the map
pub number_read : (bytes il : List ℕ) (o : Opened) (i n : ℕ) → IsDeltaOpened bytes o → raw_cell (part bytes o.tables.span) o.tables (nth_row 0x1F i) 0 ≡ Some n → number_of (map_token (delta_source bytes il o.root o.tables) i) ≡ n
unfolding map_token
number_read bytes il o i n opened e = rw (← opened.span, e) (omega arith)

-- one number more, not less than a bound past those before it
pub rise_more : (f : ℕ → ℕ) (i least n : ℕ) → ((k : ℕ) → k < i → f k < least) → ((j k : ℕ) → j < k → k < i → f j < f k) → f i ≡ n → least ≤ n → ((k : ℕ) → k < i + 1 → f k < n + 1) × ((j k : ℕ) → j < k → k < i + 1 → f j < f k)
rise_more f i least n under up e h = (
  λ k a. elim (cases_lt k i) [
    | inl b ↦ omega (arith, under k b)
    | inr b ↦ let k_is : k ≡ i = omega arith in rw k_is (omega arith)
  ],
  λ j k a b. elim (cases_lt k i) [
    | inl d ↦ up j k a d
    | inr d ↦ let k_is : k ≡ i = omega arith in rw k_is (let below_i : j < i = omega arith in omega (arith, under j below_i))
  ],
)

-- a number less than that bound isn't greater than the last before it
pub falls_back : (f : ℕ → ℕ) (i least n : ℕ) → (i ≡ 0 → least ≡ 0) → (0 < i → least ≡ f (i - 1) + 1) → f i ≡ n → n < least → ((j : ℕ) → j < i → f j < f i) → ⊥
falls_back f i least n none last e h up = elim (cases_lt 0 i) [
  | inl a ↦ let less : f (i - 1) < f i = up (i - 1) (omega arith) in omega (arith, last a)
  | inr a ↦ omega (arith, none (omega arith))
]

-- of the first n tokens, the k at the front have a number less than m, and the others haven't
pub record IsCut (f : ℕ → Token) (n m k : ℕ) : Type 0 where
  pub within : k ≤ n
  pub less : (i : ℕ) → i < k → number_of (f i) < m
  pub rest : (i : ℕ) → k ≤ i → i < n → m ≤ number_of (f i)

-- the numbers of the first n tokens rise
abbrev pub RisesTo : (ℕ → Token) → ℕ → Type 0
RisesTo f n = (i j : ℕ) → i < j → j < n → number_of (f i) < number_of (f j)

-- a list is cut in one place
not_before : (f : ℕ → Token) (n m j k : ℕ) → IsCut f n m j → IsCut f n m k → k ≤ j
not_before f n m j k a b = elim (cases_lt j k) [
  | inl h ↦ absurd (let fit : j < n = omega (arith, b.within) in let more : m ≤ number_of (f j) = a.rest j (omega arith) fit in let few : number_of (f j) < m = b.less j h in omega arith)
  | inr h ↦ h
]

cut_unique : (f : ℕ → Token) (n m j k : ℕ) → IsCut f n m j → IsCut f n m k → j ≡ k
cut_unique f n m j k a b = omega (arith, not_before f n m j k a b, not_before f n m k j b a)

abbrev is_less : ℕ → Token → Bool
is_less m t = nat_lt (number_of t) m

count_none : (p : Token → Bool) (f : ℕ → Token) → count_by p (map f (below 0)) ≡ 0
count_none p f = rw (map_none f) refl

snoc_length : (xs : List Token) (x : Token) → length (xs ++ x ∷ []) ≡ length xs + 1
snoc_length [] x = refl
snoc_length (y ∷ ys) x = omega (arith, snoc_length ys x)

count_yes : (p : Token → Bool) (f : ℕ → Token) (n : ℕ) → p (f n) ≡ true → count_by p (map f (below (n + 1))) ≡ count_by p (map f (below n)) + 1
count_yes p f n h = sym (length-filter p (map f (below (n + 1)))) ∙ ap length (tokens_kept p f n h) ∙ snoc_length (filter p (map f (below n))) (f n) ∙ ap (λ k. k + 1) (length-filter p (map f (below n)))

count_no : (p : Token → Bool) (f : ℕ → Token) (n : ℕ) → p (f n) ≡ false → count_by p (map f (below (n + 1))) ≡ count_by p (map f (below n))
count_no p f n h = sym (length-filter p (map f (below (n + 1)))) ∙ ap length (tokens_left p f n h) ∙ length-filter p (map f (below n))

-- with one token more
cut_more : (f : ℕ → Token) (n m k : ℕ) → RisesTo f (n + 1) → IsCut f n m k → number_of (f n) < m → IsCut f (n + 1) m (k + 1)
cut_more f n m k up cut h =
    let all : k ≡ n = elim (cases_lt k n) [
      | inl a ↦ absurd (let more : m ≤ number_of (f k) = cut.rest k (omega arith) a in let few : number_of (f k) < number_of (f n) = up k n a (omega arith) in omega arith)
      | inr a ↦ omega (arith, cut.within)
    ] in
    record {
      within = omega arith;
      less = λ i a. elim (cases_lt i n) [
        | inl b ↦ let few : number_of (f i) < number_of (f n) = up i n b (omega arith) in omega arith
        | inr b ↦ let i_is : i ≡ n = omega arith in rw i_is h
      ];
      rest = λ i a b. absurd (omega arith);
    }

cut_same : (f : ℕ → Token) (n m k : ℕ) → IsCut f n m k → m ≤ number_of (f n) → IsCut f (n + 1) m k
cut_same f n m k cut h = record {
  within = omega (arith, cut.within);
  less = cut.less;
  rest = λ i a b. elim (cases_lt i n) [
    | inl d ↦ cut.rest i a d
    | inr d ↦ let i_is : i ≡ n = omega arith in rw i_is h
  ];
}

cut_step : (f : ℕ → Token) (n m : ℕ) → RisesTo f (n + 1) → IsCut f n m (count_by (is_less m) (map f (below n))) → IsCut f (n + 1) m (count_by (is_less m) (map f (below (n + 1))))
cut_step f n m up cut = elim (cases_lt (number_of (f n)) m) [
  | inl h ↦ rw (count_yes (is_less m) f n (grind (arith, nat_tests))) (cut_more f n m _ up cut h)
  | inr h ↦ rw (count_no (is_less m) f n (grind (arith, nat_tests))) (cut_same f n m _ cut h)
]

-- the count of smaller numbers is where a rising list is cut
cut_from : (f : ℕ → Token) (m n : ℕ) → RisesTo f n → IsCut f n m (count_by (is_less m) (map f (below n)))
cut_from f m zero up = rw (count_none (is_less m) f) (record {
  within = omega arith;
  less = λ i a. absurd (omega arith);
  rest = λ i a b. absurd (omega arith);
})
cut_from f m (suc n) up =
    let e : suc n ≡ n + 1 = omega arith in
    rw e (cut_step f n m (λ i j a b. up i j a (omega arith)) (cut_from f m n (λ i j a b. up i j a (omega arith))))

pub cut_at : (s : Source) (m : ℕ) → IsRising s → IsCut (map_token s) (rows_of s.layout 0x1F) m (count_by (λ (t : Token). nat_lt (number_of t) m) (map_in s))
unfolding map_in
cut_at s m up = cut_from (map_token s) m (rows_of s.layout 0x1F) up

-- where it is cut is the count of smaller numbers
pub cut_is : (s : Source) (m k : ℕ) → IsRising s → IsCut (map_token s) (rows_of s.layout 0x1F) m k → k ≡ count_by (λ (t : Token). nat_lt (number_of t) m) (map_in s)
cut_is s m k up cut = cut_unique (map_token s) (rows_of s.layout 0x1F) m k _ cut (cut_at s m up)

-- the half in front of a lesser number, and the half behind one that isn't less
pub front_less : (f : ℕ → Token) (n m k : ℕ) → RisesTo f n → k < n → number_of (f k) < m → (i : ℕ) → i < k + 1 → number_of (f i) < m
front_less f n m k up there h i a = elim (cases_lt i k) [
  | inl b ↦ let few : number_of (f i) < number_of (f k) = up i k b there in omega arith
  | inr b ↦ let i_is : i ≡ k = omega arith in rw i_is h
]

pub back_rest : (f : ℕ → Token) (n m k : ℕ) → RisesTo f n → m ≤ number_of (f k) → (i : ℕ) → k ≤ i → i < n → m ≤ number_of (f i)
back_rest f n m k up h i a b = elim (cases_lt k i) [
  | inl d ↦ let few : number_of (f k) < number_of (f i) = up k i d b in omega arith
  | inr d ↦ let i_is : i ≡ k = omega arith in rw i_is h
]

pub cut_by : (s : Source) (m k : ℕ) → IsRising s → k ≡ count_by (λ (t : Token). nat_lt (number_of t) m) (map_in s) → IsCut (map_token s) (rows_of s.layout 0x1F) m k
cut_by s m k up e = rw e (cut_at s m up)

row_fits : (s : Source) (i : ℕ) → (map_token s i).row < 0x1000000
unfolding map_token
row_fits s i = omega arith

-- a token with a lesser number than all of a table is of another one
other_table : (t u : Token) → number_of t < u.table * 0x1000000 → (t.table == u.table) ≡ false
other_table t u h = let apart : t.table < u.table = omega arith in grind (arith, nat_tests)

-- a token that is of the table, in front of one that is
same_table : (t u : Token) → t.row < 0x1000000 → u.row < 0x1000000 → u.table * 0x1000000 ≤ number_of t → number_of t < number_of u → (t.table ≡ u.table) × (t.row < u.row)
same_table t u fit all from to = let e : t.table ≡ u.table = omega arith in (e, omega arith)

no_module : (t u : Token) → 0 < u.table → t.table ≡ u.table → is_module t ≡ false
no_module t u some e = let h : (t.table == 0) ≡ false = grind (arith, nat_tests) in rw h refl

-- past a token of another table
skip_step : (n i : ℕ) (s : Source) (u : Token) (o : Option ℕ) (b : Bool) → is_module (map_token s i) ≡ b → i < rows_of s.layout 0x1F → ((map_token s i).table == u.table) ≡ false → place_behind n (keep (drop i (map_in s))) u ≡ o → place_behind n (keep (drop (i + 1) (map_in s))) u ≡ o
skip_step n i s u o true m fit a h = place_module n i (map_in s) (map_token s i) u o (map_get s i fit) m h
skip_step n i s u o false m fit a h = place_table n i (map_in s) (map_token s i) u o (map_get s i fit) m a h

-- in front of a table none of its tokens stands
up_to_table : (s : Source) (u : Token) (first b : ℕ) → first ≡ u.table * 0x1000000 → IsCut (map_token s) (rows_of s.layout 0x1F) first b → (k : ℕ) → k ≤ b → place_behind 0 (keep (drop k (map_in s))) u ≡ place_in (listed s) u
up_to_table s u first b e cut zero h = place_start s u
up_to_table s u first b e cut (suc k) h =
    let next : suc k ≡ k + 1 = omega arith in
    let less : number_of (map_token s k) < first = cut.less k (omega arith) in
    rw next (skip_step 0 k s u _ (is_module (map_token s k)) refl (omega (arith, cut.within)) (other_table (map_token s k) u (rw e at less)) (up_to_table s u first b e cut k (omega arith)))

-- in a table each token in front of one is of the table too
in_table : (s : Source) (u : Token) (m first i b : ℕ) → 0 < u.table → u.row < 0x1000000 → m ≡ number_of u → first ≡ u.table * 0x1000000 → IsCut (map_token s) (rows_of s.layout 0x1F) m i → IsCut (map_token s) (rows_of s.layout 0x1F) first b → (d : ℕ) → b + d ≤ i → place_behind d (keep (drop (b + d) (map_in s))) u ≡ place_in (listed s) u
in_table s u m first i b some fit is start cut front zero h =
    let e : b + 0 ≡ b = omega arith in
    rw e (up_to_table s u first b start front b (omega arith))
in_table s u m first i b some fit is start cut front (suc d) h =
    let e : b + suc d ≡ b + d + 1 = omega arith in
    let f : suc d ≡ d + 1 = omega arith in
    let there : b + d < rows_of s.layout 0x1F = omega (arith, cut.within) in
    let less : number_of (map_token s (b + d)) < m = cut.less (b + d) (omega arith) in
    let more : first ≤ number_of (map_token s (b + d)) = front.rest (b + d) (omega arith) there in
    let same = same_table (map_token s (b + d)) u (row_fits s (b + d)) fit (rw start at more) (rw is at less) in
    let table : ((map_token s (b + d)).table == u.table) ≡ true = grind (arith, nat_tests, same.0) in
    let row : ((map_token s (b + d)).row == u.row) ≡ false = grind (arith, nat_tests, same.1) in
    rw (e, f) (place_row d (b + d) (map_in s) (map_token s (b + d)) u _ (map_get s (b + d) there) (no_module (map_token s (b + d)) u some same.0) table row (in_table s u m first i b some fit is start cut front d (omega arith)))

-- a table begins no later than one of its tokens stands
pub first_before : (s : Source) (u : Token) (m first i b : ℕ) → m ≡ number_of u → first ≡ u.table * 0x1000000 → IsCut (map_token s) (rows_of s.layout 0x1F) m i → IsCut (map_token s) (rows_of s.layout 0x1F) first b → b ≤ i
first_before s u m first i b is start cut front = elim (cases_lt i b) [
  | inl h ↦ absurd (let less : number_of (map_token s i) < first = front.less i h in let more : m ≤ number_of (map_token s i) = cut.rest i (omega arith) (omega (arith, front.within)) in omega arith)
  | inr h ↦ h
]

-- the token that stands where the map is cut by its number has its place from where its table begins
pub place_at : (s : Source) (u : Token) (m first i b : ℕ) → 0 < u.table → m ≡ number_of u → first ≡ u.table * 0x1000000 → IsCut (map_token s) (rows_of s.layout 0x1F) m i → IsCut (map_token s) (rows_of s.layout 0x1F) first b → i < rows_of s.layout 0x1F → (map_token s i).table ≡ u.table → (map_token s i).row ≡ u.row → Some (i - b + 1) ≡ place_in (listed s) u
place_at s u m first i b some is start cut front there table row =
    let at : b + (i - b) ≡ i = omega (arith, first_before s u m first i b is start cut front) in
    let fit : u.row < 0x1000000 = omega (arith, row_fits s i, row) in
    let behind = in_table s u m first i b some fit is start cut front (i - b) (omega (arith, at)) in
    place_found (i - b) i (map_in s) (map_token s i) u _ (map_get s i there) (no_module (map_token s i) u some table) (grind (arith, nat_tests, table)) (grind (arith, nat_tests, row)) (rw at at behind)

absent_step : (n : ℕ) (t u : Token) (ts : List Token) (m a b : Bool) → is_module t ≡ m → (t.table == u.table) ≡ a → (t.row == u.row) ≡ b → (a && b) ≡ false → place_behind (n + 1) (keep ts) u ≡ None → place_behind n (keep ts) u ≡ None → place_behind n (keep (t ∷ ts)) u ≡ None
absent_step n t u ts true a b m same row differ next here = rw m here
absent_step n t u ts false true true m same row differ next here = absurd cc
absent_step n t u ts false true false m same row differ next here = rw (m, same, row) next
absent_step n t u ts false false b m same row differ next here = rw (m, same) here

-- a token that no entry is has no place
absent : (n : ℕ) (ts : List Token) (u : Token) → ((k : ℕ) (t : Token) → slice_get ts k ≡ Some t → is_token t u ≡ false) → place_behind n (keep ts) u ≡ None
absent n [] u h = refl
absent n (t ∷ ts) u h =
    let later = λ (k : ℕ) (x : Token) (e : slice_get ts k ≡ Some x). h (suc k) x e in
    absent_step n t u ts (is_module t) (t.table == u.table) (t.row == u.row) refl refl refl (h zero t refl) (absent (n + 1) ts u later) (absent n ts u later)

both_false : (t u : Token) (a b : Bool) → (t.table == u.table) ≡ a → (t.row == u.row) ≡ b → (t.table ≡ u.table → t.row ≡ u.row → ⊥) → (a && b) ≡ false
both_false t u true true same row h = absurd (h (grind (arith, nat_tests, same)) (grind (arith, nat_tests, row)))
both_false t u true false same row h = refl
both_false t u false b same row h = refl

-- only where it is cut by a token's number the token can stand
only_there : (s : Source) (u : Token) (m i k : ℕ) → IsRising s → m ≡ number_of u → IsCut (map_token s) (rows_of s.layout 0x1F) m i → (i < rows_of s.layout 0x1F → (map_token s i).table ≡ u.table → (map_token s i).row ≡ u.row → ⊥) → k < rows_of s.layout 0x1F → (map_token s k).table ≡ u.table → (map_token s k).row ≡ u.row → ⊥
only_there s u m i k up is cut not_it there table row =
    let number : number_of (map_token s k) ≡ m = omega arith in
    elim (cases_lt k i) [
      | inl a ↦ let less : number_of (map_token s k) < m = cut.less k a in omega arith
      | inr a ↦ elim (cases_lt i k) [
        | inl b ↦ let more : m ≤ number_of (map_token s i) = cut.rest i (omega arith) (omega arith) in let less : number_of (map_token s i) < number_of (map_token s k) = up i k b there in omega arith
        | inr b ↦ let k_is : k ≡ i = omega arith in not_it (omega arith) (rw k_is at table) (rw k_is at row)
      ]
    ]

none_at : (s : Source) (u : Token) (m i k : ℕ) (t : Token) → IsRising s → m ≡ number_of u → IsCut (map_token s) (rows_of s.layout 0x1F) m i → (i < rows_of s.layout 0x1F → (map_token s i).table ≡ u.table → (map_token s i).row ≡ u.row → ⊥) → slice_get (map_in s) k ≡ Some t → is_token t u ≡ false
none_at s u m i k t up is cut not_it get = elim (cases_lt k (rows_of s.layout 0x1F)) [
  | inl a ↦
      let e : map_token s k ≡ t = let there = map_get s k a in cc in
      rw (← e) (both_false (map_token s k) u _ _ refl refl (only_there s u m i k up is cut not_it a))
  | inr a ↦ absurd (let none = map_past s k a in cc)
]

-- a token that doesn't stand where the map is cut by its number has no place
pub place_absent : (s : Source) (u : Token) (m i : ℕ) → IsRising s → m ≡ number_of u → IsCut (map_token s) (rows_of s.layout 0x1F) m i → (i < rows_of s.layout 0x1F → (map_token s i).table ≡ u.table → (map_token s i).row ≡ u.row → ⊥) → None ≡ place_in (listed s) u
place_absent s u m i up is cut not_it = sym (absent 0 (map_in s) u (λ k t e. none_at s u m i k t up is cut not_it e)) ∙ place_start s u
