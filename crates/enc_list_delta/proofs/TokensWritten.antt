-- The tokens of a table's rows that pass a test, in order.
use Rattle.std.proofs.Common.{◌≡◌, ℕ, zero, suc, ◌+◌, ◌*◌, ◌<◌, ◌≤◌, Bool, true, false, List, [], ◌∷◌, ◌++◌, map, Some, None, refl, sym, ap, ◌∙◌, inl, inr, subst, arith}
use Rattle.std.specs.Prelude.{slice_get, ◌||◌, ◌==◌, filter, position}
use Rattle.std.specs.List.{list_any, list_all}
use Rattle.std.proofs.lemmas.Bool.{or_left, or_right, cases_Bool, cases_eq, and_parts, or_parts, eqb-true}
use Rattle.std.proofs.lemmas.Bool.Decides.{nat_tests}
use Rattle.std.proofs.lemmas.List.Folds.{list_any-append}
use Rattle.enc_base.specs.Token.{nth_row, number_of, is_token}
use Rattle.enc_base.specs.declared.token.Token.{Token}
use Rattle.enc_plain.proofs.Owned.{position_cons}
use Rattle.enc_rows.specs.Sums.{below}
use Rattle.enc_delta.proofs.Listed.{tokens_none, tokens_kept, tokens_left, all_more}

-- the rows of a table, up to the n-th, that pass a test
abbrev pub passing : (Token → Bool) → ℕ → ℕ → List Token
passing p table n = filter p (map (nth_row table) (below n))

-- what holds of none holds of one row more, whether it passes or not
pub one_more : (P : List Token → Type 0) (p : Token → Bool) (table n : ℕ) → (p (nth_row table n) ≡ true → P (passing p table n ++ nth_row table n ∷ [])) → (p (nth_row table n) ≡ false → P (passing p table n)) → P (passing p table (suc n))
one_more P p table n more same =
    let e : suc n ≡ n + 1 = omega arith in
    rw e (elim (cases_Bool (p (nth_row table n))) [
      | inl h ↦ rw (tokens_kept p (nth_row table) n h) (more h)
      | inr h ↦ rw (tokens_left p (nth_row table) n h) (same h)
    ])

pub none_below : (P : List Token → Type 0) (p : Token → Bool) (table : ℕ) → P [] → P (passing p table 0)
none_below P p table h = rw (tokens_none p (nth_row table)) h

-- a test that all passing rows pass
pub all_passing : (p q : Token → Bool) (table n : ℕ) → ((k : ℕ) → k < n → p (nth_row table k) ≡ true → q (nth_row table k) ≡ true) → list_all q (passing p table n) ≡ true
all_passing p q table zero each = none_below (λ ts. list_all q ts ≡ true) p table refl
all_passing p q table (suc n) each =
    let before = all_passing p q table n (λ k low h. each k (omega (arith, low)) h) in
    one_more (λ ts. list_all q ts ≡ true) p table n (λ h. all_more q (passing p table n) (nth_row table n) before (each n (omega arith) h)) (λ h. before)

same_table : (table n : ℕ) → ((nth_row table n).table == table) ≡ true
same_table table n = grind (arith, nat_tests)

-- each is one of the table
pub passing_table : (p : Token → Bool) (table n : ℕ) → list_all (λ (t : Token). t.table == table) (passing p table n) ≡ true
passing_table p table n = all_passing p (λ (t : Token). t.table == table) table n (λ k low h. same_table table k)

-- where no row of the table passes there is none
pub none_passing : (p : Token → Bool) (table n : ℕ) → ((k : ℕ) → k < n → p (nth_row table k) ≡ false) → passing p table n ≡ []
none_passing p table zero none = none_below (λ ts. ts ≡ []) p table refl
none_passing p table (suc n) none =
    one_more (λ ts. ts ≡ []) p table n
    (λ h. let f : true ≡ false = sym h ∙ none n (omega arith) in absurd cc)
    (λ h. none_passing p table n (λ k low. none k (omega (arith, low))))

any_last : {X : Type 0} (q : X → Bool) (xs : List X) (x : X) → q x ≡ true → list_any q (xs ++ x ∷ []) ≡ true
any_last q xs x h = list_any-append q xs (x ∷ []) ∙ or_right (list_any q xs) (q x || false) (or_left (q x) false h)

any_before : {X : Type 0} (q : X → Bool) (xs ys : List X) → list_any q xs ≡ true → list_any q (xs ++ ys) ≡ true
any_before q xs ys h = rw (list_any-append q xs ys, h) refl

is_self : (u : Token) (n : ℕ) → u.row ≡ n + 1 → is_token (nth_row u.table n) u ≡ true
is_self u n h = grind (arith, nat_tests, h)

row_is : (u : Token) (n : ℕ) → u.row ≡ n + 1 → u ≡ nth_row u.table n
row_is u n h = ap (λ (k : ℕ). record { table = u.table; row = k }) h

-- each row that passes is there
pub passing_any : (p : Token → Bool) (u : Token) (n : ℕ) → p u ≡ true → 0 < u.row → u.row ≤ n → list_any (λ t. is_token t u) (passing p u.table n) ≡ true
passing_any p u zero h low high = absurd (omega (arith, low, high))
passing_any p u (suc n) h low high = elim (cases_eq u.row (n + 1)) [
  | inl is ↦
      let passes : p (nth_row u.table n) ≡ true = subst (λ t. p t ≡ true) (row_is u n is) h in
      one_more (λ ts. list_any (λ t. is_token t u) ts ≡ true) p u.table n
      (λ e. any_last (λ t. is_token t u) (passing p u.table n) (nth_row u.table n) (is_self u n is))
      (λ e. let f : true ≡ false = sym passes ∙ e in absurd cc)
  | inr other ↦
      let rest = passing_any p u n h low (omega (arith, high, other)) in
      one_more (λ ts. list_any (λ t. is_token t u) ts ≡ true) p u.table n
      (λ e. any_before (λ t. is_token t u) (passing p u.table n) (nth_row u.table n ∷ []) rest)
      (λ e. rest)
]

-- tokens whose numbers rise from one number and stay below another
abbrev pub Rise : ℕ → List Token → ℕ → Type 0
Rise low [] high = low ≤ high
Rise low (t ∷ ts) high = (low ≤ number_of t) × Rise (number_of t + 1) ts high

-- they do so from a lower one, and below a higher one
pub rise_from : (low less high : ℕ) (ts : List Token) → less ≤ low → Rise low ts high → Rise less ts high
rise_from low less high [] le h = omega (arith, le, h)
rise_from low less high (t ∷ ts) le h = (omega (arith, le, h.0), h.1)

pub rise_append : (low mid high : ℕ) (xs ys : List Token) → Rise low xs mid → Rise mid ys high → Rise low (xs ++ ys) high
rise_append low mid high [] ys h k = rise_from mid low high ys h k
rise_append low mid high (x ∷ xs) ys h k = (h.0, rise_append (number_of x + 1) mid high xs ys h.1 k)

pub rise_to : (low high more : ℕ) (ts : List Token) → high ≤ more → Rise low ts high → Rise low ts more
rise_to low high more [] le h = omega (arith, le, h)
rise_to low high more (t ∷ ts) le h = (h.0, rise_to (number_of t + 1) high more ts le h.1)

pub passing_rise : (p : Token → Bool) (table n : ℕ) → Rise (table * 0x1000000) (passing p table n) (table * 0x1000000 + n + 1)
passing_rise p table zero = none_below (λ ts. Rise (table * 0x1000000) ts (table * 0x1000000 + 0 + 1)) p table (omega arith)
passing_rise p table (suc n) =
    let before = passing_rise p table n in
    one_more (λ ts. Rise (table * 0x1000000) ts (table * 0x1000000 + suc n + 1)) p table n
    (λ h. rise_append (table * 0x1000000) (table * 0x1000000 + n + 1) (table * 0x1000000 + suc n + 1) (passing p table n) (nth_row table n ∷ []) before (omega arith, omega arith))
    (λ h. rise_to (table * 0x1000000) (table * 0x1000000 + n + 1) (table * 0x1000000 + suc n + 1) (passing p table n) (omega arith) before)

-- none of them is below where they begin
rise_least : (low high : ℕ) (ts : List Token) (k : ℕ) (u : Token) → Rise low ts high → slice_get ts k ≡ Some u → low ≤ number_of u
rise_least low high [] k u h e = absurd cc
rise_least low high (t ∷ ts) zero u h e = let is : t ≡ u = cc in rw (← is) h.0
rise_least low high (t ∷ ts) (suc k) u h e = let w = rise_least (number_of t + 1) high ts k u h.1 e in omega (arith, w, h.0)

-- what passes a test that all pass
pub one_of : {X : Type 0} (q : X → Bool) (xs : List X) (k : ℕ) (x : X) → list_all q xs ≡ true → slice_get xs k ≡ Some x → q x ≡ true
one_of q [] k x all e = absurd cc
one_of q (y ∷ ys) zero x all e = let is : y ≡ x = cc in rw (← is) ((and_parts (q y) (list_all q ys) all).0)
one_of q (y ∷ ys) (suc k) x all e = one_of q ys k x (and_parts (q y) (list_all q ys) all).1 e

-- the tokens of one table have their places
pub place_rising : (low high table : ℕ) (ts : List Token) (k : ℕ) (u : Token) → Rise low ts high → list_all (λ (t : Token). t.table == table) ts ≡ true → slice_get ts k ≡ Some u → position (λ (t : Token). t.row == u.row) ts ≡ Some k
place_rising low high table [] k u h all e = absurd cc
place_rising low high table (t ∷ ts) zero u h all e =
    let is : t ≡ u = cc in
    let here : (t.row == u.row) ≡ true = rw is (grind (arith, nat_tests)) in
    position_cons (λ (v : Token). v.row == u.row) t ts ∙ (rw here refl)
place_rising low high table (t ∷ ts) (suc k) u h all e =
    let two = and_parts (t.table == table) (list_all (λ (v : Token). v.table == table) ts) all in
    let past = rise_least (number_of t + 1) high ts k u h.1 e in
    let own : t.table ≡ table = eqb-true t.table table two.0 in
    let its : u.table ≡ table = eqb-true u.table table (one_of (λ (v : Token). v.table == table) ts k u two.1 e) in
    let less : t.row < u.row = omega (arith, past, own, its) in
    let here : (t.row == u.row) ≡ false = grind (arith, nat_tests, less) in
    position_cons (λ (v : Token). v.row == u.row) t ts ∙ (rw (here, place_rising (number_of t + 1) high table ts k u h.1 two.1 e) refl)

pub no_place : {X : Type 0} (q : X → Bool) (xs : List X) → list_any q xs ≡ false → position q xs ≡ None
no_place q [] none = refl
no_place q (x ∷ xs) none =
    let two = or_parts (q x) (list_any q xs) none in
    position_cons q x xs ∙ (rw (two.0, no_place q xs two.1) refl)
