-- Types in the order of their rows: one more comes in, and one is found by halves.
use Rattle.std.proofs.Common.{◌≡◌, ℕ, zero, suc, ◌+◌, ◌<◌, ◌≤◌, Bool, true, false, List, [], ◌∷◌, ◌++◌, length, take, drop, Some, get_or, refl, sym, ap, ◌∙◌, subst, ⊎_elim, arith}
use Rattle.std.specs.Prelude.{slice_get, nat_lt, ◌==◌, ◌&&◌, ◌||◌, if◌then◌else◌}
use Rattle.std.specs.List.{list_any}
use Rattle.std.specs.List.Sorted.{IsNonDecreasingBy, IsPartitionPoint}
use Rattle.std.specs.Ordering.{ordering_index, nat_cmp}
use Rattle.std.specs.declared.cmp.Ordering.TheVariants.{Less, Greater}
use Rattle.std.proofs.lemmas.Bool.{cases_lt}
use Rattle.std.proofs.lemmas.Bool.Decides.{nat_tests}
use Rattle.std.proofs.lemmas.List.{get_or_default}
use Rattle.std.proofs.lemmas.Option.{slice_get_read, slice_get_within, get_or_from_slice_get}
use Rattle.enc_base.specs.Token.{is_token, number_of}
use Rattle.enc_base.specs.declared.token.Token.{Token}
use Rattle.enc_base.specs.Tables as tables
use Rattle.enc_vm.specs.Calls.{with_type}
use Rattle.enc_vm.specs.Touched.{AreTypesFrom}

-- of two types the one with the less number has the less row
less_row : (t u : Token) → t.table ≡ tables.type_def → u.table ≡ tables.type_def → nat_lt (number_of t) (number_of u) ≡ true → t.row + 1 ≤ u.row
less_row t u a b h = grind (arith, nat_tests, a, b, h)

other_row : (t u : Token) → t.table ≡ tables.type_def → u.table ≡ tables.type_def → nat_lt (number_of t) (number_of u) ≡ false → is_token t u ≡ false
    → u.row + 1 ≤ t.row
other_row t u a b h differ = grind (arith, nat_tests, a, b, h, differ)

by_tests : (least : ℕ) (type t : Token) (rest : List Token) (a b : Bool) → nat_lt (number_of type) (number_of t) ≡ a → is_token type t ≡ b
    → type.table ≡ tables.type_def → least ≤ type.row → AreTypesFrom least (t ∷ rest)
    → (t.row + 1 ≤ type.row → AreTypesFrom (t.row + 1) (with_type type rest))
    → AreTypesFrom least (if a then type ∷ t ∷ rest else if b then t ∷ rest else t ∷ with_type type rest)
by_tests least type t rest true b e f table le all next = (table, le, (all.0, less_row type t table all.0 e, all.2))
by_tests least type t rest false true e f table le all next = all
by_tests least type t rest false false e f table le all next = (all.0, all.1, next (other_row type t table all.0 e f))

kept_from : (least : ℕ) (type : Token) (types : List Token) → type.table ≡ tables.type_def → least ≤ type.row → AreTypesFrom least types
    → AreTypesFrom least (with_type type types)
unfolding with_type
kept_from least type [] table le all = (table, le, tt)
kept_from least type (t ∷ rest) table le all =
    by_tests least type t rest (nat_lt (number_of type) (number_of t)) (is_token type t) refl refl table le all
    (λ behind. kept_from (t.row + 1) type rest table behind all.2)

-- one more type keeps the order
pub kept : (type : Token) (types : List Token) → type.table ≡ tables.type_def → AreTypesFrom 0 types → AreTypesFrom 0 (with_type type types)
kept type types table all = kept_from 0 type types table (omega arith) all

-- each is a type, at least at the first row
one_of : (least i : ℕ) (types : List Token) (t : Token) → AreTypesFrom least types → slice_get types i ≡ Some t → (t.table ≡ tables.type_def) × (least ≤ t.row)
one_of least i [] t all at = absurd cc
one_of least zero (x ∷ types) t all at =
    let e : x ≡ t = cc in subst (λ (y : Token). (y.table ≡ tables.type_def) × (least ≤ y.row)) e (all.0, all.1)
one_of least (suc i) (x ∷ types) t all at =
    let h = one_of (x.row + 1) i types t all.2 at in let k = all.1 in let r = h.1 in (h.0, omega (arith, r, k))

rising : (least : ℕ) (types : List Token) → AreTypesFrom least types → (i j : ℕ) (t u : Token) → i < j → slice_get types i ≡ Some t → slice_get types j ≡ Some u
    → t.row < u.row
rising least [] all i j t u h at behind = absurd cc
rising least (x ∷ types) all i zero t u h at behind = absurd (omega (arith, h))
rising least (x ∷ types) all zero (suc j) t u h at behind =
    let e : x ≡ t = cc in let k = (one_of (x.row + 1) j types u all.2 behind).1 in subst (λ (y : Token). y.row < u.row) e (omega (arith, k))
rising least (x ∷ types) all (suc i) (suc j) t u h at behind = rising (x.row + 1) types all.2 i j t u (omega (arith, h)) at behind

higher : (row a b : ℕ) → a ≤ b → ordering_index (nat_cmp a row) ≤ ordering_index (nat_cmp b row)
higher row a b le = grind (arith, nat_tests)

read : (types : List Token) (i : ℕ) (d : Token) → i < length types → slice_get types i ≡ Some (get_or types i d)
read types i d low =
    slice_get_read types (length types) i (get_or types i d) refl low (get_or_default types i d (get_or types i d) low)

-- a search by halves asks that rows don't fall
pub searchable : (types : List Token) (row : ℕ) → AreTypesFrom 0 types → IsNonDecreasingBy (λ (t : Token). ordering_index (nat_cmp t.row row)) types
searchable types row all i j d le low =
    ⊎_elim
    (λ lt. let up = rising 0 types all i j (get_or types i d) (get_or types j d) lt (read types i d (omega (arith, lt, low))) (read types j d low) in
    higher row (get_or types i d).row (get_or types j d).row (omega (arith, up)))
    (λ ge. let same : i ≡ j = omega (arith, le, ge) in
    subst (λ k. ordering_index (nat_cmp (get_or types i d).row row) ≤ ordering_index (nat_cmp (get_or types k d).row row)) same (omega arith))
    (cases_lt i j)

is_same : (t u : Token) → t.table ≡ tables.type_def → u.table ≡ tables.type_def → t.row ≡ u.row → is_token t u ≡ true
is_same t u a b e = grind (arith, nat_tests, a, b, e)

any_at : (token : Token) (types : List Token) (i : ℕ) (t : Token) → slice_get types i ≡ Some t → is_token t token ≡ true
    → list_any (λ (u : Token). is_token u token) types ≡ true
any_at token [] i t at is = absurd cc
any_at token (x ∷ types) zero t at is = let e : x ≡ t = cc in rw (ap (λ (u : Token). is_token u token) e ∙ is) refl
any_at token (x ∷ types) (suc i) t at is = by_first (is_token x token) (any_at token types i t at is)
  where
    by_first : (b : Bool) → list_any (λ (u : Token). is_token u token) types ≡ true
        → (b || list_any (λ (u : Token). is_token u token) types) ≡ true
    by_first true h = refl
    by_first false h = h

none_any : (token : Token) (types : List Token) → ((i : ℕ) (t : Token) → slice_get types i ≡ Some t → is_token t token ≡ false)
    → list_any (λ (u : Token). is_token u token) types ≡ false
none_any token [] none = refl
none_any token (x ∷ types) none = rw (none 0 x refl) (none_any token types (λ i t at. none (suc i) t at))

is_other : (t u : Token) (b : Bool) → (t.row == u.row) ≡ false → (b && t.row == u.row) ≡ false
is_other t u true h = h
is_other t u false h = refl

-- what stands before the place that a search names is less, and what stands from there on greater
pub not_found : (types : List Token) (token : Token) (i : ℕ) → IsPartitionPoint (λ (t : Token). nat_cmp t.row token.row ≡ Less) (λ (t : Token). nat_cmp t.row token.row ≡ Greater) types i
    → list_any (λ (u : Token). is_token u token) types ≡ false
not_found types token i parted = none_any token types (λ k t at. is_other t token (t.table == token.table) (row_of k t at))
  where
    row_of : (k : ℕ) (t : Token) → slice_get types k ≡ Some t → (t.row == token.row) ≡ false
    row_of k t at =
        let low : k < length types = slice_get_within types k t at in
        let is : get_or types k t ≡ t = get_or_from_slice_get types k t t at in
        ⊎_elim
        (λ lt. let is_less = parted.0 k t (omega arith) lt in let o : nat_cmp t.row token.row ≡ Less = ap (λ (q : Token). nat_cmp q.row token.row) (sym is) ∙ is_less in grind (arith, nat_tests, o))
        (λ ge. let is_greater = parted.1 k t ge low in let o : nat_cmp t.row token.row ≡ Greater = ap (λ (q : Token). nat_cmp q.row token.row) (sym is) ∙ is_greater in grind (arith, nat_tests, o))
        (cases_lt k i)

no_type : (t u : Token) → t.table ≡ tables.type_def → (u.table == tables.type_def) ≡ false → is_token t u ≡ false
no_type t u a other = grind (arith, nat_tests, a, other)

by_table : (types : List Token) (token : Token) (i : ℕ) (d : Token) (b : Bool) → (token.table == tables.type_def) ≡ b → AreTypesFrom 0 types → i < length types
    → (get_or types i d).row ≡ token.row → list_any (λ (u : Token). is_token u token) types ≡ b
by_table types token i d true e all low is =
    let at = read types i d low in
    let table : token.table ≡ tables.type_def = grind (arith, nat_tests, e) in
    any_at token types i (get_or types i d) at (is_same (get_or types i d) token (one_of 0 i types (get_or types i d) all at).0 table is)
by_table types token i d false e all low is = none_any token types (λ k t at. no_type t token (one_of 0 k types t all at).0 e)

-- where a search names a place, the token is there exactly where it is a type
pub found : (types : List Token) (token : Token) (i : ℕ) (d : Token) → AreTypesFrom 0 types → i < length types → (get_or types i d).row ≡ token.row
    → list_any (λ (u : Token). is_token u token) types ≡ (token.table == tables.type_def)
found types token i d all low is = by_table types token i d (token.table == tables.type_def) refl all low is

-- a type that is there comes in nowhere; another stands behind those of less rows
steps : (type t : Token) (rest : List Token) (a b : Bool) → nat_lt (number_of type) (number_of t) ≡ a → is_token type t ≡ b
    → with_type type (t ∷ rest) ≡ (if a then type ∷ t ∷ rest else if b then t ∷ rest else t ∷ with_type type rest)
unfolding with_type
steps type t rest a b e f =
    ap (λ (x : Bool). if x then type ∷ t ∷ rest else if is_token type t then t ∷ rest else t ∷ with_type type rest) e
    ∙ ap (λ (x : Bool). if a then type ∷ t ∷ rest else if x then t ∷ rest else t ∷ with_type type rest) f

before : (type t : Token) → type.table ≡ tables.type_def → t.table ≡ tables.type_def → type.row < t.row → nat_lt (number_of type) (number_of t) ≡ true
before type t a b lt = grind (arith, nat_tests, a, b, lt)

not_before : (type t : Token) → type.table ≡ tables.type_def → t.table ≡ tables.type_def → t.row ≤ type.row → nat_lt (number_of type) (number_of t) ≡ false
not_before type t a b le = grind (arith, nat_tests, a, b, le)

apart : (type t : Token) → t.row < type.row → is_token type t ≡ false
apart type t lt = grind (arith, nat_tests, lt)

stays_there : (least i : ℕ) (types : List Token) (type t : Token) → type.table ≡ tables.type_def → AreTypesFrom least types → slice_get types i ≡ Some t → t.row ≡ type.row
    → with_type type types ≡ types
stays_there least i [] type t table all at is = absurd cc
stays_there least zero (x ∷ types) type t table all at is =
    let e : x ≡ t = cc in
    let row : x.row ≡ type.row = ap (λ (y : Token). y.row) e ∙ is in
    steps type x types false true (not_before type x table all.0 (omega (arith, row))) (is_same type x table all.0 (sym row))
stays_there least (suc i) (x ∷ types) type t table all at is =
    let less : x.row + 1 ≤ t.row = (one_of (x.row + 1) i types t all.2 at).1 in
    let lt : x.row < type.row = omega (arith, less, is) in
    steps type x types false false (not_before type x table all.0 (omega (arith, lt))) (apart type x lt)
    ∙ ap (λ (l : List Token). x ∷ l) (stays_there (x.row + 1) i types type t table all.2 at is)

pub stays_at : (i : ℕ) (types : List Token) (type : Token) → type.table ≡ tables.type_def → AreTypesFrom 0 types → i < length types → (get_or types i type).row ≡ type.row
    → with_type type types ≡ types
stays_at i types type table all low is = stays_there 0 i types type (get_or types i type) table all (read types i type low) is

none_yet : (type : Token) → with_type type [] ≡ type ∷ []
unfolding with_type
none_yet type = refl

pub comes_in : (least i : ℕ) (types : List Token) (type : Token) → type.table ≡ tables.type_def → AreTypesFrom least types → i ≤ length types
    → ((k : ℕ) (t : Token) → slice_get types k ≡ Some t → k < i → t.row < type.row)
    → ((k : ℕ) (t : Token) → slice_get types k ≡ Some t → i ≤ k → type.row < t.row)
    → take i types ++ type ∷ drop i types ≡ with_type type types
comes_in least zero [] type table all le low high = sym (none_yet type)
comes_in least (suc i) [] type table all le low high = absurd (omega (arith, le))
comes_in least zero (x ∷ types) type table all le low high =
    sym (steps type x types true (is_token type x) (before type x table all.0 (high 0 x refl (omega arith))) refl)
comes_in least (suc i) (x ∷ types) type table all le low high =
    let lt = low 0 x refl (omega arith) in
    ap (λ (l : List Token). x ∷ l) (comes_in (x.row + 1) i types type table all.2 (omega (arith, le)) (λ k t at h. low (suc k) t at (omega (arith, h))) (λ k t at h. high (suc k) t at (omega (arith, h))))
    ∙ sym (steps type x types false false (not_before type x table all.0 (omega (arith, lt))) (apart type x lt))

-- so it is by a search
row_by : (types : List Token) (i k : ℕ) (t : Token) → slice_get types k ≡ Some t → get_or types k t ≡ t
row_by types i k t at = get_or_from_slice_get types k t t at

pub comes_in_parted : (types : List Token) (type : Token) (i : ℕ) → type.table ≡ tables.type_def → AreTypesFrom 0 types → i ≤ length types
    → IsPartitionPoint (λ (t : Token). nat_cmp t.row type.row ≡ Less) (λ (t : Token). nat_cmp t.row type.row ≡ Greater) types i
    → take i types ++ type ∷ drop i types ≡ with_type type types
comes_in_parted types type i table all le parted = comes_in 0 i types type table all le
    (λ k t at lt. let is_less = parted.0 k t (omega arith) lt in let o : nat_cmp t.row type.row ≡ Less = ap (λ (q : Token). nat_cmp q.row type.row) (sym (row_by types i k t at)) ∙ is_less in grind (arith, nat_tests, o))
    (λ k t at ge. let is_greater = parted.1 k t ge (slice_get_within types k t at) in let o : nat_cmp t.row type.row ≡ Greater = ap (λ (q : Token). nat_cmp q.row type.row) (sym (row_by types i k t at)) ∙ is_greater in grind (arith, nat_tests, o))
