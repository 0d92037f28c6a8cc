-- Where the rows of an order stand: each row from 1 to their number once.
use Rattle.std.proofs.Common.{◌≡◌, ℕ, zero, suc, ◌+◌, ◌<◌, ◌≤◌, Bool, true, false, List, [], ◌∷◌, length, map, Some, refl, sym, ap, ◌∙◌, cond, inl, inr, arith}
use Rattle.std.specs.Prelude.{◌==◌, ◌&&◌, nat_le, nat_lt, slice_get, count_by, if◌then◌else◌}
use Rattle.std.specs.List.{range_with_len}
use Rattle.std.proofs.lemmas.Bool.{cases_lt, cases_eq}
use Rattle.std.proofs.lemmas.Bool.Decides.{nat_tests}
use Rattle.std.proofs.lemmas.Option.{slice_get_past}
use Rattle.std.proofs.lemmas.List.Sorted.{sum_by-IsPermutation, length_permutation}
use Rattle.enc_base.specs.Token.{nil, is_token}
use Rattle.enc_base.specs.declared.token.Token.{Token}
use Rattle.enc_rows.specs.Sums.{below}
use Rattle.enc_rows.proofs.Listed.{length_below}
use Rattle.enc_plain.specs.Module.{Module}
use Rattle.enc_plain.specs.Sound.{row_count}
use Rattle.enc_plain.proofs.Owned.{count_cons}
use Rattle.enc_row_order.specs.Orders.{Orders, place_behind, place_in_order, old_row, moved_by, standing_rows}
use Rattle.enc_compact.specs.Moved.{AreOrders}

-- how often a number stands among so many behind one
between : (r a n : ℕ) → cond (a + 1 == r) 1 0 + cond (nat_lt (a + 1) r && nat_le r (a + 1 + n)) 1 0 ≡ cond (nat_lt a r && nat_le r (a + suc n)) 1 0
between r a n = elim (cases_eq (a + 1) r) [
  | inl e ↦
      let here : (a + 1 == r) ≡ true = grind (arith, nat_tests) in
      let past : nat_lt (a + 1) r ≡ false = grind (arith, nat_tests) in
      let low : nat_lt a r ≡ true = grind (arith, nat_tests) in
      let high : nat_le r (a + suc n) ≡ true = grind (arith, nat_tests) in
      rw (here, past, low, high) refl
  | inr d ↦
      let other : (a + 1 == r) ≡ false = grind (arith, nat_tests) in
      let low : nat_lt (a + 1) r ≡ nat_lt a r = grind (arith, nat_tests) in
      let high : nat_le r (a + 1 + n) ≡ nat_le r (a + suc n) = grind (arith, nat_tests) in
      rw (other, low, high) (behind (cond (nat_lt a r && nat_le r (a + suc n)) 1 0))
]
  where
    behind : (n : ℕ) → 0 + n ≡ n
    behind n = omega arith

abbrev zero_count : ℕ → ℕ → ℕ
zero_count r a = cond (nat_lt a r && nat_le r (a + 0)) 1 0

none_between : (r a : ℕ) → zero ≡ zero_count r a
none_between r a = elim (cases_lt a r) [
  | inl low ↦ let high : nat_le r (a + 0) ≡ false = grind (arith, nat_tests) in let l : nat_lt a r ≡ true = grind (arith, nat_tests) in rw (l, high) refl
  | inr past ↦ let l : nat_lt a r ≡ false = grind (arith, nat_tests) in rw l refl
]

range_count : (r a n : ℕ) → count_by (λ k. k == r) (map (λ k. k + 1) (range_with_len a n)) ≡ cond (nat_lt a r && nat_le r (a + n)) 1 0
range_count r a zero = none_between r a
range_count r a (suc n) =
    count_cons (λ k. k == r) (a + 1) (map (λ k. k + 1) (range_with_len (a + 1) n))
    ∙ ap (λ c. cond (a + 1 == r) 1 0 + c) (range_count r (a + 1) n)
    ∙ between r a n

-- one where a test passes
abbrev pub once_if : Bool → ℕ
once_if b = cond b 1 0

in_range : (r n : ℕ) → once_if (nat_lt 0 r && nat_le r (0 + n)) ≡ once_if (nat_le 1 r && nat_le r n)
in_range r n =
    let e : 0 + n ≡ n = omega arith in
    let low : nat_lt 0 r ≡ nat_le 1 r = grind (arith, nat_tests) in
    rw (e, low) refl

-- each row of a table stands once among those listed
pub listed_count : (m : Module) (t r : ℕ) → count_by (λ k. k == r) (standing_rows m t) ≡ cond (nat_le 1 r && nat_le r (row_count m t)) 1 0
unfolding standing_rows below
listed_count m t r = range_count r 0 (row_count m t) ∙ in_range r (row_count m t)

pub listed_many : (m : Module) (t : ℕ) → length (standing_rows m t) ≡ row_count m t
unfolding standing_rows
listed_many m t = length_below (λ n. n + 1) (row_count m t)

-- each number from 1 to n once, and nothing else
pub record IsOrder (n : ℕ) (rows : List ℕ) : Type 0 where
  pub once : (r : ℕ) → count_by (λ k. k == r) rows ≡ cond (nat_le 1 r && nat_le r n) 1 0
  pub many : length rows ≡ n

pub is_order : (m : Module) (orders : Orders) (t : ℕ) → AreOrders m orders → IsOrder (row_count m t) (orders t)
is_order m orders t are = record {
  once = λ r. sum_by-IsPermutation (λ k. cond (k == r) 1 0) (standing_rows m t) (orders t) (are.each t) ∙ listed_count m t r;
  many = length_permutation (standing_rows m t) (orders t) (are.each t) ∙ listed_many m t;
}

-- what stands in a list is counted
pub counted : (xs : List ℕ) (k x : ℕ) → slice_get xs k ≡ Some x → 1 ≤ count_by (λ j. j == x) xs
counted [] k x e = absurd cc
counted (y ∷ ys) zero x e =
    let is : y ≡ x = cc in
    let here : (y == x) ≡ true = grind (arith, nat_tests) in
    rw (count_cons (λ j. j == x) y ys, here) (omega arith)
counted (y ∷ ys) (suc k) x e =
    let rest = counted ys k x e in
    rw (count_cons (λ j. j == x) y ys) (omega arith)

-- and what is counted stands in it
pub found : (r : ℕ) (xs : List ℕ) → 1 ≤ count_by (λ k. k == r) xs → (i : ℕ) × (slice_get xs i ≡ Some r)
found r [] h = absurd (omega arith)
found r (x ∷ xs) h = by_first (x == r) refl (rw (count_cons (λ k. k == r) x xs) at h) (found r xs)
  where
    by_first : (b : Bool) → (x == r) ≡ b → 1 ≤ cond b 1 0 + count_by (λ k. k == r) xs
        → (1 ≤ count_by (λ k. k == r) xs → (i : ℕ) × (slice_get xs i ≡ Some r)) → (i : ℕ) × (slice_get (x ∷ xs) i ≡ Some r)
    by_first true e h rest = let is : x ≡ r = grind (arith, nat_tests) in (0, ap (λ (y : ℕ). Some y) is)
    by_first false e h rest = let w = rest (omega arith) in (suc w.0, w.1)

pub in_bounds : (r n x : ℕ) → x ≡ cond (nat_le 1 r && nat_le r n) 1 0 → 1 ≤ x → (1 ≤ r) × (r ≤ n)
in_bounds zero n x e some = absurd (omega (arith, e, some))
in_bounds (suc r) n x e some = elim (cases_lt n (suc r)) [
  | inl past ↦
      let no : nat_le (suc r) n ≡ false = grind (arith, nat_tests) in
      let first : nat_le 1 (suc r) ≡ true = grind (arith, nat_tests) in
      let none : x ≡ 0 = e ∙ rw (no, first) refl in
      absurd (omega (arith, none, some))
  | inr high ↦ (omega arith, high)
]

once_one : (r n x : ℕ) → x ≡ cond (nat_le 1 r && nat_le r n) 1 0 → 1 ≤ r → r ≤ n → 1 ≤ x
once_one r n x e low high =
    let a : nat_le r n ≡ true = grind (arith, nat_tests) in
    let b : nat_le 1 r ≡ true = grind (arith, nat_tests) in
    let one : x ≡ 1 = e ∙ rw (a, b) refl in
    omega arith

few_by : (x : ℕ) (b : Bool) → x ≡ cond b 1 0 → x ≤ 1
few_by x true e = omega arith
few_by x false e = omega arith

none_of : (r n x : ℕ) → x ≡ cond (nat_le 1 r && nat_le r n) 1 0 → (1 ≤ r → n < r) → x ≡ 0
none_of r n x e out = elim (cases_lt 0 r) [
  | inl low ↦
      let past = out (omega arith) in
      let a : nat_le r n ≡ false = grind (arith, nat_tests) in
      let b : nat_le 1 r ≡ true = grind (arith, nat_tests) in
      e ∙ rw (b, a) refl
  | inr z ↦ let b : nat_le 1 r ≡ false = grind (arith, nat_tests) in e ∙ rw b refl
]

-- what stands in an order is a row
pub order_bounds : (n : ℕ) (rows : List ℕ) (i r : ℕ) → IsOrder n rows → slice_get rows i ≡ Some r → (1 ≤ r) × (r ≤ n)
order_bounds n rows i r order e = in_bounds r n (count_by (λ k. k == r) rows) (order.once r) (counted rows i r e)

-- and each row stands in it
pub order_has : (n : ℕ) (rows : List ℕ) (r : ℕ) → IsOrder n rows → 1 ≤ r → r ≤ n → (i : ℕ) × (slice_get rows i ≡ Some r)
order_has n rows r order low high = found r rows (once_one r n (count_by (λ k. k == r) rows) (order.once r) low high)

not_first : (b : Bool) (c : ℕ) → cond b 1 0 + c ≤ 1 → 1 ≤ c → b ≡ false
not_first true c le some = absurd (omega arith)
not_first false c le some = refl

first_place : (before r : ℕ) (rows : List ℕ) (i : ℕ) → count_by (λ k. k == r) rows ≤ 1 → slice_get rows i ≡ Some r
    → place_behind before rows r ≡ before + (i + 1)
unfolding place_behind
first_place before r [] i le e = absurd cc
first_place before r (x ∷ xs) zero le e =
    let is : x ≡ r = cc in
    let here : (x == r) ≡ true = grind (arith, nat_tests) in
    rw here (omega arith)
first_place before r (x ∷ xs) (suc i) le e =
    let few = rw (count_cons (λ k. k == r) x xs) at le in
    let here : (x == r) ≡ false = not_first (x == r) (count_by (λ k. k == r) xs) few (counted xs i r e) in
    let less : count_by (λ k. k == r) xs ≤ 1 = omega arith in
    let rest = first_place (before + 1) r xs i less e in
    rw here (omega arith)

no_place : (before r : ℕ) (rows : List ℕ) → count_by (λ k. k == r) rows ≡ 0 → place_behind before rows r ≡ r
unfolding place_behind
no_place before r [] h = refl
no_place before r (x ∷ xs) h = by_first (x == r) refl (rw (count_cons (λ k. k == r) x xs) at h) (no_place (before + 1) r xs)
  where
    by_first : (b : Bool) → (x == r) ≡ b → cond b 1 0 + count_by (λ k. k == r) xs ≡ 0
        → (count_by (λ k. k == r) xs ≡ 0 → place_behind (before + 1) xs r ≡ r) → (if b then before + 1 else place_behind (before + 1) xs r) ≡ r
    by_first true e h rest = absurd (omega arith)
    by_first false e h rest = rest (omega arith)

-- a row goes to where it stands in the order
pub new_at : (n : ℕ) (rows : List ℕ) (i r : ℕ) → IsOrder n rows → slice_get rows i ≡ Some r → place_in_order rows r ≡ i + 1
unfolding place_in_order
new_at n rows i r order e =
    let at = first_place 0 r rows i (few_by (count_by (λ k. k == r) rows) (nat_le 1 r && nat_le r n) (order.once r)) e in
    omega (arith, at)

-- what is no row stays
pub new_absent : (n : ℕ) (rows : List ℕ) (r : ℕ) → IsOrder n rows → (1 ≤ r → n < r) → place_in_order rows r ≡ r
unfolding place_in_order
new_absent n rows r order out = no_place 0 r rows (none_of r n (count_by (λ k. k == r) rows) (order.once r) out)

within : {A : Type 0} (xs : List A) (i : ℕ) (x : A) → slice_get xs i ≡ Some x → i < length xs
within [] i x h = absurd cc
within (y ∷ ys) zero x h = omega arith
within (y ∷ ys) (suc i) x h = omega (arith, within ys i x h)

-- a row goes to a row
pub new_bounds : (n : ℕ) (rows : List ℕ) (r : ℕ) → IsOrder n rows → 1 ≤ r → r ≤ n → (1 ≤ place_in_order rows r) × (place_in_order rows r ≤ n)
new_bounds n rows r order low high =
    let w = order_has n rows r order low high in
    let e = new_at n rows w.0 r order w.1 in
    let less = within rows w.0 r w.1 in
    let many = order.many in
    (omega arith, omega arith)

old_at : (rows : List ℕ) (i r : ℕ) → slice_get rows i ≡ Some r → old_row rows (i + 1) ≡ r
unfolding old_row
old_at rows i r e = let s : i + 1 ≡ suc i = omega arith in rw (s, e) refl

old_absent : (n : ℕ) (rows : List ℕ) (r : ℕ) → IsOrder n rows → (1 ≤ r → n < r) → old_row rows r ≡ r
unfolding old_row
old_absent n rows zero order out = refl
old_absent n rows (suc i) order out =
    let past = out (omega arith) in
    let many = order.many in
    rw (slice_get_past rows i (omega arith)) refl

pub get_within : {A : Type 0} (xs : List A) (i : ℕ) → i < length xs → (x : A) × (slice_get xs i ≡ Some x)
get_within [] i h = absurd (omega arith)
get_within (x ∷ xs) zero h = (x, refl)
get_within (x ∷ xs) (suc i) h = get_within xs i (omega arith)

-- the old row of a new one is the row itself
pub old_new : (n : ℕ) (rows : List ℕ) (r : ℕ) → IsOrder n rows → old_row rows (place_in_order rows r) ≡ r
old_new n rows r order = elim (cases_lt 0 r) [
  | inl low ↦ elim (cases_lt n r) [
    | inl past ↦ rw (new_absent n rows r order (λ l. past)) (old_absent n rows r order (λ l. past))
    | inr high ↦ let w = order_has n rows r order (omega arith) high in rw (new_at n rows w.0 r order w.1) (old_at rows w.0 r w.1)
  ]
  | inr z ↦
      let out : 1 ≤ r → n < r = λ l. absurd (omega arith) in
      rw (new_absent n rows r order out) (old_absent n rows r order out)
]

-- and the new row of the old one too
pub new_old : (n : ℕ) (rows : List ℕ) (r : ℕ) → IsOrder n rows → place_in_order rows (old_row rows r) ≡ r
new_old n rows zero order =
    let out : 1 ≤ 0 → n < 0 = λ l. absurd (omega arith) in
    rw (old_absent n rows 0 order out) (new_absent n rows 0 order out)
new_old n rows (suc i) order = elim (cases_lt i (length rows)) [
  | inl low ↦
      let w = get_within rows i low in
      let s : i + 1 ≡ suc i = omega arith in
      let old : old_row rows (suc i) ≡ w.0 = rw s at (old_at rows i w.0 w.1) in
      rw old (new_at n rows i w.0 order w.1 ∙ s)
  | inr past ↦
      let many = order.many in
      let out : 1 ≤ suc i → n < suc i = λ l. omega arith in
      rw (old_absent n rows (suc i) order out) (new_absent n rows (suc i) order out)
]

pub old_bounds : (n : ℕ) (rows : List ℕ) (r : ℕ) → IsOrder n rows → 1 ≤ r → r ≤ n → (1 ≤ old_row rows r) × (old_row rows r ≤ n)
old_bounds n rows zero order low high = absurd (omega arith)
old_bounds n rows (suc i) order low high =
    let many = order.many in
    let w = get_within rows i (omega arith) in
    let s : i + 1 ≡ suc i = omega arith in
    let old : old_row rows (suc i) ≡ w.0 = rw s at (old_at rows i w.0 w.1) in
    rw old (order_bounds n rows i w.0 order w.1)

-- the new row is one where the old one is
pub new_there : (n : ℕ) (rows : List ℕ) (r : ℕ) → IsOrder n rows → (nat_lt 0 (place_in_order rows r) && nat_le (place_in_order rows r) n) ≡ (nat_lt 0 r && nat_le r n)
new_there n rows r order = elim (cases_lt 0 r) [
  | inl low ↦ elim (cases_lt n r) [
    | inl past ↦ rw (new_absent n rows r order (λ l. past)) refl
    | inr high ↦ let b = new_bounds n rows r order (omega arith) high in same r (place_in_order rows r) low high b.0 b.1
  ]
  | inr z ↦ let out : 1 ≤ r → n < r = λ l. absurd (omega arith) in rw (new_absent n rows r order out) refl
]
  where
    same : (r s : ℕ) → 0 < r → r ≤ n → 1 ≤ s → s ≤ n → (nat_lt 0 s && nat_le s n) ≡ (nat_lt 0 r && nat_le r n)
    same r s a b c d =
        let x : nat_lt 0 s ≡ true = grind (arith, nat_tests) in
        let y : nat_le s n ≡ true = grind (arith, nat_tests) in
        let z : nat_lt 0 r ≡ true = grind (arith, nat_tests) in
        let w : nat_le r n ≡ true = grind (arith, nat_tests) in
        rw (x, y, z, w) refl

-- the new row is 0 where the old one is
pub new_zero : (n : ℕ) (rows : List ℕ) → IsOrder n rows → place_in_order rows 0 ≡ 0
new_zero n rows order = new_absent n rows 0 order (λ l. absurd (omega arith))

pub new_some : (n : ℕ) (rows : List ℕ) (r : ℕ) → IsOrder n rows → (place_in_order rows r == 0) ≡ (r == 0)
new_some n rows r order = elim (cases_lt 0 r) [
  | inl low ↦ elim (cases_lt n r) [
    | inl past ↦ rw (new_absent n rows r order (λ l. past)) refl
    | inr high ↦ let b = new_bounds n rows r order (omega arith) high in not_zero r (place_in_order rows r) low b.0
  ]
  | inr z ↦ let e : r ≡ 0 = omega arith in rw (e, new_zero n rows order) refl
]
  where
    not_zero : (r s : ℕ) → 0 < r → 1 ≤ s → (s == 0) ≡ (r == 0)
    not_zero r s a b = grind (arith, nat_tests)

-- no two rows go to one
pub new_apart : (n : ℕ) (rows : List ℕ) (r s : ℕ) → IsOrder n rows → place_in_order rows r ≡ place_in_order rows s → r ≡ s
new_apart n rows r s order e = sym (old_new n rows r order) ∙ ap (old_row rows) e ∙ old_new n rows s order

-- the row that comes to a token's place
abbrev pub before : Orders → Token → Token
before orders u = record { table = u.table; row = old_row (orders u.table) u.row }

pub moved_before : (m : Module) (orders : Orders) (u : Token) → AreOrders m orders → moved_by orders (before orders u) ≡ u
unfolding moved_by
moved_before m orders u are =
    ap (λ n. record { table = u.table; row = n }) (new_old (row_count m u.table) (orders u.table) u.row (is_order m orders u.table are))

pub before_moved : (m : Module) (orders : Orders) (t : Token) → AreOrders m orders → before orders (moved_by orders t) ≡ t
unfolding moved_by
before_moved m orders t are =
    ap (λ n. record { table = t.table; row = n }) (old_new (row_count m t.table) (orders t.table) t.row (is_order m orders t.table are))

-- no two tokens go to one
pub moved_apart : (m : Module) (orders : Orders) (t u : Token) → AreOrders m orders → moved_by orders t ≡ moved_by orders u → t ≡ u
moved_apart m orders t u are e = sym (before_moved m orders t are) ∙ ap (before orders) e ∙ before_moved m orders u are

-- the token that names nothing stays
pub nil_stays : (m : Module) (orders : Orders) → AreOrders m orders → moved_by orders nil ≡ nil
unfolding moved_by
nil_stays m orders are = ap (λ n. record { table = 0; row = n }) (new_zero (row_count m 0) (orders 0) (is_order m orders 0 are))

pub same_moved : (m : Module) (orders : Orders) (t u : Token) → AreOrders m orders → is_token (moved_by orders t) (moved_by orders u) ≡ is_token t u
unfolding moved_by
same_moved m orders t u are = by_table (t.table == u.table) refl
  where
    by_row : (table a b : ℕ) → (place_in_order (orders table) a == place_in_order (orders table) b) ≡ (a == b)
    by_row table a b = elim (cases_eq a b) [
      | inl e ↦ rw e (both b (place_in_order (orders table) b))
      | inr d ↦ other a b (place_in_order (orders table) a) (place_in_order (orders table) b) d
          (λ e. new_apart (row_count m table) (orders table) a b (is_order m orders table are) e)
    ]
      where
        both : (b c : ℕ) → (c == c) ≡ (b == b)
        both b c = grind (arith, nat_tests)

        other : (a b c d : ℕ) → (a ≡ b → ⊥) → (c ≡ d → a ≡ b) → (c == d) ≡ (a == b)
        other a b c d n h = elim (cases_eq c d) [
          | inl e ↦ absurd (n (h e))
          | inr k ↦ let x : (c == d) ≡ false = grind (arith, nat_tests) in let y : (a == b) ≡ false = grind (arith, nat_tests) in x ∙ sym y
        ]

    by_table : (b : Bool) → (t.table == u.table) ≡ b
        → (t.table == u.table && place_in_order (orders t.table) t.row == place_in_order (orders u.table) u.row) ≡ (t.table == u.table && t.row == u.row)
    by_table true e =
        let is : t.table ≡ u.table = grind (arith, nat_tests) in
        rw is (ap (λ b. (u.table == u.table) && b) (by_row u.table t.row u.row))
    by_table false e = rw e refl
