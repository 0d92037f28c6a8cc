-- What the runs of a child table name, where each of them is good.
use Rattle.std.proofs.Common.{◌≡◌, ℕ, zero, suc, ◌+◌, ◌-◌, ◌<◌, ◌≤◌, true, false, inl, inr, refl, ap, ◌∙◌, arith}
use Rattle.std.specs.Prelude.{◌||◌, ◌==◌, nat_lt, nat_le, flat_map, count_by}
use Rattle.std.specs.List.{range_with_len}
use Rattle.std.proofs.lemmas.Bool.{cases_lt}
use Rattle.std.proofs.lemmas.Bool.Decides.{nat_tests}
use Rattle.enc_schema.specs.Children.{owner_table, run_column}
use Rattle.enc_rows.specs.Sums.{below}
use Rattle.enc_rows.specs.Layout.{rows_of}
use Rattle.enc_rows.specs.Runs.{TableStream, goes_by_ptr, run_rows, run_start, named_at, children_of, all_children, times_named}
use Rattle.enc_rows.specs.Fault.{is_bad_run}
use Rattle.enc_rows.specs.Owners.{run_bound, times_from}
use Rattle.enc_rows.proofs.Runs.{telescope, flat_map_same, count_before, count_within}

-- each run of a child table is good
pub record AreGood (s : TableStream) (child : ℕ) : Type 0 where
  pub each : (n : ℕ) → n < rows_of s.layout (owner_table child) → is_bad_run s (owner_table child) (run_column child) child n ≡ false

limited : (x y : ℕ) → (x == 0 || nat_lt y x) ≡ false → x ≤ y
limited x y h = grind (arith, nat_tests)

limited_and : (x y z : ℕ) → (x == 0 || nat_lt y x || nat_lt x z) ≡ false → (x ≤ y) × (z ≤ x)
limited_and x y z h = (grind (arith, nat_tests), grind (arith, nat_tests))

run_limit : (s : TableStream) (t i c n : ℕ) → is_bad_run s t i c n ≡ false → run_start s t i n ≤ run_rows s.layout c + 1
run_limit s t i c zero h = limited _ _ h
run_limit s t i c (suc n) h = (limited_and _ _ _ h).0

run_rise : (s : TableStream) (t i c n : ℕ) → is_bad_run s t i c (suc n) ≡ false → run_start s t i n ≤ run_start s t i (suc n)
run_rise s t i c n h = (limited_and _ _ _ h).1

in_rows : (s : TableStream) (child n : ℕ) → n < rows_of s.layout (owner_table child) → run_bound s child n ≡ run_start s (owner_table child) (run_column child) n
in_rows s child n h = let e : nat_lt n (rows_of s.layout (owner_table child)) ≡ true = grind (arith, nat_tests) in rw e refl

past_rows : (s : TableStream) (child n : ℕ) → rows_of s.layout (owner_table child) ≤ n → run_bound s child n ≡ run_rows s.layout child + 1
past_rows s child n h = let e : nat_lt n (rows_of s.layout (owner_table child)) ≡ false = grind (arith, nat_tests) in rw e refl

pub bound_limit : (s : TableStream) (child n : ℕ) → AreGood s child → run_bound s child n ≤ run_rows s.layout child + 1
bound_limit s child n good = elim (cases_lt n (rows_of s.layout (owner_table child))) [
  | inl h ↦ rw (in_rows s child n h) (run_limit s _ _ child n (good.each n h))
  | inr h ↦ rw (past_rows s child n h) (omega arith)
]

three : (a b x y : ℕ) → a ≡ x → b ≡ y → x ≤ y → a ≤ b
three a b x y e f h = omega arith

-- and no run begins at 0
above : (x y : ℕ) → (x == 0 || nat_lt y x) ≡ false → 0 < x
above x y h = grind (arith, nat_tests)

pub bound_some : (s : TableStream) (child : ℕ) → AreGood s child → 0 < run_bound s child 0
bound_some s child good = elim (cases_lt 0 (rows_of s.layout (owner_table child))) [
  | inl h ↦ rw (in_rows s child 0 h) (above _ _ (good.each 0 h))
  | inr h ↦ rw (past_rows s child 0 h) (omega arith)
]

bound_rise : (s : TableStream) (child n : ℕ) → AreGood s child → n < rows_of s.layout (owner_table child) → run_bound s child n ≤ run_bound s child (n + 1)
bound_rise s child n good here = elim (cases_lt (n + 1) (rows_of s.layout (owner_table child))) [
  | inl h ↦
      let e : n + 1 ≡ suc n = omega arith in
      let next : suc n < rows_of s.layout (owner_table child) = omega arith in
      three (run_bound s child n) (run_bound s child (n + 1)) _ _ (in_rows s child n here) (ap (run_bound s child) e ∙ in_rows s child (suc n) next) (run_rise s _ _ child n (good.each (suc n) next))
  | inr h ↦ rw (past_rows s child (n + 1) h, in_rows s child n here) (run_limit s _ _ child n (good.each n here))
]

-- the n-th owner's children are those from its bound to the next one
piece_is : (s : TableStream) (child n : ℕ) → n < rows_of s.layout (owner_table child) → children_of s (owner_table child) (run_column child) child n ≡ flat_map (named_at s child) (range_with_len (run_bound s child n) (run_bound s child (n + 1) - run_bound s child n))
unfolding children_of
piece_is s child n here = rw (in_rows s child n here) refl

-- all children are those of the places from the first run on
pub all_children_are : (s : TableStream) (child : ℕ) → AreGood s child → all_children s child ≡ flat_map (named_at s child) (range_with_len (run_bound s child 0) (run_rows s.layout child + 1 - run_bound s child 0))
unfolding all_children below
all_children_are s child good =
    let n = rows_of s.layout (owner_table child) in
    let z : 0 + n ≡ n = omega arith in
    let whole = telescope (named_at s child) (children_of s (owner_table child) (run_column child) child) (run_bound s child) 0 n (λ k low high. (bound_rise s child k good (omega arith), piece_is s child k (omega arith))) in
    let last : run_bound s child (0 + n) ≡ run_rows s.layout child + 1 = past_rows s child (0 + n) (omega arith) in
    rw last at whole.0

-- so a row is named as often as they name it
pub times_are : (s : TableStream) (child row : ℕ) → AreGood s child → times_named s child row ≡ times_from s child (run_bound s child 0) (run_rows s.layout child + 1) row
unfolding times_named times_from
times_are s child row good = rw (all_children_are s child good) refl

-- without a Ptr table a row is named once where the first run begins at it or before it
pub times_direct : (s : TableStream) (child r : ℕ) → AreGood s child → goes_by_ptr s.layout child ≡ false → r ≤ run_rows s.layout child → (times_named s child r == 1) ≡ nat_le (run_bound s child 0) r
unfolding times_named named_at
times_direct s child r good direct high =
    let a = run_bound s child 0 in
    let m = run_rows s.layout child + 1 - a in
    let le : a ≤ run_rows s.layout child + 1 = bound_limit s child 0 good in
    let self : flat_map (named_at s child) (range_with_len a m) ≡ range_with_len a m = flat_map_same (named_at s child) (range_with_len a m) (λ p. rw direct refl) in
    rw (all_children_are s child good, self) (elim (cases_lt r a) [
      | inl h ↦
          let none : count_by (λ (x : ℕ). x == r) (range_with_len a m) ≡ 0 = count_before r a m h in
          let no : nat_le a r ≡ false = grind (arith, nat_tests) in
          rw (none, no) refl
      | inr h ↦
          let once : count_by (λ (x : ℕ). x == r) (range_with_len a m) ≡ 1 = count_within r a m h (omega arith) in
          let here : nat_le a r ≡ true = grind (arith, nat_tests) in
          rw (once, here) refl
    ])
