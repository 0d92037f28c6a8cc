-- Counting what Ptr rows name.
use Rattle.std.proofs.Common.{◌≡◌, ℕ, zero, suc, ◌+◌, ◌-◌, ◌<◌, ◌≤◌, Bool, true, false, cond, List, length, get_or, replicate, refl, sym, ap, ◌∙◌, arith}
use Rattle.std.specs.Prelude.{Some, ◌==◌, if◌then◌else◌, count_by}
use Rattle.std.proofs.lemmas.Bool.Decides.{nat_tests}
use Rattle.std.proofs.lemmas.List.{length-replicate, get_or-replicate}
use Rattle.enc_schema.specs.Children.{ptr_of}
use Rattle.enc_rows.specs.Layout.{rows_of, raw_cell}
use Rattle.enc_rows.specs.Runs.{TableStream, raw_number, goes_by_ptr, by_ptr, named_at}
use Rattle.enc_rows.specs.Owners.{times_from, few, one_more}
use Rattle.enc_rows.proofs.Runs.{count_more}

-- no place names nothing
pub times_none : (s : TableStream) (child first row : ℕ) → times_from s child first first row ≡ 0
unfolding times_from
times_none s child first row = let z : first - first ≡ 0 = omega arith in rw z refl

times_more : (s : TableStream) (child first p row : ℕ) → first ≤ p → times_from s child first (p + 1) row ≡ times_from s child first p row + count_by (λ (r : ℕ). r == row) (named_at s child p)
unfolding times_from
times_more s child first p row le =
    let e : p + 1 - first ≡ p - first + 1 = omega arith in
    let f : first + (p - first) ≡ p = omega arith in
    rw e (count_more (named_at s child) (λ (r : ℕ). r == row) first (p - first) ∙ rw f refl)

by_ptr_counts : (r n : ℕ) → count_by (λ (x : ℕ). x == n + 1) (by_ptr r) ≡ (if r == n + 1 then 1 else 0)
by_ptr_counts zero n = let no : (0 == n + 1) ≡ false = grind (arith, nat_tests) in rw no refl
by_ptr_counts (suc r) n = let z : (0 + cond (suc r == n + 1) 1 0) ≡ cond (suc r == n + 1) 1 0 = omega arith in z

few_more : (n : ℕ) → one_more (few n) ≡ few (n + 1)
few_more zero = refl
few_more (suc zero) = refl
few_more (suc (suc n)) = let e : suc (suc n) + 1 ≡ suc (suc (suc n)) = omega arith in rw e refl

few_by : (b : Bool) (n : ℕ) → (if b then one_more (few n) else few n) ≡ few (n + (if b then 1 else 0))
few_by true n = few_more n
few_by false n = let e : n + 0 ≡ n = omega arith in rw e refl

-- 1 is once
pub few_once : (n : ℕ) → (few n == 1) ≡ (n == 1)
few_once zero = refl
few_once (suc zero) = refl
few_once (suc (suc n)) = let no : (suc (suc n) == 1) ≡ false = grind (arith, nat_tests) in rw no refl

-- one Ptr row more
pub times_step : (s : TableStream) (child first p n r old new : ℕ) → first ≤ p → goes_by_ptr s.layout child ≡ true → raw_number s (record { table = ptr_of child; row = p }) 0 ≡ r → old ≡ few (times_from s child first p (n + 1)) → new ≡ (if r == n + 1 then one_more old else old) → new ≡ few (times_from s child first (p + 1) (n + 1))
unfolding named_at
times_step s child first p n r old new le ptr read before after =
    let t = times_from s child first p (n + 1) in
    let names : named_at s child p ≡ by_ptr r = rw (ptr, read) refl in
    let more : times_from s child first (p + 1) (n + 1) ≡ t + (if r == n + 1 then 1 else 0) = times_more s child first p (n + 1) le ∙ ap (λ xs. t + count_by (λ (x : ℕ). x == n + 1) xs) names ∙ ap (λ k. t + k) (by_ptr_counts r n) in
    after ∙ ap (λ o. if r == n + 1 then one_more o else o) before ∙ few_by (r == n + 1) t ∙ ap (λ k. few k) (sym more)

-- at first nothing is counted
pub times_init : (s : TableStream) (child first k : ℕ) (xs : List ℕ) → xs ≡ replicate k 0 → k ≡ rows_of s.layout child → (length xs ≡ rows_of s.layout child) × ((n : ℕ) → n < rows_of s.layout child → get_or xs n 0 ≡ few (times_from s child first first (n + 1)))
times_init s child first k xs is rows = (
  ap length is ∙ length-replicate k 0 ∙ rows,
  λ n lt. ap (λ ys. get_or ys n 0) is ∙ get_or-replicate k n 0 0 (omega arith) ∙ ap few (sym (times_none s child first (n + 1))),
)

-- a number that is read is the one in the cell
pub cell_is : (s : TableStream) (table ptr p n : ℕ) → table ≡ ptr → raw_cell s.stream s.layout (record { table = table; row = p }) 0 ≡ Some n → raw_number s (record { table = ptr; row = p }) 0 ≡ n
cell_is s table ptr p n same read = rw (← same, read) refl
