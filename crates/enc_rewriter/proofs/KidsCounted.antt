-- How many children all owners have, and which: each row of the child table once.
use Rattle.std.proofs.Common.{◌≡◌, ℕ, zero, suc, ◌+◌, ◌-◌, ◌<◌, ◌≤◌, Bool, true, false, List, [], ◌∷◌, ◌++◌, length, take, Some, refl, sym, ap, ◌∙◌, cond, inl, inr, arith}
use Rattle.std.specs.Prelude.{◌≢◌, ◌==◌, ◌&&◌, not, slice_get, flat_map, count_by, nat_le, filter}
use Rattle.std.proofs.lemmas.Bool.{cases_lt, ne_eqb}
use Rattle.std.proofs.lemmas.Bool.Decides.{nat_tests}
use Rattle.std.proofs.lemmas.List.{length-append}
use Rattle.std.proofs.lemmas.List.Sums.{sum_by-cons}
use Rattle.enc_plain.specs.Module.{Module, Row, rows_in, kids_at}
use Rattle.enc_plain.specs.Sound.{row_count, all_kids, IsOwned}
use Rattle.enc_plain.proofs.Owned.{all_kids_few}
use Rattle.enc_schema.specs.Children.{is_child_table, owner_table}
use Rattle.enc_rewriter.specs.Numbers.{run_first, kids_before}
use Rattle.enc_rewriter.proofs.KidsListed.{all_listed}
use Rattle.enc_rewriter.proofs.RunStarts.{next_run, kids_of_row}

count_cons : (p : ℕ → Bool) (x : ℕ) (xs : List ℕ) → count_by p (x ∷ xs) ≡ cond (p x) 1 0 + count_by p xs
count_cons p x xs = sum_by-cons (λ (y : ℕ). cond (p y) 1 0) x xs

-- the numbers of a list without one number
abbrev others : ℕ → List ℕ → List ℕ
others n xs = filter (λ k. not (k == n)) xs

split_step : (b : Bool) (x m : ℕ) (xs ys : List ℕ) → length xs ≡ m + length ys → suc (length xs) ≡ cond b 1 0 + m + length (cond (not b) (x ∷ ys) ys)
split_step true x m xs ys h = omega arith
split_step false x m xs ys h = omega arith

split : (n : ℕ) (xs : List ℕ) → length xs ≡ count_by (λ k. k == n) xs + length (others n xs)
split n [] = omega arith
split n (x ∷ xs) = split_step (x == n) x (count_by (λ k. k == n) xs) xs (others n xs) (split n xs) ∙ ap (λ m. m + length (others n (x ∷ xs))) (sym (count_cons (λ k. k == n) x xs))

others_step : (r n x : ℕ) (b : Bool) (ys : List ℕ) (m : ℕ) → r ≢ n → (x == n) ≡ b → count_by (λ k. k == r) ys ≡ m → count_by (λ k. k == r) (cond (not b) (x ∷ ys) ys) ≡ cond (x == r) 1 0 + m
others_step r n x true ys m d e h =
    let is : x ≡ n = grind (arith, nat_tests) in
    let other : (x == r) ≡ false = ne_eqb x r (λ f. d (omega arith)) in
    rw other (h ∙ omega arith)
others_step r n x false ys m d e h = count_cons (λ k. k == r) x ys ∙ ap (λ k. cond (x == r) 1 0 + k) h

count_others : (r n : ℕ) (xs : List ℕ) → r ≢ n → count_by (λ k. k == r) (others n xs) ≡ count_by (λ k. k == r) xs
count_others r n [] d = refl
count_others r n (x ∷ xs) d = others_step r n x (x == n) (others n xs) (count_by (λ k. k == r) xs) d refl (count_others r n xs d) ∙ sym (count_cons (λ k. k == r) x xs)

-- a list in which each number from 1 to n stands isn't shorter than n
at_least : (n : ℕ) (xs : List ℕ) → ((r : ℕ) → 1 ≤ r → r ≤ n → 1 ≤ count_by (λ k. k == r) xs) → n ≤ length xs
at_least zero xs some = omega arith
at_least (suc n) xs some =
    let here = some (suc n) (omega arith) (omega arith) in
    let rest = at_least n (others (suc n) xs) (λ r low high. rw (count_others r (suc n) xs (λ e. absurd (omega arith))) (some r low (omega arith))) in
    let whole = split (suc n) xs in
    omega arith

once_one : (r n x : ℕ) → x ≡ cond (nat_le 1 r && nat_le r n) 1 0 → 1 ≤ r → r ≤ n → x ≡ 1
once_one zero n x e low high = absurd (omega arith)
once_one (suc r) n x e low high =
    let a : nat_le (suc r) n ≡ true = grind (arith, nat_tests) in
    let b : nat_le 1 (suc r) ≡ true = grind (arith, nat_tests) in
    e ∙ rw (a, b) refl

-- a row of a child table is a child once
pub kid_once : (m : Module) (child row : ℕ) → IsOwned m → is_child_table child ≡ true → 1 ≤ row → row ≤ row_count m child → count_by (λ k. k == row) (all_kids m child) ≡ 1
kid_once m child row owned there low high = once_one row (row_count m child) _ (owned.once child row there) low high

-- all owners have as many children as the child table has rows
pub all_kids_many : (m : Module) (child : ℕ) → IsOwned m → is_child_table child ≡ true → length (all_kids m child) ≡ row_count m child
all_kids_many m child owned there =
    let few = all_kids_few m child owned there in
    let many = at_least (row_count m child) (all_kids m child) (λ r low high. let once = kid_once m child r owned there low high in omega arith) in
    omega arith

counted : (xs : List ℕ) (k x : ℕ) → slice_get xs k ≡ Some x → 1 ≤ count_by (λ j. j == x) xs
counted [] k x e = absurd cc
counted (y ∷ ys) zero x e =
    let is : y ≡ x = cc in
    let here : (y == x) ≡ true = grind (arith, nat_tests) in
    rw (count_cons (λ j. j == x) y ys, here) (omega arith)
counted (y ∷ ys) (suc k) x e =
    let rest = counted ys k x e in
    rw (count_cons (λ j. j == x) y ys) (omega arith)

in_bounds : (r n x : ℕ) → x ≡ cond (nat_le 1 r && nat_le r n) 1 0 → 1 ≤ x → (1 ≤ r) × (r ≤ n)
in_bounds zero n x e some = absurd (omega (arith, e, some))
in_bounds (suc r) n x e some = elim (cases_lt n (suc r)) [
  | inl past ↦
      let no : nat_le (suc r) n ≡ false = grind (arith, nat_tests) in
      let first : nat_le 1 (suc r) ≡ true = grind (arith, nat_tests) in
      let none : x ≡ 0 = e ∙ rw (no, first) refl in
      absurd (omega (arith, none, some))
  | inr high ↦ (omega arith, high)
]

-- a child is a row of its table
pub kid_bounds : (m : Module) (child k x : ℕ) → IsOwned m → is_child_table child ≡ true → slice_get (all_kids m child) k ≡ Some x → (1 ≤ x) × (x ≤ row_count m child)
kid_bounds m child k x owned there e = in_bounds x (row_count m child) _ (owned.once child x there) (counted (all_kids m child) k x e)

-- no run begins before 1
pub run_some : (m : Module) (child row : ℕ) → 1 ≤ run_first m child row
unfolding run_first
run_some m child row = omega arith

within : {A : Type 0} (xs : List A) (n : ℕ) (x : A) → slice_get xs n ≡ Some x → n < length xs
within [] n x e = absurd cc
within (y ∷ ys) zero x e = omega arith
within (y ∷ ys) (suc n) x e = omega (arith, within ys n x e)

-- a run begins behind that of the row before and its children
pub run_behind : (m : Module) (child n : ℕ) (r : Row) → is_child_table child ≡ true → slice_get (rows_in m (owner_table child)) n ≡ Some r
    → run_first m child (n + 1 + 1) ≡ run_first m child (n + 1) + length (kids_at r child)
run_behind m child n r there e =
    next_run m child n there (within (rows_in m (owner_table child)) n r e) ∙ ap (λ xs. run_first m child (n + 1) + length xs) (kids_of_row m child n r there e)

-- behind the last owner stands the place behind all children
pub run_last : (m : Module) (child n : ℕ) → IsOwned m → is_child_table child ≡ true → row_count m (owner_table child) ≤ n → run_first m child (n + 1) ≡ row_count m child + 1
unfolding run_first
run_last m child n owned there all =
    let b : n + 1 - 1 ≡ n = omega arith in
    let long : length (kids_before m child n) ≡ row_count m child = ap length (all_listed m child n all) ∙ all_kids_many m child owned there in
    rw (b, long) (omega arith)

front_get : (xs ys : List ℕ) (k x : ℕ) → slice_get xs k ≡ Some x → slice_get (xs ++ ys) k ≡ Some x
front_get [] ys k x e = absurd cc
front_get (z ∷ xs) ys zero x e = e
front_get (z ∷ xs) ys (suc k) x e = front_get xs ys k x e

behind_get : (xs ys : List ℕ) (k : ℕ) → slice_get (xs ++ ys) (length xs + k) ≡ slice_get ys k
behind_get [] ys k = let z : 0 + k ≡ k = omega arith in ap (slice_get ys) z
behind_get (z ∷ xs) ys k = let e : length (z ∷ xs) + k ≡ suc (length xs + k) = omega arith in ap (slice_get (z ∷ xs ++ ys)) e ∙ behind_get xs ys k

piece_get : {A : Type 0} (f : A → List ℕ) (xs : List A) (n : ℕ) (r : A) (k x : ℕ) → slice_get xs n ≡ Some r → slice_get (f r) k ≡ Some x
    → slice_get (flat_map f xs) (length (flat_map f (take n xs)) + k) ≡ Some x
piece_get f [] n r k x e get = absurd cc
piece_get f (y ∷ ys) zero r k x e get =
    let is : y ≡ r = cc in
    let z : 0 + k ≡ k = omega arith in
    ap (slice_get (f y ++ flat_map f ys)) z ∙ front_get (f y) (flat_map f ys) k x (ap (λ v. slice_get (f v) k) is ∙ get)
piece_get f (y ∷ ys) (suc n) r k x e get =
    let long : length (f y ++ flat_map f (take n ys)) + k ≡ length (f y) + (length (flat_map f (take n ys)) + k) = omega (arith, length-append (f y) (flat_map f (take n ys))) in
    ap (slice_get (f y ++ flat_map f ys)) long ∙ behind_get (f y) (flat_map f ys) (length (flat_map f (take n ys)) + k) ∙ piece_get f ys n r k x e get

-- an owner's children stand in the list of all from where its run begins
pub kid_at : (m : Module) (child n : ℕ) (r : Row) (k x : ℕ) → slice_get (rows_in m (owner_table child)) n ≡ Some r → slice_get (kids_at r child) k ≡ Some x
    → slice_get (all_kids m child) (length (kids_before m child n) + k) ≡ Some x
unfolding kids_before
kid_at m child n r k x e get = piece_get (λ (v : Row). kids_at v child) (rows_in m (owner_table child)) n r k x e get

-- the place from which it begins, counted from 1
pub run_is : (m : Module) (child n : ℕ) → run_first m child (n + 1) ≡ length (kids_before m child n) + 1
unfolding run_first
run_is m child n = let b : n + 1 - 1 ≡ n = omega arith in rw b (omega arith)
