-- Orders of a table's rows: each stands once, and children keep to their owners.
use Rattle.std.proofs.Common.{◌≡◌, ℕ, zero, suc, ◌+◌, ◌<◌, ◌≤◌, ◌^◌, Bool, true, false, List, [], ◌∷◌, ◌++◌, length, map, get_or, take, cond, Some, refl, sym}
use Rattle.std.proofs.Common.{ap, subst, ◌∙◌, arith, append_assoc}
use Rattle.std.specs.Prelude.{◌==◌, ◌&&◌, ◌||◌, not, nat_le, nat_lt, slice_get, flat_map, count_by, sum_by, if◌then◌else◌}
use Rattle.std.specs.List.{list_all, list_any}
use Rattle.std.specs.List.Sorted.{IsPermutation}
use Rattle.std.proofs.lemmas.Bool.{and_parts, eq-eqb, eqb-true}
use Rattle.std.proofs.lemmas.Bool.Decides.{nat_tests}
use Rattle.std.proofs.lemmas.List.{append-nil}
use Rattle.std.proofs.lemmas.List.Sums.{sum_by-cons}
use Rattle.std.proofs.lemmas.List.Sorted.{IsPermutation-refl, IsPermutation-cons, IsPermutation-trans, IsPermutation-sym, IsPermutation-middle}
use Rattle.std.proofs.lemmas.List.Sorted.{length_permutation, sum_by-IsPermutation, list_any-IsPermutation}
use Rattle.enc_base.specs.Token.{nth_row}
use Rattle.enc_plain.specs.Module.{Module, Row, rows_in, row_at, row_of, has_row, kids_at, kids_of, kids_with}
use Rattle.enc_plain.specs.Sound.{IsSound, row_count, all_kids, IsOwned}
use Rattle.enc_plain.proofs.Owned.{count_cons, count_append}
use Rattle.enc_rows.specs.Sums.{below}
use Rattle.enc_rows.proofs.Listed.{length_below}
use Rattle.enc_schema.specs.Children.{is_child_table, owner_table}
use Rattle.enc_row_order.specs.Orders.{standing_rows, kids_listed}
use Rattle.enc_row_order.specs.Places.{is_row_within}
use Rattle.enc_row_order.proofs.Rowed.{more_mapped}

-- a list without the first of a number
abbrev without : ℕ → List ℕ → List ℕ
without x [] = []
without x (y ∷ ys) = if y == x then ys else y ∷ without x ys

front : (x : ℕ) (ys : List ℕ) → 1 ≤ count_by (λ j. j == x) ys → IsPermutation ys (x ∷ without x ys)
front x [] some = absurd (omega (arith, some))
front x (y ∷ ys) some = by (y == x) refl (λ e. front x ys e)
  where
    by : (b : Bool) → (y == x) ≡ b → (1 ≤ count_by (λ j. j == x) ys → IsPermutation ys (x ∷ without x ys))
        → IsPermutation (y ∷ ys) (x ∷ (if b then ys else y ∷ without x ys))
    by true e later = let same : y ≡ x = eqb-true y x e in rw same (IsPermutation-refl (x ∷ ys))
    by false e later =
        let few : count_by (λ j. j == x) (y ∷ ys) ≡ cond false 1 0 + count_by (λ j. j == x) ys =
        count_cons (λ j. j == x) y ys ∙ ap (λ (b : Bool). cond b 1 0 + count_by (λ j. j == x) ys) e in
        IsPermutation-trans _ _ _ (IsPermutation-cons y _ _ (later (omega (arith, some, few)))) (IsPermutation-middle (y ∷ []) x (without x ys))

-- lists that have each number equally often have the same elements
pub same_counts : (xs ys : List ℕ) → ((k : ℕ) → count_by (λ j. j == k) xs ≡ count_by (λ j. j == k) ys) → IsPermutation xs ys
same_counts [] [] same = IsPermutation-refl []
same_counts [] (y ∷ ys) same =
    let here : (y == y) ≡ true = eq-eqb y y refl in
    let many : count_by (λ j. j == y) (y ∷ ys) ≡ 1 + count_by (λ j. j == y) ys =
    count_cons (λ j. j == y) y ys ∙ ap (λ (b : Bool). cond b 1 0 + count_by (λ j. j == y) ys) here in
    absurd (omega (arith, same y, many))
same_counts (x ∷ xs) ys same =
    let here : (x == x) ≡ true = eq-eqb x x refl in
    let many : count_by (λ j. j == x) (x ∷ xs) ≡ 1 + count_by (λ j. j == x) xs =
    count_cons (λ j. j == x) x xs ∙ ap (λ (b : Bool). cond b 1 0 + count_by (λ j. j == x) xs) here in
    let moved : IsPermutation ys (x ∷ without x ys) = front x ys (omega (arith, same x, many)) in
    let rest : IsPermutation xs (without x ys) = same_counts xs (without x ys) (λ k.
    let a = count_cons (λ j. j == k) x xs in
    let b = count_cons (λ j. j == k) x (without x ys) in
    let c : count_by (λ j. j == k) (x ∷ without x ys) ≡ count_by (λ j. j == k) ys = sum_by-IsPermutation (λ j. cond (j == k) 1 0) ys (x ∷ without x ys) moved in
    omega (arith, a, b, c, same k)) in
    IsPermutation-trans _ _ _ (IsPermutation-cons x _ _ rest) (IsPermutation-sym _ _ moved)

-- the rows of a table have each number up to their count once
once_more : (k n : ℕ) → cond (nat_le 1 k && nat_le k n) 1 0 + cond (n + 1 == k) 1 0 ≡ cond (nat_le 1 k && nat_le k (n + 1)) 1 0
once_more k n = grind (arith, nat_tests)

count_upto : (k n : ℕ) → count_by (λ j. j == k) (map (λ i. i + 1) (below n)) ≡ cond (nat_le 1 k && nat_le k n) 1 0
unfolding below
count_upto k zero = none k
  where
    none : (k : ℕ) → zero ≡ cond (nat_le 1 k && nat_le k 0) 1 0
    none zero = refl
    none (suc k) = let no : nat_le (suc k) 0 ≡ false = grind (arith, nat_tests) in rw no (by (nat_le 1 (suc k)))
      where
        by : (b : Bool) → zero ≡ cond (b && false) 1 0
        by true = refl
        by false = refl
count_upto k (suc n) =
    let e : n + 1 ≡ suc n = omega arith in
    let more : map (λ i. i + 1) (below (n + 1)) ≡ map (λ i. i + 1) (below n) ++ (n + 1) ∷ [] = sym (more_mapped (λ i. i + 1) n) in
    let one : count_by (λ j. j == k) ((n + 1) ∷ []) ≡ cond (n + 1 == k) 1 0 = count_cons (λ j. j == k) (n + 1) [] ∙ omega arith in
    subst (λ i. count_by (λ j. j == k) (map (λ i. i + 1) (below i)) ≡ cond (nat_le 1 k && nat_le k i) 1 0) e
    (ap (count_by (λ j. j == k)) more ∙ count_append (λ j. j == k) (map (λ i. i + 1) (below n)) ((n + 1) ∷ [])
    ∙ ap (λ a. a + count_by (λ j. j == k) ((n + 1) ∷ [])) (count_upto k n) ∙ ap (λ a. cond (nat_le 1 k && nat_le k n) 1 0 + a) one ∙ once_more k n)

-- owners in another order have the same children
count_each : (k : ℕ) (f : ℕ → List ℕ) (xs : List ℕ) → count_by (λ j. j == k) (flat_map f xs) ≡ sum_by (λ x. count_by (λ j. j == k) (f x)) xs
count_each k f [] = refl
count_each k f (x ∷ xs) =
    count_append (λ j. j == k) (f x) (flat_map f xs) ∙ ap (λ n. count_by (λ j. j == k) (f x) + n) (count_each k f xs)
    ∙ sym (sum_by-cons (λ y. count_by (λ j. j == k) (f y)) x xs)

flat_same : (f : ℕ → List ℕ) (xs ys : List ℕ) (k : ℕ) → IsPermutation xs ys → count_by (λ j. j == k) (flat_map f xs) ≡ count_by (λ j. j == k) (flat_map f ys)
flat_same f xs ys k moved =
    count_each k f xs ∙ sym (sum_by-IsPermutation (λ x. count_by (λ j. j == k) (f x)) xs ys moved) ∙ sym (count_each k f ys)

-- all owners as they stand have all children
some_there : {A : Type 0} (xs : List A) (n : ℕ) → n < length xs → (x : A) × (slice_get xs n ≡ Some x)
some_there [] n low = absurd (omega (arith, low))
some_there (x ∷ xs) zero low = (x, refl)
some_there (x ∷ xs) (suc n) low = some_there xs n (omega (arith, low))

kids_if : (m : Module) (t child n : ℕ) (r : Row) (a b : Bool) → is_child_table child ≡ a → (t == owner_table child) ≡ b → a ≡ true → t ≡ owner_table child
    → slice_get (rows_in m t) n ≡ Some r → (if a && b then kids_with (row_at (rows_in m t) (suc n)) child else []) ≡ kids_at r child
kids_if m t child n r true true a b c d e = rw e refl
kids_if m t child n r true false a b c d e = let same : (t == owner_table child) ≡ true = grind (arith, nat_tests) in absurd cc
kids_if m t child n r false b a2 b2 c d e = absurd cc

kids_of_row : (m : Module) (child n : ℕ) (r : Row) → is_child_table child ≡ true → slice_get (rows_in m (owner_table child)) n ≡ Some r
    → kids_of m (nth_row (owner_table child) n) child ≡ kids_at r child
unfolding kids_of row_of
kids_of_row m child n r there e =
    let s : n + 1 ≡ suc n = omega arith in
    rw s (kids_if m (owner_table child) child n r (is_child_table child) (owner_table child == owner_table child) refl refl there refl e)

flat_more : {A : Type 0} (f : A → List ℕ) (xs : List A) (n : ℕ) (x : A) → slice_get xs n ≡ Some x → flat_map f (take (suc n) xs) ≡ flat_map f (take n xs) ++ f x
flat_more f [] n x e = absurd cc
flat_more {A} f (y ∷ ys) zero x e =
    let is : y ≡ x = cc in
    rw is (append-nil (f x))
flat_more f (y ∷ ys) (suc n) x e = ap (λ zs. f y ++ zs) (flat_more f ys n x e) ∙ sym (append_assoc (f y) (flat_map f (take n ys)) (f x))

flat_last : (f : ℕ → List ℕ) (xs : List ℕ) (x : ℕ) → flat_map f (xs ++ x ∷ []) ≡ flat_map f xs ++ f x
flat_last f [] x = append-nil (f x)
flat_last f (y ∷ ys) x = ap (λ zs. f y ++ zs) (flat_last f ys x) ∙ sym (append_assoc (f y) (flat_map f ys) (f x))

take_whole : {A : Type 0} (xs : List A) (n : ℕ) → length xs ≤ n → take n xs ≡ xs
take_whole [] zero le = refl
take_whole [] (suc n) le = refl
take_whole (x ∷ xs) zero le = absurd (omega (arith, le))
take_whole (x ∷ xs) (suc n) le = ap (λ ys. x ∷ ys) (take_whole xs n (omega (arith, le)))

module _ (m : Module) (child : ℕ) (there : is_child_table child ≡ true) where
  kids_upto : (n : ℕ) → n ≤ row_count m (owner_table child)
      → flat_map (λ row. kids_of m (record { table = owner_table child; row = row }) child) (map (λ i. i + 1) (below n))
      ≡ flat_map (λ (r : Row). kids_at r child) (take n (rows_in m (owner_table child)))
  unfolding below
  kids_upto zero low = refl
  kids_upto (suc n) low =
      let e : suc n ≡ n + 1 = omega arith in
      let x = some_there (rows_in m (owner_table child)) n (omega (arith, low)) in
      let more : map (λ i. i + 1) (below (suc n)) ≡ map (λ i. i + 1) (below n) ++ (n + 1) ∷ [] =
      ap (λ k. map (λ i. i + 1) (below k)) e ∙ sym (more_mapped (λ i. i + 1) n) in
      ap (flat_map (λ row. kids_of m (record { table = owner_table child; row = row }) child)) more
      ∙ flat_last (λ row. kids_of m (record { table = owner_table child; row = row }) child) (map (λ i. i + 1) (below n)) (n + 1)
      ∙ ap (λ xs. xs ++ kids_of m (nth_row (owner_table child) n) child) (kids_upto n (omega (arith, low)))
      ∙ ap (λ xs. flat_map (λ (r : Row). kids_at r child) (take n (rows_in m (owner_table child))) ++ xs) (kids_of_row m child n x.0 there x.1)
      ∙ sym (flat_more (λ (r : Row). kids_at r child) (rows_in m (owner_table child)) n x.0 x.1)

  all_listed : kids_listed m (standing_rows m (owner_table child)) child ≡ all_kids m child
  unfolding kids_listed standing_rows
  all_listed =
      kids_upto (row_count m (owner_table child)) (omega arith)
      ∙ ap (flat_map (λ (r : Row). kids_at r child)) (take_whole (rows_in m (owner_table child)) (row_count m (owner_table child)) (omega arith))

  rows_count : (k : ℕ) → count_by (λ j. j == k) (standing_rows m child) ≡ cond (nat_le 1 k && nat_le k (row_count m child)) 1 0
  unfolding standing_rows
  rows_count k = count_upto k (row_count m child)

  flat : (owners : List ℕ) (k : ℕ) → IsPermutation (standing_rows m (owner_table child)) owners
      → count_by (λ j. j == k) (kids_listed m (standing_rows m (owner_table child)) child) ≡ count_by (λ j. j == k) (kids_listed m owners child)
  unfolding kids_listed
  flat owners k moved = flat_same (λ row. kids_of m (record { table = owner_table child; row = row }) child) (standing_rows m (owner_table child)) owners k moved

  -- so their children are the rows of the child table, each once
  pub kids_permute : (owners : List ℕ) → IsOwned m → IsPermutation (standing_rows m (owner_table child)) owners
      → IsPermutation (standing_rows m child) (kids_listed m owners child)
  kids_permute owners owned moved = same_counts (standing_rows m child) (kids_listed m owners child) (λ k.
      rows_count k ∙ sym (owned.once child k there) ∙ sym (ap (count_by (λ j. j == k)) all_listed) ∙ flat owners k moved)

-- an order of rows is a list of rows, as long as the table
all_any : (p : ℕ → Bool) (xs : List ℕ) → list_all p xs ≡ not (list_any (λ x. not (p x)) xs)
all_any p [] = refl
all_any p (x ∷ xs) = by (p x) (all_any p xs)
  where
    by : (b : Bool) → list_all p xs ≡ not (list_any (λ y. not (p y)) xs) → (b && list_all p xs) ≡ not (not b || list_any (λ y. not (p y)) xs)
    by true rest = rest
    by false rest = refl

all_permuted : (p : ℕ → Bool) (xs ys : List ℕ) → IsPermutation xs ys → list_all p xs ≡ list_all p ys
all_permuted p xs ys moved = all_any p xs ∙ ap not (list_any-IsPermutation (λ x. not (p x)) xs ys moved) ∙ sym (all_any p ys)

all_upto : (k n : ℕ) → n ≤ k → list_all (is_row_within k) (map (λ i. i + 1) (below n)) ≡ true
unfolding below
all_upto k zero low = refl
all_upto k (suc n) low =
    let e : suc n ≡ n + 1 = omega arith in
    let here : is_row_within k (n + 1) ≡ true = grind (arith, nat_tests) in
    ap (λ j. list_all (is_row_within k) (map (λ i. i + 1) (below j))) e ∙ ap (list_all (is_row_within k)) (sym (more_mapped (λ i. i + 1) n))
    ∙ all_last (is_row_within k) (map (λ i. i + 1) (below n)) (n + 1) (all_upto k n (omega (arith, low))) here
  where
    all_last : (p : ℕ → Bool) (xs : List ℕ) (x : ℕ) → list_all p xs ≡ true → p x ≡ true → list_all p (xs ++ x ∷ []) ≡ true
    all_last p [] x all e = rw e refl
    all_last p (y ∷ ys) x all e =
        let both = and_parts (p y) (list_all p ys) all in
        rw both.0 (all_last p ys x both.1 e)

pub rows_fit : (m : Module) (table : ℕ) (rows : List ℕ) → IsPermutation (standing_rows m table) rows → list_all (is_row_within (row_count m table)) rows ≡ true
unfolding standing_rows
rows_fit m table rows moved =
    sym (all_permuted (is_row_within (row_count m table)) (standing_rows m table) rows moved) ∙ all_upto (row_count m table) (row_count m table) (omega arith)

pub rows_long : (m : Module) (table : ℕ) (rows : List ℕ) → IsPermutation (standing_rows m table) rows → length rows ≡ row_count m table
unfolding standing_rows
rows_long m table rows moved = length_permutation (standing_rows m table) rows moved ∙ length_below (λ n. n + 1) (row_count m table)

pub rows_fit_all : (m : Module) (table : ℕ) (rows : List ℕ) → IsPermutation (standing_rows m table) rows → list_all (is_row_within (length rows)) rows ≡ true
rows_fit_all m table rows moved = subst (λ n. list_all (is_row_within n) rows ≡ true) (sym (rows_long m table rows moved)) (rows_fit m table rows moved)

pub rows_few : (m : Module) (table : ℕ) (rows : List ℕ) → IsSound m → IsPermutation (standing_rows m table) rows → length rows < 2 ^ 24
rows_few m table rows sound moved = omega (arith, rows_long m table rows moved, sound.counts.few table)

-- the children of one owner more
pub more_kids : (m : Module) (child i d : ℕ) (owners old rows new : List ℕ) → i < length owners → old ≡ kids_listed m (take i owners) child
    → rows ≡ kids_of m (record { table = owner_table child; row = get_or owners i d }) child → new ≡ old ++ rows
    → new ≡ kids_listed m (take (i + 1) owners) child
unfolding kids_listed
more_kids m child i d owners old rows new low before is after =
    let e : i + 1 ≡ suc i = omega arith in
    after ∙ ap (λ xs. xs ++ rows) before ∙ ap (λ xs. flat_map f (take i owners) ++ xs) is
    ∙ sym (ap (λ k. flat_map f (take k owners)) e ∙ flat_more f owners i (get_or owners i d) (got owners i low))
  where
    f : ℕ → List ℕ
    f row = kids_of m (record { table = owner_table child; row = row }) child

    got : (xs : List ℕ) (i : ℕ) → i < length xs → slice_get xs i ≡ Some (get_or xs i d)
    got [] i low = absurd (omega (arith, low))
    got (x ∷ xs) zero low = refl
    got (x ∷ xs) (suc i) low = got xs i (omega (arith, low))

pub no_kids : (m : Module) (child : ℕ) (kids : List ℕ) → kids ≡ [] → kids ≡ kids_listed m [] child
unfolding kids_listed
no_kids m child kids none = none

row_at_place : (p : ℕ → Bool) (xs : List ℕ) (i d : ℕ) → list_all p xs ≡ true → i < length xs → p (get_or xs i d) ≡ true
row_at_place p [] i d all low = absurd (omega (arith, low))
row_at_place p (x ∷ xs) zero d all low = (and_parts (p x) (list_all p xs) all).0
row_at_place p (x ∷ xs) (suc i) d all low = row_at_place p xs i d (and_parts (p x) (list_all p xs) all).1 (omega (arith, low))

-- the owners are rows of their table
pub owner_there : (m : Module) (table owners_table : ℕ) (owners : List ℕ) (i d : ℕ) → table ≡ owners_table
    → list_all (is_row_within (row_count m owners_table)) owners ≡ true → i < length owners → has_row m (record { table = table; row = get_or owners i d }) ≡ true
unfolding has_row
owner_there m table owners_table owners i d same all low =
    rw same (by (row_count m owners_table) (get_or owners i d) (row_at_place (is_row_within (row_count m owners_table)) owners i d all low))
  where
    by : (n row : ℕ) → is_row_within n row ≡ true → (nat_lt 0 row && nat_le row n) ≡ true
    by n row there = grind (arith, nat_tests)
