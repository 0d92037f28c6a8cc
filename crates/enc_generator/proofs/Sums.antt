-- Sums over the items of lists, by what each of them brings at most.
use Rattle.std.proofs.Common.{◌≡◌, ℕ, zero, suc, ◌+◌, ◌*◌, ◌<◌, ◌≤◌, Bool, true, false, List, [], ◌∷◌, ◌++◌, length, take, Option, Some, None, refl, arith, subst}
use Rattle.std.specs.Prelude.{slice_get, sum_by, flat_map, unwrap_or, filter, nat_lt, nat_le, if◌then◌else◌}
use Rattle.std.specs.List.{range_with_len}
use Rattle.std.proofs.lemmas.Bool.Decides.{nat_tests}
use Rattle.std.proofs.lemmas.List.Sums.{sum_by-cons, sum_by-append}
use Rattle.enc_rows.specs.Sums.{sum_below}
use Rattle.enc_rows.proofs.Below.{sum_none, sum_suc}
use Rattle.enc_plain.specs.Apply.{change_at}
use Rattle.enc_schema.specs.Schema.{list_at}

-- each item of a list has it
abbrev pub AllHave : {A : Type 0} → (A → Type 0) → List A → Type 0
AllHave P [] = Unit {0}
AllHave P (x ∷ xs) = P x × AllHave P xs

-- what the item at a place brings, if there is one
abbrev pub brought : {A : Type 0} → (A → ℕ) → Option A → ℕ
brought f None = 0
brought f (Some x) = f x

pub all_at : {A : Type 0} (P : A → Type 0) (xs : List A) (i : ℕ) (x : A) → AllHave P xs → slice_get xs i ≡ Some x → P x
all_at P [] i x all there = absurd cc
all_at P (y ∷ xs) zero x all there = let e : y ≡ x = cc in subst P e all.0
all_at P (y ∷ xs) (suc i) x all there = all_at P xs i x all.1 there

pub all_both : {A : Type 0} (P : A → Type 0) (xs ys : List A) → AllHave P xs → AllHave P ys → AllHave P (xs ++ ys)
all_both P [] ys first second = second
all_both P (x ∷ xs) ys first second = (first.0, all_both P xs ys first.1 second)

pub all_so : {A : Type 0} (P Q : A → Type 0) (xs : List A) → ((x : A) → P x → Q x) → AllHave P xs → AllHave Q xs
all_so P Q [] so all = tt
all_so P Q (x ∷ xs) so all = (so x all.0, all_so P Q xs so all.1)

pub all_front : {A : Type 0} (P : A → Type 0) (n : ℕ) (xs : List A) → AllHave P xs → AllHave P (take n xs)
all_front P zero xs all = tt
all_front P (suc n) [] all = tt
all_front P (suc n) (x ∷ xs) all = (all.0, all_front P n xs all.1)

passing_by : {A : Type 0} (P : A → Type 0) (b : Bool) (x : A) (xs : List A) → P x → AllHave P xs → AllHave P (if b then x ∷ xs else xs)
passing_by P true x xs own all = (own, all)
passing_by P false x xs own all = all

pub all_passing : {A : Type 0} (P : A → Type 0) (p : A → Bool) (xs : List A) → AllHave P xs → AllHave P (filter p xs)
all_passing P p [] all = tt
all_passing P p (x ∷ xs) all = passing_by P (p x) x (filter p xs) all.0 (all_passing P p xs all.1)

pub front_few : {A : Type 0} (n : ℕ) (xs : List A) → length (take n xs) ≤ length xs
front_few zero xs = omega arith
front_few (suc n) [] = omega arith
front_few (suc n) (x ∷ xs) = let rest = front_few n xs in omega (arith, rest)

pub front_most : {A : Type 0} (n : ℕ) (xs : List A) → length (take n xs) ≤ n
front_most zero xs = omega arith
front_most (suc n) [] = omega arith
front_most (suc n) (x ∷ xs) = let rest = front_most n xs in omega (arith, rest)

-- one item changed
pub all_changed : {A : Type 0} (P : A → Type 0) (f : A → A) (xs : List A) (n : ℕ) → ((x : A) → P x → P (f x)) → AllHave P xs → AllHave P (change_at xs n f)
all_changed P f [] n keeps all = tt
all_changed P f (x ∷ xs) zero keeps all = (keeps x all.0, all.1)
all_changed P f (x ∷ xs) (suc n) keeps all = (all.0, all_changed P f xs n keeps all.1)

pub sum_changed : {A : Type 0} (g : A → ℕ) (f : A → A) (d : ℕ) (xs : List A) (n : ℕ) → ((x : A) → g (f x) ≤ g x + d) → sum_by g (change_at xs n f) ≤ sum_by g xs + d
sum_changed g f d [] n more = omega arith
sum_changed g f d (x ∷ xs) zero more =
    let old = sum_by-cons g x xs in
    let new = sum_by-cons g (f x) xs in
    omega (arith, old, new, more x)
sum_changed g f d (x ∷ xs) (suc n) more =
    let old = sum_by-cons g x xs in
    let new = sum_by-cons g x (change_at xs n f) in
    let rest = sum_changed g f d xs n more in
    omega (arith, old, new, rest)

-- so many items bring so much
pub sum_of_few : {A : Type 0} (f : A → ℕ) (b : ℕ) (xs : List A) → AllHave (λ x. f x ≤ b) xs → sum_by f xs ≤ b * length xs
sum_of_few f b [] all = omega arith
sum_of_few f b (x ∷ xs) all =
    let n = sum_by-cons f x xs in
    let rest = sum_of_few f b xs all.1 in
    let m : b * suc (length xs) ≡ b + b * length xs = grind arith in
    rw m (omega (arith, n, all.0, rest))

pub sums_of_few : {A : Type 0} (f : A → ℕ) (b : ℕ) (lists : List (List A)) → AllHave (AllHave (λ x. f x ≤ b)) lists → sum_by (λ xs. sum_by f xs) lists ≤ b * sum_by (λ xs. length xs) lists
sums_of_few f b [] all = omega arith
sums_of_few f b (xs ∷ lists) all =
    let n = sum_by-cons (λ xs. sum_by f xs) xs lists in
    let many = sum_by-cons (λ xs. length xs) xs lists in
    let own = sum_of_few f b xs all.0 in
    let rest = sums_of_few f b lists all.1 in
    let m : b * (length xs + sum_by (λ xs. length xs) lists) ≡ b * length xs + b * sum_by (λ xs. length xs) lists = grind arith in
    rw (many, m) (omega (arith, n, own, rest))

-- pieces by place, each of which is brought by the item there
pub flat_few : {A B : Type 0} (w : B → ℕ) (g : ℕ → List B) (load : A → ℕ) (xs : List A) (a n : ℕ) → ((i : ℕ) → sum_by w (g (a + i)) ≤ brought load (slice_get xs i)) → sum_by w (flat_map g (range_with_len a n)) ≤ sum_by load xs
flat_few w g load xs a zero each = omega arith
flat_few w g load [] a (suc n) each =
    let e : a + 0 ≡ a = omega arith in
    let own : sum_by w (g a) ≤ 0 = rw e at (each 0) in
    let rest = flat_few w g load [] (a + 1) n (λ i. let s : a + 1 + i ≡ a + suc i = omega arith in rw s (each (suc i))) in
    let both = sum_by-append w (g a) (flat_map g (range_with_len (a + 1) n)) in
    omega (arith, own, rest, both)
flat_few w g load (x ∷ xs) a (suc n) each =
    let e : a + 0 ≡ a = omega arith in
    let own : sum_by w (g a) ≤ load x = rw e at (each 0) in
    let rest = flat_few w g load xs (a + 1) n (λ i. let s : a + 1 + i ≡ a + suc i = omega arith in rw s (each (suc i))) in
    let both = sum_by-append w (g a) (flat_map g (range_with_len (a + 1) n)) in
    let all = sum_by-cons load x xs in
    omega (arith, own, rest, both, all)

-- a sum from the front
front : (g : ℕ → ℕ) (n : ℕ) → sum_below g (suc n) ≡ g 0 + sum_below (λ i. g (suc i)) n
front g zero =
    let a = sum_suc g 0 in
    let b = sum_none g in
    let z = sum_none (λ i. g (suc i)) in
    omega (arith, a, b, z)
front g (suc n) =
    let a = sum_suc g (suc n) in
    let b = sum_suc (λ i. g (suc i)) n in
    let rest = front g n in
    omega (arith, a, b, rest)

-- numbers by place, each of which the item there brings
pub below_few : {A : Type 0} (g : ℕ → ℕ) (load : A → ℕ) (xs : List A) (n : ℕ) → ((i : ℕ) → g i ≤ brought load (slice_get xs i)) → sum_below g n ≤ sum_by load xs
below_few g load xs zero each = let z = sum_none g in omega (arith, z)
below_few g load [] (suc n) each =
    let own = each 0 in
    let rest = below_few (λ i. g (suc i)) load [] n (λ i. each (suc i)) in
    let both = front g n in
    omega (arith, own, rest, both)
below_few g load (x ∷ xs) (suc n) each =
    let own = each 0 in
    let rest = below_few (λ i. g (suc i)) load xs n (λ i. each (suc i)) in
    let both = front g n in
    let all = sum_by-cons load x xs in
    omega (arith, own, rest, both, all)

-- numbers that aren't more than one
pub below_most : (g : ℕ → ℕ) (b n : ℕ) → ((i : ℕ) → g i ≤ b) → sum_below g n ≤ b * n
below_most g b zero each = let z = sum_none g in omega (arith, z)
below_most g b (suc n) each =
    let more = sum_suc g n in
    let rest = below_most g b n each in
    let m : b * suc n ≡ b + b * n = grind arith in
    rw m (omega (arith, more, rest, each n))

-- a list among many brings no more than all
pub within_all : {A : Type 0} (f : List A → ℕ) (lists : List (List A)) (i : ℕ) → f [] ≡ 0 → f (list_at lists i) ≤ sum_by f lists
within_all f [] i none = omega (arith, none)
within_all f (xs ∷ lists) zero none = let n = sum_by-cons f xs lists in omega (arith, n)
within_all f (xs ∷ lists) (suc i) none =
    let n = sum_by-cons f xs lists in
    let rest = within_all f lists i none in
    omega (arith, n, rest)

-- and what the list at a place brings
pub list_brought : {A : Type 0} (f : List A → ℕ) (lists : List (List A)) (i : ℕ) → f [] ≡ 0 → f (list_at lists i) ≡ brought f (slice_get lists i)
list_brought {A} f lists i none = by (slice_get lists i)
  where
    by : (o : Option (List A)) → f (unwrap_or o []) ≡ brought f o
    by None = none
    by (Some xs) = refl

-- tests that fail
pub not_past : (a b : ℕ) → b ≤ a → nat_lt a b ≡ false
not_past a b h = grind (arith, nat_tests, h)

pub not_there : (a b : ℕ) → b < a → nat_le a b ≡ false
not_there a b h = grind (arith, nat_tests, h)
