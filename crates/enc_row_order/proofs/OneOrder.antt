-- Sorting by keys: the same elements, in the order of keys, ties as they stood; and no other list is so.
use Rattle.std.proofs.Common.{◌≡◌, ℕ, suc, ◌<◌, ◌≤◌, Bool, true, false, List, [], ◌∷◌, length, refl, sym, ap, subst, ◌∙◌, cond, arith}
use Rattle.std.specs.Prelude.{◌==◌, ◌&&◌, filter, map, nat_le, slice_index_or, if◌then◌else◌}
use Rattle.std.specs.List.{list_all}
use Rattle.std.specs.Ordering.{is_lt, nat_cmp}
use Rattle.std.specs.List.Sorted.{IsPermutation, IsNonDecreasingBy, IsStableByKey, ties}
use Rattle.std.proofs.lemmas.Bool.{and_parts, and_from, eq-eqb, eqb-true}
use Rattle.std.proofs.lemmas.Bool.Decides.{nat_tests}
use Rattle.std.proofs.lemmas.List.Elements.{filter_agree}
use Rattle.std.proofs.lemmas.List.Sorted.{IsPermutation-refl, IsPermutation-cons, IsPermutation-trans, IsPermutation-middle, IsPermutation-sym}
use Rattle.enc_row_order.specs.Sorted.{put_by, sorted_by}

-- the same elements
put_permutes : {A : Type 0} (key : A → ℕ) (x : A) (ys : List A) → IsPermutation (x ∷ ys) (put_by key x ys)
unfolding put_by
put_permutes key x [] = IsPermutation-refl (x ∷ [])
put_permutes {A} key x (y ∷ rest) = by (nat_le (key x) (key y)) (put_permutes key x rest)
  where
    by : (b : Bool) → IsPermutation (x ∷ rest) (put_by key x rest) → IsPermutation (x ∷ y ∷ rest) (if b then x ∷ y ∷ rest else y ∷ put_by key x rest)
    by true before = IsPermutation-refl (x ∷ y ∷ rest)
    by false before = IsPermutation-trans _ _ _ (IsPermutation-sym _ _ (IsPermutation-middle (y ∷ []) x rest)) (IsPermutation-cons y _ _ before)

pub sorted_permutes : {A : Type 0} (key : A → ℕ) (xs : List A) → IsPermutation xs (sorted_by key xs)
unfolding sorted_by
sorted_permutes key [] = IsPermutation-refl []
sorted_permutes key (x ∷ rest) =
    IsPermutation-trans _ _ _ (IsPermutation-cons x _ _ (sorted_permutes key rest)) (put_permutes key x (sorted_by key rest))

-- those of one key, as they stood
abbrev pub of_key : {A : Type 0} → (A → ℕ) → ℕ → List A → List A
of_key key k xs = filter (λ x. key x == k) xs

put_ties : {A : Type 0} (key : A → ℕ) (k : ℕ) (x : A) (ys : List A) → of_key key k (put_by key x ys) ≡ of_key key k (x ∷ ys)
unfolding put_by
put_ties key k x [] = refl
put_ties {A} key k x (y ∷ rest) = by (nat_le (key x) (key y)) refl (put_ties key k x rest)
  where
    swapped : (b c : Bool) → (key x == k) ≡ b → (key y == k) ≡ c → nat_le (key x) (key y) ≡ false
        → cond c (y ∷ cond b (x ∷ of_key key k rest) (of_key key k rest)) (cond b (x ∷ of_key key k rest) (of_key key k rest))
        ≡ cond b (x ∷ cond c (y ∷ of_key key k rest) (of_key key k rest)) (cond c (y ∷ of_key key k rest) (of_key key k rest))
    swapped true true p q late = absurd (grind (arith, nat_tests))
    swapped true false p q late = refl
    swapped false c p q late = refl

    by : (b : Bool) → nat_le (key x) (key y) ≡ b → of_key key k (put_by key x rest) ≡ of_key key k (x ∷ rest)
        → of_key key k (if b then x ∷ y ∷ rest else y ∷ put_by key x rest) ≡ of_key key k (x ∷ y ∷ rest)
    by true is before = refl
    by false is before = ap (λ zs. cond (key y == k) (y ∷ zs) zs) before ∙ swapped (key x == k) (key y == k) refl refl is

pub sorted_ties : {A : Type 0} (key : A → ℕ) (k : ℕ) (xs : List A) → of_key key k (sorted_by key xs) ≡ of_key key k xs
unfolding sorted_by
sorted_ties key k [] = refl
sorted_ties key k (x ∷ rest) =
    put_ties key k x (sorted_by key rest) ∙ ap (λ zs. cond (key x == k) (x ∷ zs) zs) (sorted_ties key k rest)

-- keys rise: none behind an element has a smaller one
abbrev pub rises : {A : Type 0} → (A → ℕ) → List A → Bool
rises key [] = true
rises key (x ∷ rest) = list_all (λ y. nat_le (key x) (key y)) rest && rises key rest

rises_first : {A : Type 0} (key : A → ℕ) (x : A) (rest : List A) → rises key (x ∷ rest) ≡ true → list_all (λ y. nat_le (key x) (key y)) rest ≡ true
rises_first key x rest h = (and_parts (list_all (λ y. nat_le (key x) (key y)) rest) (rises key rest) h).0

rises_rest : {A : Type 0} (key : A → ℕ) (x : A) (rest : List A) → rises key (x ∷ rest) ≡ true → rises key rest ≡ true
rises_rest key x rest h = (and_parts (list_all (λ y. nat_le (key x) (key y)) rest) (rises key rest) h).1

-- what is at most all, and at most another, is at most that one put between them
all_put : {A : Type 0} (key : A → ℕ) (n : ℕ) (x : A) (ys : List A) → nat_le n (key x) ≡ true → list_all (λ y. nat_le n (key y)) ys ≡ true
    → list_all (λ y. nat_le n (key y)) (put_by key x ys) ≡ true
unfolding put_by
all_put key n x [] low all = and_from (nat_le n (key x)) true low refl
all_put {A} key n x (y ∷ rest) low all = by (nat_le (key x) (key y)) (all_put key n x rest low ((and_parts (nat_le n (key y)) _ all).1))
  where
    by : (b : Bool) → list_all (λ y. nat_le n (key y)) (put_by key x rest) ≡ true
        → list_all (λ y. nat_le n (key y)) (if b then x ∷ y ∷ rest else y ∷ put_by key x rest) ≡ true
    by true before = and_from (nat_le n (key x)) _ low all
    by false before = and_from (nat_le n (key y)) _ ((and_parts (nat_le n (key y)) _ all).0) before

-- a smaller bound bounds all
all_lower : {A : Type 0} (key : A → ℕ) (m n : ℕ) (ys : List A) → m ≤ n → list_all (λ y. nat_le n (key y)) ys ≡ true → list_all (λ y. nat_le m (key y)) ys ≡ true
all_lower key m n [] le all = refl
all_lower key m n (y ∷ rest) le all =
    let here = (and_parts (nat_le n (key y)) _ all).0 in
    and_from (nat_le m (key y)) _ (grind (arith, nat_tests)) (all_lower key m n rest le ((and_parts (nat_le n (key y)) _ all).1))

put_rises : {A : Type 0} (key : A → ℕ) (x : A) (ys : List A) → rises key ys ≡ true → rises key (put_by key x ys) ≡ true
unfolding put_by
put_rises key x [] h = refl
put_rises {A} key x (y ∷ rest) h = by (nat_le (key x) (key y)) refl (put_rises key x rest (rises_rest key y rest h))
  where
    by : (b : Bool) → nat_le (key x) (key y) ≡ b → rises key (put_by key x rest) ≡ true → rises key (if b then x ∷ y ∷ rest else y ∷ put_by key x rest) ≡ true
    by true is before =
        let le : key x ≤ key y = grind (arith, nat_tests) in
        and_from (list_all (λ z. nat_le (key x) (key z)) (y ∷ rest)) _
        (and_from (nat_le (key x) (key y)) _ is (all_lower key (key x) (key y) rest le (rises_first key y rest h))) h
    by false is before =
        let late : nat_le (key y) (key x) ≡ true = grind (arith, nat_tests) in
        and_from (list_all (λ z. nat_le (key y) (key z)) (put_by key x rest)) _ (all_put key (key y) x rest late (rises_first key y rest h)) before

pub sorted_rises : {A : Type 0} (key : A → ℕ) (xs : List A) → rises key (sorted_by key xs) ≡ true
unfolding sorted_by
sorted_rises key [] = refl
sorted_rises key (x ∷ rest) = put_rises key x (sorted_by key rest) (sorted_rises key rest)

-- where one of a key stands among those that are at least n, the key is at least n
bound_of : {A : Type 0} (key : A → ℕ) (n k : ℕ) (z : A) (zs ys : List A) → list_all (λ y. nat_le n (key y)) ys ≡ true → of_key key k ys ≡ z ∷ zs → n ≤ k
bound_of key n k z zs [] all is = absurd cc
bound_of {A} key n k z zs (y ∷ rest) all is =
    by (key y == k) refl is (λ e. bound_of key n k z zs rest ((and_parts (nat_le n (key y)) _ all).1) e)
  where
    by : (b : Bool) → (key y == k) ≡ b → cond b (y ∷ of_key key k rest) (of_key key k rest) ≡ z ∷ zs → (of_key key k rest ≡ z ∷ zs → n ≤ k) → n ≤ k
    by true same e later = let here = (and_parts (nat_le n (key y)) _ all).0 in grind (arith, nat_tests)
    by false same e later = later e

-- rising lists with the same elements of each key, in the same order, are the same
pub only_one : {A : Type 0} (key : A → ℕ) (xs ys : List A) → rises key xs ≡ true → rises key ys ≡ true
    → ((k : ℕ) → of_key key k xs ≡ of_key key k ys) → xs ≡ ys
only_one key [] [] up down same = refl
only_one {A} key [] (y ∷ ys) up down same = by (key y == key y) (eq-eqb (key y) (key y) refl) (same (key y))
  where
    by : (b : Bool) → b ≡ true → [] ≡ cond b (y ∷ of_key key (key y) ys) (of_key key (key y) ys) → [] ≡ y ∷ ys
    by true is e = absurd cc
    by false is e = absurd cc
only_one {A} key (x ∷ xs) [] up down same = by (key x == key x) (eq-eqb (key x) (key x) refl) (same (key x))
  where
    by : (b : Bool) → b ≡ true → cond b (x ∷ of_key key (key x) xs) (of_key key (key x) xs) ≡ [] → x ∷ xs ≡ []
    by true is e = absurd cc
    by false is e = absurd cc
only_one {A} key (x ∷ xs) (y ∷ ys) up down same =
    let low : key x ≤ key y = bound_of key (key x) (key y) y (of_key key (key y) ys) (x ∷ xs) (at_least x xs up) (same (key y) ∙ kept y ys) in
    let high : key y ≤ key x = bound_of key (key y) (key x) x (of_key key (key x) xs) (y ∷ ys) (at_least y ys down) (sym (same (key x)) ∙ kept x xs) in
    let equal : key y ≡ key x = omega (arith, low, high) in
    let both : x ∷ of_key key (key x) xs ≡ y ∷ of_key key (key x) ys = sym (kept x xs) ∙ same (key x) ∙ kept_as y ys (key x) equal in
    let first : x ≡ y = cc in
    rw first (ap (λ zs. y ∷ zs) (only_one key xs ys (rises_rest key x xs up) (rises_rest key y ys down) (λ k. behind k x y xs ys first (same k))))
  where
    kept_as : (z : A) (zs : List A) (k : ℕ) → key z ≡ k → of_key key k (z ∷ zs) ≡ z ∷ of_key key k zs
    kept_as z zs k e = rw e (rw (eq-eqb k k refl) refl)

    kept : (z : A) (zs : List A) → of_key key (key z) (z ∷ zs) ≡ z ∷ of_key key (key z) zs
    kept z zs = kept_as z zs (key z) refl

    at_least : (z : A) (zs : List A) → rises key (z ∷ zs) ≡ true → list_all (λ w. nat_le (key z) (key w)) (z ∷ zs) ≡ true
    at_least z zs h = and_from (nat_le (key z) (key z)) _ (grind (arith, nat_tests)) (rises_first key z zs h)

    behind : (k : ℕ) (u v : A) (us vs : List A) → u ≡ v → of_key key k (u ∷ us) ≡ of_key key k (v ∷ vs) → of_key key k us ≡ of_key key k vs
    behind k u v us vs e h = by (key v == k) (subst (λ w. of_key key k (w ∷ us) ≡ of_key key k (v ∷ vs)) e h)
      where
        by : (b : Bool) → cond b (v ∷ of_key key k us) (of_key key k us) ≡ cond b (v ∷ of_key key k vs) (of_key key k vs) → of_key key k us ≡ of_key key k vs
        by true h = cc
        by false h = h

-- from what a stable sort ensures
rises_from : {A : Type 0} (key : A → ℕ) (xs : List A) → IsNonDecreasingBy key xs → rises key xs ≡ true
rises_from key [] h = refl
rises_from {A} key (x ∷ rest) h =
    and_from (list_all (λ y. nat_le (key x) (key y)) rest) (rises key rest) (all_from rest (λ j d low. h 0 (suc j) d (omega arith) (omega (arith, low))))
    (rises_from key rest (λ i j d le low. h (suc i) (suc j) d (omega (arith, le)) (omega (arith, low))))
  where
    all_from : (ys : List A) → ((j : ℕ) (d : A) → j < length ys → key x ≤ key (slice_index_or ys j d)) → list_all (λ y. nat_le (key x) (key y)) ys ≡ true
    all_from [] low = refl
    all_from (y ∷ ys) low =
        let here : key x ≤ key y = low 0 y (omega arith) in
        and_from (nat_le (key x) (key y)) _ (grind (arith, nat_tests)) (all_from ys (λ j d less. low (suc j) d (omega (arith, less))))

tie_is : {A : Type 0} (key : A → ℕ) (x y : A) → ties (λ u v. is_lt (nat_cmp (key u) (key v))) x y ≡ (key y == key x)
tie_is key x y = grind (arith, nat_tests)

key_first : {A : Type 0} (key : A → ℕ) (k : ℕ) (z : A) (zs ys : List A) → of_key key k ys ≡ z ∷ zs → key z ≡ k
key_first key k z zs [] is = absurd cc
key_first {A} key k z zs (y ∷ rest) is = by (key y == k) refl is (key_first key k z zs rest)
  where
    by : (b : Bool) → (key y == k) ≡ b → cond b (y ∷ of_key key k rest) (of_key key k rest) ≡ z ∷ zs → (of_key key k rest ≡ z ∷ zs → key z ≡ k) → key z ≡ k
    by true same e later = let first : y ≡ z = cc in subst (λ w. key w ≡ k) first (eqb-true (key y) k same)
    by false same e later = later e

-- a stable sort gives the sorted list
pub sorted_is : {A : Type 0} (key : A → ℕ) (xs ys : List A) → IsNonDecreasingBy key ys → IsStableByKey key nat_cmp xs ys → ys ≡ sorted_by key xs
sorted_is {A} key xs ys up stable =
    only_one key ys (sorted_by key xs) (rises_from key ys up) (sorted_rises key xs)
    (λ k. by k (of_key key k ys) (of_key key k xs) refl refl ∙ sym (sorted_ties key k xs))
  where
    at : (k : ℕ) (x : A) → key x ≡ k → of_key key k ys ≡ of_key key k xs
    at k x e =
        let same : (y : A) → ties (λ u v. is_lt (nat_cmp (key u) (key v))) x y ≡ (key y == k) = λ y. tie_is key x y ∙ ap (λ n. key y == n) e in
        sym (filter_agree (ties (λ u v. is_lt (nat_cmp (key u) (key v))) x) (λ y. key y == k) same ys)
        ∙ stable x ∙ filter_agree (ties (λ u v. is_lt (nat_cmp (key u) (key v))) x) (λ y. key y == k) same xs

    by : (k : ℕ) (us vs : List A) → of_key key k ys ≡ us → of_key key k xs ≡ vs → of_key key k ys ≡ of_key key k xs
    by k [] [] e f = e ∙ sym f
    by k (u ∷ us) vs e f = at k u (key_first key k u us ys e)
    by k [] (v ∷ vs) e f = at k v (key_first key k v vs xs f)

-- what is sorted by its key's own numbers, and what these are the numbers of
put_map : {A B : Type 0} (f : A → B) (key : B → ℕ) (x : A) (ys : List A) → map f (put_by (λ a. key (f a)) x ys) ≡ put_by key (f x) (map f ys)
unfolding put_by
put_map f key x [] = refl
put_map {A} {B} f key x (y ∷ rest) = by (nat_le (key (f x)) (key (f y))) (put_map f key x rest)
  where
    by : (b : Bool) → map f (put_by (λ a. key (f a)) x rest) ≡ put_by key (f x) (map f rest)
        → map f (if b then x ∷ y ∷ rest else y ∷ put_by (λ a. key (f a)) x rest) ≡ (if b then f x ∷ f y ∷ map f rest else f y ∷ put_by key (f x) (map f rest))
    by true before = refl
    by false before = ap (λ zs. f y ∷ zs) before

pub sorted_map : {A B : Type 0} (f : A → B) (key : B → ℕ) (xs : List A) → map f (sorted_by (λ a. key (f a)) xs) ≡ sorted_by key (map f xs)
unfolding sorted_by
sorted_map f key [] = refl
sorted_map f key (x ∷ rest) = put_map f key x (sorted_by (λ a. key (f a)) rest) ∙ ap (put_by key (f x)) (sorted_map f key rest)
