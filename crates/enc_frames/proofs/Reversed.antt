-- Lists that are seen from their end.
use Rattle.std.proofs.Common.{◌≡◌, ℕ, ◌≤◌, ◌<◌, ◌-◌, ◌+◌, List, [], ◌∷◌, ◌++◌, length, take, drop, reverse, refl, sym, ap, ◌∙◌, arith}
use Rattle.std.proofs.lemmas.List.{length-drop, take-append-drop, reverse-append, reverse-reverse, length-reverse, take_all, length-set, take_more, take_more_set, append-nil}
use Rattle.std.proofs.Math.Seq.{drop-append_seam, take-append_seam}
use Rattle.std.proofs.lemmas.List.Elements.{filter-append}
use Rattle.std.specs.Prelude.{slice_set, filter, get_or, Bool, true, false, if◌then◌else◌}

-- the front alone, seen from its end, is the whole without as many of its first
split : {A : Type 0} (k : ℕ) (xs : List A) → drop (length (drop k xs)) (reverse xs) ≡ reverse (take k xs)
split k xs =
    ap (λ (l : List _). drop (length (drop k xs)) (reverse l)) (sym (take-append-drop k xs))
    ∙ ap (drop (length (drop k xs))) (reverse-append (take k xs) (drop k xs))
    ∙ ap (λ (n : ℕ). drop n (reverse (drop k xs) ++ reverse (take k xs))) (sym (length-reverse (drop k xs)))
    ∙ drop-append_seam (reverse (drop k xs)) (reverse (take k xs))

rest_is : {A : Type 0} (k n : ℕ) (xs : List A) → k + n ≡ length xs → length (drop k xs) ≡ n
rest_is k n xs e = omega (arith, length-drop k xs, e)

pub front_seen : {A : Type 0} (k n : ℕ) (xs : List A) → k + n ≡ length xs → reverse (take k xs) ≡ drop n (reverse xs)
front_seen k n xs e = sym (ap (λ (i : ℕ). drop i (reverse xs)) (sym (rest_is k n xs e)) ∙ split k xs)

-- one more behind a front is seen before it
pub one_more : {A : Type 0} (xs : List A) (x : A) → reverse (xs ++ x ∷ []) ≡ x ∷ reverse xs
one_more xs x = reverse-append xs (x ∷ [])

-- a value set at the end of a front
pub set_seen : {A : Type 0} (k n : ℕ) (xs : List A) (x : A) → k + n ≡ length xs → k < length xs → reverse (take (k + 1) (slice_set xs k x)) ≡ x ∷ drop n (reverse xs)
set_seen k n xs x e h = ap reverse (take_more_set xs k x h) ∙ one_more (take k xs) x ∙ ap (λ (l : List _). x ∷ l) (front_seen k n xs e)

-- a value set so many before the end, and the rest behind it gone
pub replaced : {A : Type 0} (xs : List A) (len n : ℕ) (x : A) → len ≡ length xs → 0 < n → n ≤ length xs
    → reverse (take (len - n + 1) (slice_set xs (len - n) x)) ≡ x ∷ drop n (reverse xs)
replaced xs len n x e some there = set_seen (len - n) n xs x (omega (arith, e, some, there)) (omega (arith, e, some, there))

taken_back : {A : Type 0} (k n : ℕ) (xs : List A) → k + n ≡ length xs → take n (reverse xs) ≡ reverse (drop k xs)
taken_back k n xs e =
    ap (λ (l : List _). take n (reverse l)) (sym (take-append-drop k xs))
    ∙ ap (take n) (reverse-append (take k xs) (drop k xs))
    ∙ ap (λ (i : ℕ). take i (reverse (drop k xs) ++ reverse (take k xs))) (sym (length-reverse (drop k xs) ∙ rest_is k n xs e))
    ∙ take-append_seam (reverse (drop k xs)) (reverse (take k xs))

filter_one : {A : Type 0} (p : A → Bool) (x : A) (t : Bool) → p x ≡ t → filter p (x ∷ []) ≡ (if t then x ∷ [] else [])
filter_one p x true e = rw e refl
filter_one p x false e = rw e refl

filter_step : {A : Type 0} (p : A → Bool) (x : A) (xs : List A) (t : Bool) → p x ≡ t → reverse (filter p xs) ≡ filter p (reverse xs)
    → reverse (filter p (x ∷ xs)) ≡ filter p (reverse (x ∷ xs))
filter_step p x xs true e h =
    rw e (reverse-append (x ∷ []) (filter p xs))
    ∙ ap (λ (l : List _). l ++ x ∷ []) h
    ∙ sym (filter-append p (reverse xs) (x ∷ []) ∙ ap (λ (l : List _). filter p (reverse xs) ++ l) (filter_one p x true e))
    ∙ ap (filter p) (sym (reverse-append (x ∷ []) xs))
filter_step p x xs false e h =
    rw e h
    ∙ sym (filter-append p (reverse xs) (x ∷ []) ∙ ap (λ (l : List _). filter p (reverse xs) ++ l) (filter_one p x false e) ∙ append-nil (filter p (reverse xs)))
    ∙ ap (filter p) (sym (reverse-append (x ∷ []) xs))

-- what passes a test is seen from its end as it stands
pub filter_seen : {A : Type 0} (p : A → Bool) (xs : List A) → reverse (filter p xs) ≡ filter p (reverse xs)
filter_seen p [] = refl
filter_seen p (x ∷ xs) = filter_step p x xs (p x) refl (filter_seen p xs)

set_last : {A : Type 0} (xs : List A) (y x : A) → slice_set (xs ++ y ∷ []) (length xs) x ≡ xs ++ x ∷ []
set_last [] y x = refl
set_last (z ∷ xs) y x = ap (λ (l : List _). z ∷ l) (set_last xs y x)

-- the last of a list changed
pub changed_last : {A : Type 0} (xs ys : List A) (y x : A) (n : ℕ) → ys ≡ xs ++ y ∷ [] → n ≡ length xs → reverse (slice_set ys n x) ≡ x ∷ reverse xs
changed_last xs ys y x n e i = ap (λ (l : List _). reverse (slice_set l n x)) e ∙ ap (λ (k : ℕ). reverse (slice_set (xs ++ y ∷ []) k x)) i ∙ ap reverse (set_last xs y x) ∙ one_more xs x

one_back : (n : ℕ) → 0 < n → n ≡ n - 1 + 1
one_back n some = omega (arith, some)

-- one more of a front
pub front_more : {A : Type 0} (xs : List A) (n : ℕ) (d : A) → 0 < n → n ≤ length xs → reverse (take n xs) ≡ get_or xs (n - 1) d ∷ reverse (take (n - 1) xs)
front_more xs n d some there =
    ap (λ (k : ℕ). reverse (take k xs)) (one_back n some)
    ∙ ap reverse (take_more xs (n - 1) d (omega (arith, some, there)))
    ∙ one_more (take (n - 1) xs) (get_or xs (n - 1) d)

-- so many from the end, as they stand
upper_seen : {A : Type 0} (n : ℕ) (xs : List A) → n ≤ length xs → drop (length xs - n) xs ≡ reverse (take n (reverse xs))
upper_seen n xs there =
    sym (reverse-reverse (drop (length xs - n) xs))
    ∙ ap reverse (sym (taken_back (length xs - n) n xs (omega (arith, there))))

pub upper_whole : {A : Type 0} (n len : ℕ) (xs : List A) → len ≡ length xs → n ≤ len
    → take (length xs - (len - n)) (drop (len - n) xs) ≡ reverse (take n (reverse xs))
upper_whole n len xs e there =
    take_all (length xs - (len - n)) (drop (len - n) xs) (omega (arith, length-drop (len - n) xs))
    ∙ ap (λ (k : ℕ). drop (k - n) xs) e
    ∙ upper_seen n xs (omega (arith, e, there))

-- the last of a list set
pub last_set : {A : Type 0} (xs : List A) (n : ℕ) (y : A) → 0 < n → n ≡ length xs → reverse (slice_set xs (n - 1) y) ≡ y ∷ reverse (take (n - 1) xs)
last_set xs n y some e =
    ap reverse (sym (take_all n (slice_set xs (n - 1) y) (omega (arith, e, length-set xs (n - 1) y))))
    ∙ ap (λ (k : ℕ). reverse (take k (slice_set xs (n - 1) y))) (one_back n some)
    ∙ ap reverse (take_more_set xs (n - 1) y (omega (arith, e, some)))
    ∙ one_more (take (n - 1) xs) y
