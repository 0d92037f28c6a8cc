-- Two lists of numbers as sets: the least number that stands in one alone.
use Rattle.std.proofs.Common.{◌≡◌, ℕ, zero, suc, ◌+◌, ◌<◌, ◌≤◌, ◌≢◌, Bool, true, false, List, [], ◌∷◌, ◌++◌, length, Option, Some, None, get_or, refl, sym, ap, subst, ◌∙◌, inl, inr, eqb, arith}
use Rattle.std.specs.Prelude.{◌==◌, ◌&&◌, ◌||◌, not, filter, if◌then◌else◌, ◌⊎◌, MatchOption, min, drop}
use Rattle.std.specs.List.{dedup, dedup_from}
use Rattle.std.specs.List.Sorted.{IsStrictlyIncreasing, IsPermutation, IsSorted}
use Rattle.std.specs.Ordering.{nat_cmp}
use Rattle.std.proofs.lemmas.Bool.{cases_lt, cases_eq}
use Rattle.std.proofs.lemmas.Bool.Decides.{nat_tests}
use Rattle.std.proofs.lemmas.List.Folds.{list_any-append}
use Rattle.std.proofs.lemmas.List.Sorted.{list_any-IsPermutation}
use Rattle.std.proofs.lemmas.Map.Keys.{IsStrictlyIncreasing-dedup}
use Rattle.enc_delta.specs.Rules.{least, lesser, stands_in, in_one, at_token, set_fault}

-- an answer to a test of numbers: the least that passes, or none does
abbrev pub IsLeast : (ℕ → Bool) → Option ℕ → Type 0
IsLeast test o = MatchOption o ((t : ℕ) → test t ≡ false) (λ x. (test x ≡ true) × ((t : ℕ) → test t ≡ true → x ≤ t))

two : (b : Bool) → (b ≡ true) ⊎ (b ≡ false)
two true = inl refl
two false = inr refl

-- tests that agree have the same least
pub least_unique : (p q : ℕ → Bool) (a b : Option ℕ) → ((t : ℕ) → p t ≡ q t) → IsLeast p a → IsLeast q b → a ≡ b
least_unique p q None None same x y = refl
least_unique p q None (Some b) same x y = let e : true ≡ false = sym y.0 ∙ sym (same b) ∙ x b in absurd cc
least_unique p q (Some a) None same x y = let e : true ≡ false = sym x.0 ∙ same a ∙ y a in absurd cc
least_unique p q (Some a) (Some b) same x y = let l = x.1 b (same b ∙ y.0) in let m = y.1 a (sym (same a) ∙ x.0) in ap (λ n. Some n) (omega arith)

-- what stands in a list
stands_here : (x : ℕ) (xs : List ℕ) (t : ℕ) → x ≡ t → stands_in (x ∷ xs) t ≡ true
stands_here x xs t e = grind (arith, nat_tests)

stands_behind : (x : ℕ) (xs : List ℕ) (t : ℕ) → x ≢ t → stands_in (x ∷ xs) t ≡ stands_in xs t
stands_behind x xs t e = grind (arith, nat_tests)

moved : (p : ℕ → Bool) (a b : ℕ) → b ≡ a → IsLeast p (Some b) → IsLeast p (Some a)
moved p a b e h = subst (λ n. IsLeast p (Some n)) e h

stands_cases : (x : ℕ) (xs : List ℕ) (t : ℕ) → stands_in (x ∷ xs) t ≡ true → (x ≡ t) ⊎ (stands_in xs t ≡ true)
stands_cases x xs t h = elim (cases_eq x t) [ inl e ↦ inl e | inr e ↦ inr (sym (stands_behind x xs t e) ∙ h) ]

stands_more : (x : ℕ) (xs : List ℕ) (t : ℕ) → stands_in xs t ≡ true → stands_in (x ∷ xs) t ≡ true
stands_more x xs t h = elim (cases_eq x t) [ inl e ↦ stands_here x xs t e | inr e ↦ stands_behind x xs t e ∙ h ]

lesser_is : (x : ℕ) (xs : List ℕ) (o : Option ℕ) → IsLeast (stands_in xs) o → IsLeast (stands_in (x ∷ xs)) (lesser x o)
lesser_is x xs None h = (stands_here x xs x refl, λ t s. elim (cases_eq x t) [ inl e ↦ omega arith | inr e ↦ let f : true ≡ false = sym s ∙ stands_behind x xs t e ∙ h t in absurd cc ])
lesser_is x xs (Some m) h =
    let low : (t : ℕ) → stands_in (x ∷ xs) t ≡ true → min x m ≤ t = λ t s. elim (stands_cases x xs t s) [ inl e ↦ omega arith | inr e ↦ let f = h.1 t e in omega arith ] in
    elim (cases_lt x m) [
      | inl l ↦ let e : x ≡ min x m = omega arith in (subst (λ n. stands_in (x ∷ xs) n ≡ true) e (stands_here x xs x refl), low)
      | inr l ↦ let e : m ≡ min x m = omega arith in (subst (λ n. stands_in (x ∷ xs) n ≡ true) e (stands_more x xs m h.0), low)
    ]

pub least_is : (xs : List ℕ) → IsLeast (stands_in xs) (least xs)
least_is [] = λ t. refl
least_is (x ∷ xs) = lesser_is x xs (least xs) (least_is xs)

filter_stands : (p : ℕ → Bool) (xs : List ℕ) (t : ℕ) → stands_in (filter p xs) t ≡ (p t && stands_in xs t)
filter_stands p [] t = elim (two (p t)) [ inl a ↦ rw a refl | inr a ↦ rw a refl ]
filter_stands p (x ∷ xs) t =
    elim (cases_eq x t) [
      | inl e ↦ elim (two (p x)) [
        | inl a ↦ let b : p t ≡ true = rw e at a in rw (a, b) (stands_here x (filter p xs) t e ∙ sym (stands_here x xs t e))
        | inr a ↦ let b : p t ≡ false = rw e at a in rw a (filter_stands p xs t ∙ rw b refl)
      ]
      | inr e ↦ elim (two (p x)) [
        | inl a ↦ rw a (stands_behind x (filter p xs) t e ∙ filter_stands p xs t ∙ ap (λ b. p t && b) (sym (stands_behind x xs t e)))
        | inr a ↦ rw a (filter_stands p xs t ∙ ap (λ b. p t && b) (sym (stands_behind x xs t e)))
      ]
    ]

-- in one of two alone, by where it stands
abbrev pub apart : List ℕ → List ℕ → ℕ → Bool
apart xs ys t = not (stands_in xs t && stands_in ys t) && (stands_in xs t || stands_in ys t)

is_least_for : (p q : ℕ → Bool) (o : Option ℕ) → ((t : ℕ) → p t ≡ q t) → IsLeast p o → IsLeast q o
is_least_for p q None same h = λ t. sym (same t) ∙ h t
is_least_for p q (Some x) same h = (sym (same x) ∙ h.0, λ t s. h.1 t (same t ∙ s))

apart_least : (xs ys : List ℕ) → IsLeast (apart xs ys) (least (filter (in_one xs ys) (xs ++ ys)))
apart_least xs ys = is_least_for (stands_in (filter (in_one xs ys) (xs ++ ys))) (apart xs ys) _ (λ t. filter_stands (in_one xs ys) (xs ++ ys) t ∙ ap (λ b. in_one xs ys t && b) (list_any-append (λ m. m == t) xs ys)) (least_is (filter (in_one xs ys) (xs ++ ys)))

-- lists with the same numbers have the same least apart
pub same_apart : (xs ys ns ms : List ℕ) → ((t : ℕ) → stands_in xs t ≡ stands_in ns t) → ((t : ℕ) → stands_in ys t ≡ stands_in ms t) → least (filter (in_one xs ys) (xs ++ ys)) ≡ least (filter (in_one ns ms) (ns ++ ms))
same_apart xs ys ns ms a b = least_unique (apart xs ys) (apart ns ms) _ _ (λ t. rw (a t, b t) refl) (apart_least xs ys) (apart_least ns ms)

-- the first place at which two rising lists differ tells the least
abbrev pub mismatch : List ℕ → List ℕ → Option ℕ
mismatch [] [] = None
mismatch [] (y ∷ ys) = Some y
mismatch (x ∷ xs) [] = Some x
mismatch (x ∷ xs) (y ∷ ys) = if x == y then mismatch xs ys else Some (min x y)

-- each number is below all behind it
abbrev pub Rises : List ℕ → Type 0
Rises [] = Unit {0}
Rises (x ∷ xs) = ((t : ℕ) → stands_in xs t ≡ true → x < t) × Rises xs

up_at : (x y : ℕ) (ys : List ℕ) → IsStrictlyIncreasing (x ∷ y ∷ ys) → x < y
up_at x y ys up = up 0 (omega arith)

tail_up : (x : ℕ) (xs : List ℕ) → IsStrictlyIncreasing (x ∷ xs) → IsStrictlyIncreasing xs
tail_up x xs up = λ k h. let e : k + 1 ≡ suc k = omega arith in let u = up (suc k) (omega arith) in let f : suc k + 1 ≡ suc (k + 1) = omega arith in rw f at u

head_below : (x : ℕ) (xs : List ℕ) → IsStrictlyIncreasing (x ∷ xs) → (t : ℕ) → stands_in xs t ≡ true → x < t
head_below x [] up t h = absurd cc
head_below x (y ∷ ys) up t h =
    let l = up_at x y ys up in
    let go = head_below y ys (tail_up x (y ∷ ys) up) t in
    elim (stands_cases y ys t h) [ inl e ↦ omega arith | inr e ↦ let m = go e in omega arith ]

pub rises : (xs : List ℕ) → IsStrictlyIncreasing xs → Rises xs
rises [] up = tt
rises (x ∷ xs) up = (head_below x xs up, rises xs (tail_up x xs up))

-- a number below all of a rising list does not stand in it
not_in : (xs : List ℕ) (n : ℕ) → ((t : ℕ) → stands_in xs t ≡ true → n < t) → stands_in xs n ≡ false
not_in xs n h = elim (two (stands_in xs n)) [ inl a ↦ let l = h n a in absurd (omega arith) | inr a ↦ a ]

not_below : (x : ℕ) (xs : List ℕ) (n : ℕ) → Rises (x ∷ xs) → n < x → stands_in (x ∷ xs) n ≡ false
not_below x xs n r l = not_in (x ∷ xs) n (λ t s. elim (stands_cases x xs t s) [ inl e ↦ omega arith | inr e ↦ let m = r.0 t e in omega arith ])

from_head : (x : ℕ) (xs : List ℕ) (t : ℕ) → Rises (x ∷ xs) → stands_in (x ∷ xs) t ≡ true → x ≤ t
from_head x xs t r s = elim (stands_cases x xs t s) [ inl e ↦ omega arith | inr e ↦ let m = r.0 t e in omega arith ]

one_of : (a b : Bool) → (not (a && b) && (a || b)) ≡ true → (a ≡ true) ⊎ (b ≡ true)
one_of true b h = inl refl
one_of false b h = inr h

left_alone : (a b : Bool) → a ≡ true → b ≡ false → (not (a && b) && (a || b)) ≡ true
left_alone true true h k = absurd cc
left_alone true false h k = refl
left_alone false b h k = absurd cc

right_alone : (a b : Bool) → a ≡ false → b ≡ true → (not (a && b) && (a || b)) ≡ true
right_alone true b h k = absurd cc
right_alone false true h k = refl
right_alone false false h k = absurd cc

both_or_none : (a b : Bool) → a ≡ b → (not (a && b) && (a || b)) ≡ false
both_or_none true true h = refl
both_or_none true false h = absurd cc
both_or_none false true h = absurd cc
both_or_none false false h = refl

left_first : (x : ℕ) (xs ys : List ℕ) → Rises (x ∷ xs) → stands_in ys x ≡ false → ((t : ℕ) → stands_in ys t ≡ true → x ≤ t) → IsLeast (apart (x ∷ xs) ys) (Some x)
left_first x xs ys r n low = (left_alone (stands_in (x ∷ xs) x) (stands_in ys x) (stands_here x xs x refl) n, λ t s. elim (one_of (stands_in (x ∷ xs) t) (stands_in ys t) s) [ inl a ↦ from_head x xs t r a | inr a ↦ low t a ])

right_first : (y : ℕ) (xs ys : List ℕ) → Rises (y ∷ ys) → stands_in xs y ≡ false → ((t : ℕ) → stands_in xs t ≡ true → y ≤ t) → IsLeast (apart xs (y ∷ ys)) (Some y)
right_first y xs ys r n low = (right_alone (stands_in xs y) (stands_in (y ∷ ys) y) n (stands_here y ys y refl), λ t s. elim (one_of (stands_in xs t) (stands_in (y ∷ ys) t) s) [ inl a ↦ low t a | inr a ↦ from_head y ys t r a ])

heads_same : (x y : ℕ) (xs ys : List ℕ) → Rises (x ∷ xs) → Rises (y ∷ ys) → x ≡ y → (t : ℕ) → apart xs ys t ≡ apart (x ∷ xs) (y ∷ ys) t
heads_same x y xs ys r q e t =
    elim (cases_eq x t) [
      | inl here ↦ let a : stands_in xs t ≡ false = rw (← here) (not_in xs x r.0) in let b : stands_in ys t ≡ false = rw (← here, e) (not_in ys y q.0) in both_or_none (stands_in xs t) (stands_in ys t) (a ∙ sym b) ∙ sym (both_or_none (stands_in (x ∷ xs) t) (stands_in (y ∷ ys) t) (stands_here x xs t here ∙ sym (stands_here y ys t (sym e ∙ here))))
      | inr other ↦ rw (stands_behind x xs t other, stands_behind y ys t (λ f. other (e ∙ f))) refl
    ]

pub mismatch_is : (xs ys : List ℕ) → Rises xs → Rises ys → IsLeast (apart xs ys) (mismatch xs ys)
mismatch_is [] [] r q = λ t. refl
mismatch_is [] (y ∷ ys) r q = right_first y [] ys q refl (λ t s. absurd cc)
mismatch_is (x ∷ xs) [] r q = left_first x xs [] r refl (λ t s. absurd cc)
mismatch_is (x ∷ xs) (y ∷ ys) r q =
    elim (cases_eq x y) [
      | inl e ↦ let f : (x == y) ≡ true = grind (arith, nat_tests) in rw f (is_least_for (apart xs ys) (apart (x ∷ xs) (y ∷ ys)) (mismatch xs ys) (heads_same x y xs ys r q e) (mismatch_is xs ys r.1 q.1))
      | inr e ↦ let f : (x == y) ≡ false = grind (arith, nat_tests) in rw f (elim (cases_lt x y) [
        | inl l ↦ let m : x ≡ min x y = omega arith in moved _ _ _ m (left_first x xs (y ∷ ys) r (not_below y ys x q l) (λ t s. let k = from_head y ys t q s in omega arith))
        | inr l ↦ let m : y ≡ min x y = omega arith in let less : y < x = omega arith in moved _ _ _ m (right_first y (x ∷ xs) ys q (not_below x xs y r less) (λ t s. let k = from_head x xs t r s in omega arith))
      ])
    ]

pub walked : (xs ys : List ℕ) (o : Option ℕ) → IsStrictlyIncreasing xs → IsStrictlyIncreasing ys → mismatch xs ys ≡ o → o ≡ least (filter (in_one xs ys) (xs ++ ys))
walked xs ys o a b h = sym h ∙ least_unique (apart xs ys) (apart xs ys) _ _ (λ t. refl) (mismatch_is xs ys (rises xs a) (rises ys b)) (apart_least xs ys)

-- the walk, by its place
nil : (k : ℕ) → drop {A = ℕ} k [] ≡ []
nil zero = refl
nil (suc k) = refl

pub same_step : (xs ys : List ℕ) (k : ℕ) → k < length xs → k < length ys → get_or xs k 0 ≡ get_or ys k 0 → mismatch (drop k xs) (drop k ys) ≡ mismatch (drop (k + 1) xs) (drop (k + 1) ys)
same_step [] ys k h g e = absurd (omega arith)
same_step (x ∷ xs) [] k h g e = absurd (omega arith)
same_step (x ∷ xs) (y ∷ ys) zero h g e = let f : (x == y) ≡ true = grind (arith, nat_tests) in rw f refl
same_step (x ∷ xs) (y ∷ ys) (suc k) h g e = let n : suc k + 1 ≡ suc (k + 1) = omega arith in rw n (same_step xs ys k (omega arith) (omega arith) e)

pub apart_step : (xs ys : List ℕ) (k : ℕ) → k < length xs → k < length ys → get_or xs k 0 ≢ get_or ys k 0 → mismatch (drop k xs) (drop k ys) ≡ Some (min (get_or xs k 0) (get_or ys k 0))
apart_step [] ys k h g e = absurd (omega arith)
apart_step (x ∷ xs) [] k h g e = absurd (omega arith)
apart_step (x ∷ xs) (y ∷ ys) zero h g e = let f : (x == y) ≡ false = grind (arith, nat_tests) in rw f refl
apart_step (x ∷ xs) (y ∷ ys) (suc k) h g e = apart_step xs ys k (omega arith) (omega arith) e

pub left_over : (xs ys : List ℕ) (k : ℕ) → k < length xs → length ys ≤ k → mismatch (drop k xs) (drop k ys) ≡ Some (get_or xs k 0)
left_over [] ys k h g = absurd (omega arith)
left_over (x ∷ xs) [] zero h g = refl
left_over (x ∷ xs) [] (suc k) h g = rw nil at (left_over xs [] k (omega arith) (omega arith))
left_over (x ∷ xs) (y ∷ ys) zero h g = absurd (omega arith)
left_over (x ∷ xs) (y ∷ ys) (suc k) h g = left_over xs ys k (omega arith) (omega arith)

pub right_over : (xs ys : List ℕ) (k : ℕ) → length xs ≤ k → k < length ys → mismatch (drop k xs) (drop k ys) ≡ Some (get_or ys k 0)
right_over xs [] k h g = absurd (omega arith)
right_over [] (y ∷ ys) zero h g = refl
right_over [] (y ∷ ys) (suc k) h g = rw nil at (right_over [] ys k (omega arith) (omega arith))
right_over (x ∷ xs) (y ∷ ys) zero h g = absurd (omega arith)
right_over (x ∷ xs) (y ∷ ys) (suc k) h g = right_over xs ys k (omega arith) (omega arith)

pub none_over : (xs ys : List ℕ) (k : ℕ) → length xs ≤ k → length ys ≤ k → mismatch (drop k xs) (drop k ys) ≡ None
none_over [] [] zero h g = refl
none_over [] [] (suc k) h g = refl
none_over [] (y ∷ ys) zero h g = absurd (omega arith)
none_over [] (y ∷ ys) (suc k) h g = rw nil at (none_over [] ys k (omega arith) (omega arith))
none_over (x ∷ xs) [] zero h g = absurd (omega arith)
none_over (x ∷ xs) [] (suc k) h g = rw nil at (none_over xs [] k (omega arith) (omega arith))
none_over (x ∷ xs) (y ∷ ys) zero h g = absurd (omega arith)
none_over (x ∷ xs) (y ∷ ys) (suc k) h g = none_over xs ys k (omega arith) (omega arith)

-- `dedup` keeps what stands in a list
dedup_from_stands : (k : ℕ) (xs : List ℕ) (t : ℕ) → stands_in (dedup_from eqb k xs) t ≡ stands_in (k ∷ xs) t
dedup_from_stands k [] t = refl
dedup_from_stands k (x ∷ xs) t =
    elim (cases_eq x k) [
      | inl e ↦ let f : eqb x k ≡ true = grind (arith, nat_tests) in rw f (dedup_from_stands k xs t ∙ elim (cases_eq k t) [
        | inl here ↦ stands_here k xs t here ∙ sym (stands_here k (x ∷ xs) t here)
        | inr other ↦ stands_behind k xs t other ∙ sym (stands_behind x xs t (λ g. other (sym e ∙ g))) ∙ sym (stands_behind k (x ∷ xs) t other)
      ])
      | inr e ↦ let f : eqb x k ≡ false = grind (arith, nat_tests) in rw f (elim (cases_eq k t) [
        | inl here ↦ stands_here k (dedup_from eqb x xs) t here ∙ sym (stands_here k (x ∷ xs) t here)
        | inr other ↦ stands_behind k (dedup_from eqb x xs) t other ∙ dedup_from_stands x xs t ∙ sym (stands_behind k (x ∷ xs) t other)
      ])
    ]

dedup_stands : (xs : List ℕ) (t : ℕ) → stands_in (dedup eqb xs) t ≡ stands_in xs t
dedup_stands [] t = refl
dedup_stands (x ∷ xs) t = dedup_from_stands x xs t

-- numbers sorted, then each once
pub set_rises : (sorted once : List ℕ) → IsSorted nat_cmp sorted → once ≡ dedup eqb sorted → IsStrictlyIncreasing once
set_rises sorted once up e = rw e (IsStrictlyIncreasing-dedup sorted up)

pub set_same : (numbers sorted once : List ℕ) → IsPermutation numbers sorted → once ≡ dedup eqb sorted → (n : ℕ) → stands_in once n ≡ stands_in numbers n
set_same numbers sorted once p e n = rw e (dedup_stands sorted n ∙ sym (list_any-IsPermutation (λ m. m == n) numbers sorted p))

pub set_told : (ns ms left right : List ℕ) (o : Option ℕ) → o ≡ least (filter (in_one left right) (left ++ right)) → ((n : ℕ) → stands_in left n ≡ stands_in ns n) → ((n : ℕ) → stands_in right n ≡ stands_in ms n) → at_token o ≡ set_fault ns ms
unfolding set_fault
set_told ns ms left right o is a b = ap at_token (is ∙ same_apart left right ns ms a b)
