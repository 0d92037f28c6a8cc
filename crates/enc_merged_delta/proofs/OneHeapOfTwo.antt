-- What reads in two heaps one behind the other reads the same in one heap that is both.
use Rattle.std.proofs.Common.{◌≡◌, ℕ, zero, suc, ◌+◌, ◌-◌, ◌<◌, ◌≤◌, Bool, true, false, List, [], ◌∷◌, ◌++◌, length, take, drop, Option, Some, None, refl, sym, ap, ◌∙◌, inl, inr, arith, length-append}
use Rattle.std.specs.Prelude.{nat_lt, nat_le, ◌==◌, if◌then◌else◌, option_map, option_and_then}
use Rattle.std.proofs.Math.Seq.{drop-append-add}
use Rattle.std.proofs.lemmas.Bool.{cases_lt}
use Rattle.std.proofs.lemmas.Bool.Decides.{nat_tests}
use Rattle.std.proofs.lemmas.List.{drop-append-le, length-drop, take-append-le}
use Rattle.enc_base.specs.Numbers.{compressed, in_two, in_four}
use Rattle.enc_meta.specs.Root.{before_zero}
use Rattle.enc_meta.specs.Heaps.{blob_entry, text_entry, user_entry, units_in}
use Rattle.enc_meta.specs.Joined.{entry_in, joined_entry}

-- what an entry says stays where bytes follow, and where bytes stand in front
pub record LastsIn (entry : List ℕ → ℕ → Option (List ℕ)) : Type 0 where
  pub front : (h rest : List ℕ) (o : ℕ) (x : List ℕ) → entry h o ≡ Some x → entry (h ++ rest) o ≡ Some x
  pub behind : (g h : List ℕ) (o : ℕ) → entry (g ++ h) (length g + o) ≡ entry h o

by_place : (entry : List ℕ → ℕ → Option (List ℕ)) (h : List ℕ) (hs : List (List ℕ)) (o : ℕ) (b : Bool) → nat_lt o (length h) ≡ b
    → entry_in entry (h ∷ hs) o ≡ (if b then entry h o else entry_in entry hs (o - length h))
unfolding entry_in
by_place entry h hs o b e = ap (λ (t : Bool). if t then entry h o else entry_in entry hs (o - length h)) e

none_in : (entry : List ℕ → ℕ → Option (List ℕ)) (o : ℕ) → entry_in entry [] o ≡ None
unfolding entry_in
none_in entry o = refl

-- the first of the two alone
first_alone : (entry : List ℕ → ℕ → Option (List ℕ)) (a b : List ℕ) (o : ℕ) (x : List ℕ) → LastsIn entry → entry_in entry (a ∷ []) o ≡ Some x → entry_in entry ((a ++ b) ∷ []) o ≡ Some x
first_alone entry a b o x lasts h = by (nat_lt o (length a)) refl
  where
    by : (t : Bool) → nat_lt o (length a) ≡ t → entry_in entry ((a ++ b) ∷ []) o ≡ Some x
    by true e =
        let low : o < length a = grind (arith, nat_tests, e) in
        let long = length-append a b in
        let within : nat_lt o (length (a ++ b)) ≡ true = let w : o < length (a ++ b) = omega (arith, low, long) in grind (arith, nat_tests, w) in
        by_place entry (a ++ b) [] o true within ∙ lasts.front a b o x (sym (by_place entry a [] o true e) ∙ h)
    by false e = let n : None ≡ Some x = sym (none_in entry (o - length a)) ∙ sym (by_place entry a [] o false e) ∙ h in absurd cc

-- the two one behind the other
both_alone : (entry : List ℕ → ℕ → Option (List ℕ)) (a b : List ℕ) (o : ℕ) (x : List ℕ) → LastsIn entry → entry_in entry (a ∷ b ∷ []) o ≡ Some x → entry_in entry ((a ++ b) ∷ []) o ≡ Some x
both_alone entry a b o x lasts h = by (nat_lt o (length a)) refl
  where
    second : (t : Bool) → nat_lt o (length a) ≡ false → nat_lt (o - length a) (length b) ≡ t → entry_in entry ((a ++ b) ∷ []) o ≡ Some x
    second true e f =
        let high : length a ≤ o = grind (arith, nat_tests, e) in
        let low : o - length a < length b = grind (arith, nat_tests, f) in
        let long = length-append a b in
        let at : length a + (o - length a) ≡ o = omega (arith, high) in
        let within : nat_lt o (length (a ++ b)) ≡ true = let w : o < length (a ++ b) = omega (arith, high, low, long) in grind (arith, nat_tests, w) in
        by_place entry (a ++ b) [] o true within
        ∙ ap (entry (a ++ b)) (sym at)
        ∙ lasts.behind a b (o - length a)
        ∙ sym (by_place entry b [] (o - length a) true f)
        ∙ sym (by_place entry a (b ∷ []) o false e)
        ∙ h
    second false e f = let n : None ≡ Some x = sym (none_in entry (o - length a - length b)) ∙ sym (by_place entry b [] (o - length a) false f) ∙ sym (by_place entry a (b ∷ []) o false e) ∙ h in absurd cc

    by : (t : Bool) → nat_lt o (length a) ≡ t → entry_in entry ((a ++ b) ∷ []) o ≡ Some x
    by true e =
        let low : o < length a = grind (arith, nat_tests, e) in
        let long = length-append a b in
        let within : nat_lt o (length (a ++ b)) ≡ true = let w : o < length (a ++ b) = omega (arith, low, long) in grind (arith, nat_tests, w) in
        by_place entry (a ++ b) [] o true within ∙ lasts.front a b o x (sym (by_place entry a (b ∷ []) o true e) ∙ h)
    by false e = second (nat_lt (o - length a) (length b)) e refl

-- so it is behind other heaps
pub Carries : (List ℕ → ℕ → Option (List ℕ)) → List (List ℕ) → List (List ℕ) → Type 0
Carries entry old new = (o : ℕ) (x : List ℕ) → entry_in entry old o ≡ Some x → entry_in entry new o ≡ Some x

unfolded : (entry : List ℕ → ℕ → Option (List ℕ)) (old new : List (List ℕ)) → ((o : ℕ) (x : List ℕ) → entry_in entry old o ≡ Some x → entry_in entry new o ≡ Some x) → Carries entry old new
unfolding Carries
unfolded entry old new f = f

one_more : (entry : List ℕ → ℕ → Option (List ℕ)) (h : List ℕ) (old new : List (List ℕ)) → Carries entry old new → Carries entry (h ∷ old) (h ∷ new)
unfolding Carries
one_more entry h old new carries o x e = by (nat_lt o (length h)) refl
  where
    by : (t : Bool) → nat_lt o (length h) ≡ t → entry_in entry (h ∷ new) o ≡ Some x
    by true f = by_place entry h new o true f ∙ sym (by_place entry h old o true f) ∙ e
    by false f = by_place entry h new o false f ∙ carries (o - length h) x (sym (by_place entry h old o false f) ∙ e)

behind_others : (entry : List ℕ → ℕ → Option (List ℕ)) (before old new : List (List ℕ)) → Carries entry old new → Carries entry (before ++ old) (before ++ new)
behind_others entry [] old new carries = carries
behind_others entry (h ∷ before) old new carries = one_more entry h (before ++ old) (before ++ new) (behind_others entry before old new carries)

-- an entry of the joined heaps, offset 0 being the empty one
joined : (entry : List ℕ → ℕ → Option (List ℕ)) (old new : List (List ℕ)) (o : ℕ) (x : List ℕ) → Carries entry old new → joined_entry entry old o ≡ Some x → joined_entry entry new o ≡ Some x
unfolding joined_entry Carries
joined entry old new o x carries h = by (o == 0) h
  where
    by : (t : Bool) → (if t then Some [] else entry_in entry old o) ≡ Some x → (if t then Some [] else entry_in entry new o) ≡ Some x
    by true e = e
    by false e = carries o x e

pub first_carried : (entry : List ℕ → ℕ → Option (List ℕ)) (before : List (List ℕ)) (a b : List ℕ) (o : ℕ) (x : List ℕ) → LastsIn entry
    → joined_entry entry (before ++ a ∷ []) o ≡ Some x → joined_entry entry (before ++ (a ++ b) ∷ []) o ≡ Some x
first_carried entry before a b o x lasts h =
    joined entry (before ++ a ∷ []) (before ++ (a ++ b) ∷ []) o x (behind_others entry before (a ∷ []) ((a ++ b) ∷ []) (unfolded entry (a ∷ []) ((a ++ b) ∷ []) (λ k y e. first_alone entry a b k y lasts e))) h

pub both_carried : (entry : List ℕ → ℕ → Option (List ℕ)) (before : List (List ℕ)) (a b : List ℕ) (o : ℕ) (x : List ℕ) → LastsIn entry
    → joined_entry entry (before ++ a ∷ b ∷ []) o ≡ Some x → joined_entry entry (before ++ (a ++ b) ∷ []) o ≡ Some x
both_carried entry before a b o x lasts h =
    joined entry (before ++ a ∷ b ∷ []) (before ++ (a ++ b) ∷ []) o x (behind_others entry before (a ∷ b ∷ []) ((a ++ b) ∷ []) (unfolded entry (a ∷ b ∷ []) ((a ++ b) ∷ []) (λ k y e. both_alone entry a b k y lasts e))) h

-- where nothing is left
drop_long : (o : ℕ) (h : List ℕ) → length h < o → drop o h ≡ []
drop_long zero h lt = absurd (omega (arith, lt))
drop_long (suc o) [] lt = refl
drop_long (suc o) (x ∷ h) lt = drop_long o h (omega (arith, lt))

-- texts
none_before : (b : ℕ) (y : List ℕ) (o p : Option (List ℕ)) → ((z : List ℕ) → o ≡ Some z → p ≡ Some z) → option_map (λ (z : List ℕ). b ∷ z) o ≡ Some y → option_map (λ (z : List ℕ). b ∷ z) p ≡ Some y
none_before b y None p more e = absurd cc
none_before b y (Some z) p more e = ap (option_map (λ (z : List ℕ). b ∷ z)) (more z refl) ∙ e

before_zero_more : (xs rest y : List ℕ) → before_zero xs ≡ Some y → before_zero (xs ++ rest) ≡ Some y
before_zero_more [] rest y h = absurd cc
before_zero_more (b ∷ xs) rest y h = by (b == 0) h (λ z f. before_zero_more xs rest z f)
  where
    by : (t : Bool) → (if t then Some [] else option_map (λ z. b ∷ z) (before_zero xs)) ≡ Some y
        → ((z : List ℕ) → before_zero xs ≡ Some z → before_zero (xs ++ rest) ≡ Some z)
        → (if t then Some [] else option_map (λ z. b ∷ z) (before_zero (xs ++ rest))) ≡ Some y
    by true e more = e
    by false e more = none_before b y (before_zero xs) (before_zero (xs ++ rest)) more e

text_front : (h rest : List ℕ) (o : ℕ) (x : List ℕ) → text_entry h o ≡ Some x → text_entry (h ++ rest) o ≡ Some x
unfolding text_entry
text_front h rest o x e = elim (cases_lt (length h) o) [
  | inl past ↦ let n : None ≡ Some x = ap before_zero (sym (drop_long o h past)) ∙ e in absurd cc
  | inr le ↦ ap before_zero (drop-append-le o h rest le) ∙ before_zero_more (drop o h) rest x e
]

text_behind : (g h : List ℕ) (o : ℕ) → text_entry (g ++ h) (length g + o) ≡ text_entry h o
unfolding text_entry
text_behind g h o = ap before_zero (drop-append-add g h o)

pub texts_last : LastsIn text_entry
texts_last = record { front = text_front; behind = text_behind }

-- blobs: a compressed length, and so many bytes
in_four_more : (a : ℕ) (xs rest : List ℕ) (p : ℕ × ℕ) → in_four a xs ≡ Some p → in_four a (xs ++ rest) ≡ Some p
in_four_more a [] rest p e = absurd cc
in_four_more a (b ∷ []) rest p e = absurd cc
in_four_more a (b ∷ c ∷ []) rest p e = absurd cc
in_four_more a (b ∷ c ∷ d ∷ xs) rest p e = e

in_two_more : (a : ℕ) (xs rest : List ℕ) (p : ℕ × ℕ) → in_two a xs ≡ Some p → in_two a (xs ++ rest) ≡ Some p
in_two_more a [] rest p e = absurd cc
in_two_more a (b ∷ xs) rest p e = e

compressed_more : (xs rest : List ℕ) (p : ℕ × ℕ) → compressed xs ≡ Some p → compressed (xs ++ rest) ≡ Some p
compressed_more [] rest p e = absurd cc
compressed_more (a ∷ xs) rest p e = by (nat_lt a 0x80) (nat_lt a 0xC0) (nat_lt a 0xE0) e
  where
    by : (s t u : Bool) → (if s then Some (a, 1) else if t then in_two a xs else if u then in_four a xs else None) ≡ Some p
        → (if s then Some (a, 1) else if t then in_two a (xs ++ rest) else if u then in_four a (xs ++ rest) else None) ≡ Some p
    by true t u e = e
    by false true u e = in_two_more a xs rest p e
    by false false true e = in_four_more a xs rest p e
    by false false false e = absurd cc

-- what stands at a place whose number and end are known
abbrev bytes_by : List ℕ → ℕ → Option (ℕ × ℕ) → Option (List ℕ)
bytes_by h o None = None
bytes_by h o (Some p) = if nat_le (o + p.1 + p.0) (length h) then Some (take p.0 (drop (o + p.1) h)) else None

abbrev blob_by : List ℕ → ℕ → Bool → Option (ℕ × ℕ) → Option (List ℕ)
blob_by h o true q = bytes_by h o q
blob_by h o false q = None

blob_is : (h : List ℕ) (o : ℕ) (b : Bool) (q : Option (ℕ × ℕ)) → nat_le o (length h) ≡ b → compressed (drop o h) ≡ q → blob_entry h o ≡ blob_by h o b q
unfolding blob_entry
blob_is h o true None e f = rw (e, f) refl
blob_is h o true (Some p) e f = rw (e, f) refl
blob_is h o false q e f = rw e refl

blob_front : (h rest : List ℕ) (o : ℕ) (x : List ℕ) → blob_entry h o ≡ Some x → blob_entry (h ++ rest) o ≡ Some x
blob_front h rest o x e = by (nat_le o (length h)) (compressed (drop o h)) refl refl
  where
    by : (b : Bool) (q : Option (ℕ × ℕ)) → nat_le o (length h) ≡ b → compressed (drop o h) ≡ q → blob_entry (h ++ rest) o ≡ Some x
    by false q f g = let n : None ≡ Some x = sym (blob_is h o false q f g) ∙ e in absurd cc
    by true None f g = let n : None ≡ Some x = sym (blob_is h o true None f g) ∙ e in absurd cc
    by true (Some p) f g = within (nat_le (o + p.1 + p.0) (length h)) refl
      where
        within : (t : Bool) → nat_le (o + p.1 + p.0) (length h) ≡ t → blob_entry (h ++ rest) o ≡ Some x
        within false w = let n : None ≡ Some x = sym (blob_is h o true (Some p) f g ∙ ap (λ (z : Bool). if z then Some (take p.0 (drop (o + p.1) h)) else None) w) ∙ e in absurd cc
        within true w =
            let le : o ≤ length h = grind (arith, nat_tests, f) in
            let fits : o + p.1 + p.0 ≤ length h = grind (arith, nat_tests, w) in
            let long = length-append h rest in
            let a : nat_le o (length (h ++ rest)) ≡ true = let z : o ≤ length (h ++ rest) = omega (arith, le, long) in grind (arith, nat_tests, z) in
            let b : compressed (drop o (h ++ rest)) ≡ Some p = ap compressed (drop-append-le o h rest le) ∙ compressed_more (drop o h) rest p g in
            let c : nat_le (o + p.1 + p.0) (length (h ++ rest)) ≡ true = let z : o + p.1 + p.0 ≤ length (h ++ rest) = omega (arith, fits, long) in grind (arith, nat_tests, z) in
            let d : o + p.1 ≤ length h = omega (arith, fits) in
            let rest_long = length-drop (o + p.1) h in
            let same : take p.0 (drop (o + p.1) (h ++ rest)) ≡ take p.0 (drop (o + p.1) h) = ap (take p.0) (drop-append-le (o + p.1) h rest d) ∙ take-append-le p.0 (drop (o + p.1) h) rest (omega (arith, fits, rest_long)) in
            blob_is (h ++ rest) o true (Some p) a b
            ∙ ap (λ (z : Bool). if z then Some (take p.0 (drop (o + p.1) (h ++ rest))) else None) c
            ∙ ap (λ (l : List ℕ). Some l) same
            ∙ sym (blob_is h o true (Some p) f g ∙ ap (λ (z : Bool). if z then Some (take p.0 (drop (o + p.1) h)) else None) w)
            ∙ e

le_past : (g h : List ℕ) (n : ℕ) → nat_le (length g + n) (length (g ++ h)) ≡ nat_le n (length h)
le_past g h n =
    let long = length-append g h in
    by (nat_le n (length h)) refl long
  where
    by : (b : Bool) → nat_le n (length h) ≡ b → length (g ++ h) ≡ length g + length h → nat_le (length g + n) (length (g ++ h)) ≡ b
    by true e long = let le : n ≤ length h = grind (arith, nat_tests, e) in let z : length g + n ≤ length (g ++ h) = omega (arith, le, long) in grind (arith, nat_tests, z)
    by false e long = let lt : length h < n = grind (arith, nat_tests, e) in let z : length (g ++ h) < length g + n = omega (arith, lt, long) in grind (arith, nat_tests, z)

blob_behind : (g h : List ℕ) (o : ℕ) → blob_entry (g ++ h) (length g + o) ≡ blob_entry h o
blob_behind g h o = by (nat_le o (length h)) (compressed (drop o h)) refl refl
  where
    by : (b : Bool) (q : Option (ℕ × ℕ)) → nat_le o (length h) ≡ b → compressed (drop o h) ≡ q → blob_entry (g ++ h) (length g + o) ≡ blob_entry h o
    by false q f e = blob_is (g ++ h) (length g + o) false q (le_past g h o ∙ f) (ap compressed (drop-append-add g h o) ∙ e) ∙ sym (blob_is h o false q f e)
    by true None f e = blob_is (g ++ h) (length g + o) true None (le_past g h o ∙ f) (ap compressed (drop-append-add g h o) ∙ e) ∙ sym (blob_is h o true None f e)
    by true (Some p) f e =
        let at : length g + o + p.1 ≡ length g + (o + p.1) = omega arith in
        let end : length g + o + p.1 + p.0 ≡ length g + (o + p.1 + p.0) = omega arith in
        blob_is (g ++ h) (length g + o) true (Some p) (le_past g h o ∙ f) (ap compressed (drop-append-add g h o) ∙ e)
        ∙ ap (λ (n : ℕ). if nat_le n (length (g ++ h)) then Some (take p.0 (drop (length g + o + p.1) (g ++ h))) else None) end
        ∙ ap (λ (z : Bool). if z then Some (take p.0 (drop (length g + o + p.1) (g ++ h))) else None) (le_past g h (o + p.1 + p.0))
        ∙ ap (λ (l : List ℕ). if nat_le (o + p.1 + p.0) (length h) then Some (take p.0 l) else None) (ap (λ n. drop n (g ++ h)) at ∙ drop-append-add g h (o + p.1))
        ∙ sym (blob_is h o true (Some p) f e)

pub blobs_last : LastsIn blob_entry
blobs_last = record { front = blob_front; behind = blob_behind }

-- user texts: the units in a blob
user_front : (h rest : List ℕ) (o : ℕ) (x : List ℕ) → user_entry h o ≡ Some x → user_entry (h ++ rest) o ≡ Some x
unfolding user_entry
user_front h rest o x e = by (blob_entry h o) refl e
  where
    by : (q : Option (List ℕ)) → blob_entry h o ≡ q → option_and_then units_in q ≡ Some x → option_and_then units_in (blob_entry (h ++ rest) o) ≡ Some x
    by None f e = absurd cc
    by (Some y) f e = ap (option_and_then units_in) (blob_front h rest o y f) ∙ e

user_behind : (g h : List ℕ) (o : ℕ) → user_entry (g ++ h) (length g + o) ≡ user_entry h o
unfolding user_entry
user_behind g h o = ap (option_and_then units_in) (blob_behind g h o)

pub users_last : LastsIn user_entry
users_last = record { front = user_front; behind = user_behind }
