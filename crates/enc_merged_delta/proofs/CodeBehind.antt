-- A body that stands whole in some bytes stands in more of them, and at places that differ by a multiple of four.
use Rattle.std.proofs.Common.{◌≡◌, ℕ, zero, suc, ◌+◌, ◌-◌, ◌*◌, ◌/◌, ◌%◌, ◌<◌, ◌≤◌, Bool, true, false, List, [], ◌∷◌, ◌++◌, length, take, drop, Option, Some, None, refl, sym, ap, ◌∙◌, inl, inr, arith, length-append}
use Rattle.std.specs.Prelude.{nat_le, ◌==◌, ◌&&◌, if◌then◌else◌, option_map, option_and_then}
use Rattle.std.specs.Int.{Width, w8, w16, w32, byte_len, from_le_bytes}
use Rattle.std.proofs.lemmas.Bool.{cases_lt}
use Rattle.std.proofs.lemmas.Bool.Decides.{nat_tests}
use Rattle.std.proofs.lemmas.List.{drop-append-le, length-drop, take-append-le}
use Rattle.enc_base.specs.Numbers.{little_endian_at, padded, has_flag}
use Rattle.enc_base.specs.Token.{nil}
use Rattle.enc_opcodes.specs.Instruction.{range_at}
use Rattle.enc_opcodes.specs.Clause.{Section, clause_size, counted_in, with_clauses, section_of_kind, section_in, section_followed, sections_in}
use Rattle.enc_opcodes.specs.Body.{Code, tiny_at, sections_at, if_short, sections_behind, fat_at, body_at}

-- numbers
byte_front : (front rest : List ℕ) → 1 ≤ length front → from_le_bytes w8 (front ++ rest) ≡ from_le_bytes w8 front
byte_front [] rest le = absurd (omega (arith, le))
byte_front (a ∷ front) rest le = refl

half_front : (front rest : List ℕ) → 2 ≤ length front → from_le_bytes w16 (front ++ rest) ≡ from_le_bytes w16 front
half_front [] rest le = absurd (omega (arith, le))
half_front (a ∷ []) rest le = absurd (omega (arith, le))
half_front (a ∷ b ∷ front) rest le = refl

word_front : (front rest : List ℕ) → 4 ≤ length front → from_le_bytes w32 (front ++ rest) ≡ from_le_bytes w32 front
word_front [] rest le = absurd (omega (arith, le))
word_front (a ∷ []) rest le = absurd (omega (arith, le))
word_front (a ∷ b ∷ []) rest le = absurd (omega (arith, le))
word_front (a ∷ b ∷ c ∷ []) rest le = absurd (omega (arith, le))
word_front (a ∷ b ∷ c ∷ d ∷ front) rest le = refl

-- the width's numbers are those of the front
ReadsFront : Width → Type 0
ReadsFront w = (front rest : List ℕ) → byte_len w ≤ length front → from_le_bytes w (front ++ rest) ≡ from_le_bytes w front

tested : {A : Type 0} (b c : Bool) (x y : A) → (b ≡ true → c ≡ true) → (b ≡ true → x ≡ y) → (z : A) → (if b then Some x else None) ≡ Some z → (if c then Some y else None) ≡ Some z
tested true c x y imp same z e = rw (imp refl, sym (same refl)) e
tested false c x y imp same z e = absurd cc

longer : (n : ℕ) (xs rest : List ℕ) → nat_le n (length xs) ≡ true → nat_le n (length (xs ++ rest)) ≡ true
longer n xs rest e =
    let le : n ≤ length xs = grind (arith, nat_tests, e) in
    let long = length-append xs rest in
    let more : n ≤ length (xs ++ rest) = omega (arith, le, long) in
    grind (arith, nat_tests, more)

number_more : (w : Width) (xs rest : List ℕ) (at v : ℕ) → ((front more : List ℕ) → byte_len w ≤ length front → from_le_bytes w (front ++ more) ≡ from_le_bytes w front)
    → little_endian_at w xs at ≡ Some v → little_endian_at w (xs ++ rest) at ≡ Some v
number_more w xs rest at v reads e =
    tested (nat_le (at + byte_len w) (length xs)) (nat_le (at + byte_len w) (length (xs ++ rest))) (from_le_bytes w (drop at xs)) (from_le_bytes w (drop at (xs ++ rest)))
    (longer (at + byte_len w) xs rest)
    (λ t. let le : at + byte_len w ≤ length xs = grind (arith, nat_tests, t) in
    let low : at ≤ length xs = omega (arith, le) in
    let many = length-drop at xs in
    sym (reads (drop at xs) rest (omega (arith, le, many))) ∙ ap (from_le_bytes w) (sym (drop-append-le at xs rest low)))
    v e

range_more : (xs rest : List ℕ) (at n : ℕ) (v : List ℕ) → range_at xs at n ≡ Some v → range_at (xs ++ rest) at n ≡ Some v
unfolding range_at
range_more xs rest at n v e =
    tested (nat_le (at + n) (length xs)) (nat_le (at + n) (length (xs ++ rest))) (take n (drop at xs)) (take n (drop at (xs ++ rest)))
    (longer (at + n) xs rest)
    (λ t. let le : at + n ≤ length xs = grind (arith, nat_tests, t) in
    let low : at ≤ length xs = omega (arith, le) in
    let many = length-drop at xs in
    sym (take-append-le n (drop at xs) rest (omega (arith, le, many))) ∙ ap (take n) (sym (drop-append-le at xs rest low)))
    v e

range_within : (xs : List ℕ) (at n : ℕ) (v : List ℕ) → range_at xs at n ≡ Some v → at + n ≤ length xs
unfolding range_at
range_within xs at n v e = by (nat_le (at + n) (length xs)) refl e
  where
    by : (b : Bool) → nat_le (at + n) (length xs) ≡ b → (if b then Some (take n (drop at xs)) else None) ≡ Some v → at + n ≤ length xs
    by true t e = grind (arith, nat_tests, t)
    by false t e = absurd cc

-- a section, and what is behind it
with_more : (fat more : Bool) (count : ℕ) (xs rest : List ℕ) (s : Section) (behind : List ℕ) → with_clauses fat more count xs ≡ Some (s, behind) → with_clauses fat more count (xs ++ rest) ≡ Some (s, behind ++ rest)
with_more fat more count xs rest s behind e = by (range_at xs 0 (clause_size fat * count)) refl e
  where
    size : ℕ
    size = clause_size fat * count

    made : List ℕ → List ℕ → Section × List ℕ
    made bytes ys = (record { fat = fat; more = more; count = count; clauses = bytes }, drop (clause_size fat * count) ys)

    by : (o : Option (List ℕ)) → range_at xs 0 (clause_size fat * count) ≡ o → option_map (λ (bytes : List ℕ). made bytes xs) o ≡ Some (s, behind) → with_clauses fat more count (xs ++ rest) ≡ Some (s, behind ++ rest)
    by None f e = absurd cc
    by (Some bytes) f e =
        let pair : made bytes xs ≡ (s, behind) = cc in
        let le = range_within xs 0 (clause_size fat * count) bytes f in
        let same : made bytes (xs ++ rest) ≡ (s, behind ++ rest) =
        ap (λ (l : List ℕ). (record { fat = fat; more = more; count = count; clauses = bytes }, l)) (drop-append-le (clause_size fat * count) xs rest (omega (arith, le)))
        ∙ ap (λ (p : Section × List ℕ). (p.0, p.1 ++ rest)) pair in
        ap (option_map (λ (b : List ℕ). made b (xs ++ rest))) (range_more xs rest 0 (clause_size fat * count) bytes f) ∙ ap (λ (p : Section × List ℕ). Some p) same

kind_more : (kind a b c : ℕ) (xs rest : List ℕ) (s : Section) (behind : List ℕ) → section_of_kind kind a b c xs ≡ Some (s, behind) → section_of_kind kind a b c (xs ++ rest) ≡ Some (s, behind ++ rest)
unfolding section_of_kind
kind_more kind a b c xs rest s behind e = by (kind == 0x01) (kind == 0x41) (kind == 0x81) (kind == 0xC1) e
  where
    by : (p q r t : Bool)
        → (if p then with_clauses false false (counted_in false a b c) xs else if q then with_clauses true false (counted_in true a b c) xs
        else if r then with_clauses false true (counted_in false a b c) xs else if t then with_clauses true true (counted_in true a b c) xs else None) ≡ Some (s, behind)
        → (if p then with_clauses false false (counted_in false a b c) (xs ++ rest) else if q then with_clauses true false (counted_in true a b c) (xs ++ rest)
        else if r then with_clauses false true (counted_in false a b c) (xs ++ rest) else if t then with_clauses true true (counted_in true a b c) (xs ++ rest) else None) ≡ Some (s, behind ++ rest)
    by true q r t e = with_more false false (counted_in false a b c) xs rest s behind e
    by false true r t e = with_more true false (counted_in true a b c) xs rest s behind e
    by false false true t e = with_more false true (counted_in false a b c) xs rest s behind e
    by false false false true e = with_more true true (counted_in true a b c) xs rest s behind e
    by false false false false e = absurd cc

section_more : (xs rest : List ℕ) (s : Section) (behind : List ℕ) → section_in xs ≡ Some (s, behind) → section_in (xs ++ rest) ≡ Some (s, behind ++ rest)
unfolding section_in
section_more [] rest s behind e = absurd cc
section_more (k ∷ []) rest s behind e = absurd cc
section_more (k ∷ a ∷ []) rest s behind e = absurd cc
section_more (k ∷ a ∷ b ∷ []) rest s behind e = absurd cc
section_more (k ∷ a ∷ b ∷ c ∷ xs) rest s behind e = kind_more k a b c xs rest s behind e

-- all sections, with any more steps
Goes : ℕ → ℕ → List ℕ → Type 0
Goes n k rest = (xs : List ℕ) (l : List Section) (behind : List ℕ) → sections_in n xs ≡ Some (l, behind) → sections_in k (xs ++ rest) ≡ Some (l, behind ++ rest)

followed_more : (x : Section × List ℕ) (rest : List ℕ) (next after : List ℕ → Option (List Section × List ℕ)) (l : List Section) (behind : List ℕ)
    → ((xs : List ℕ) (m : List Section) (b : List ℕ) → next xs ≡ Some (m, b) → after (xs ++ rest) ≡ Some (m, b ++ rest))
    → section_followed x next ≡ Some (l, behind) → section_followed (x.0, x.1 ++ rest) after ≡ Some (l, behind ++ rest)
followed_more x rest next after l behind more e = by x.0.more e
  where
    going : (o : Option (List Section × List ℕ)) → next x.1 ≡ o → option_map {U = List Section × List ℕ} (λ (y : List Section × List ℕ). (x.0 ∷ y.0, y.1)) o ≡ Some (l, behind)
        → option_map {U = List Section × List ℕ} (λ (y : List Section × List ℕ). (x.0 ∷ y.0, y.1)) (after (x.1 ++ rest)) ≡ Some (l, behind ++ rest)
    going None f e = absurd cc
    going (Some y) f e =
        let z : List Section × List ℕ = (x.0 ∷ y.0, y.1) in let w : List Section × List ℕ = (l, behind) in let pair : z ≡ w = cc in
        ap (option_map {U = List Section × List ℕ} (λ (y : List Section × List ℕ). (x.0 ∷ y.0, y.1))) (more x.1 y.0 y.1 f)
        ∙ ap (λ (p : List Section × List ℕ). Some (p.0, p.1 ++ rest)) pair

    by : (b : Bool) → (if b then option_map {U = List Section × List ℕ} (λ (y : List Section × List ℕ). (x.0 ∷ y.0, y.1)) (next x.1) else Some (x.0 ∷ [], x.1)) ≡ Some (l, behind)
        → (if b then option_map {U = List Section × List ℕ} (λ (y : List Section × List ℕ). (x.0 ∷ y.0, y.1)) (after (x.1 ++ rest)) else Some (x.0 ∷ [], x.1 ++ rest)) ≡ Some (l, behind ++ rest)
    by true e = going (next x.1) refl e
    by false e = let z : List Section × List ℕ = (x.0 ∷ [], x.1) in let w : List Section × List ℕ = (l, behind) in let pair : z ≡ w = cc in ap (λ (p : List Section × List ℕ). Some (p.0, p.1 ++ rest)) pair

sections_more : (n k : ℕ) (xs rest : List ℕ) (l : List Section) (behind : List ℕ) → n ≤ k → sections_in n xs ≡ Some (l, behind) → sections_in k (xs ++ rest) ≡ Some (l, behind ++ rest)
unfolding sections_in
sections_more zero k xs rest l behind le e = absurd cc
sections_more (suc n) zero xs rest l behind le e = absurd (omega (arith, le))
sections_more (suc n) (suc k) xs rest l behind le e = by (section_in xs) refl e (λ ys m b f. sections_more n k ys rest m b (omega (arith, le)) f)
  where
    by : (o : Option (Section × List ℕ)) → section_in xs ≡ o → option_and_then (λ x. section_followed x (sections_in n)) o ≡ Some (l, behind)
        → ((ys : List ℕ) (m : List Section) (b : List ℕ) → sections_in n ys ≡ Some (m, b) → sections_in k (ys ++ rest) ≡ Some (m, b ++ rest))
        → option_and_then (λ x. section_followed x (sections_in k)) (section_in (xs ++ rest)) ≡ Some (l, behind ++ rest)
    by None f e more = absurd cc
    by (Some x) f e more =
        ap (option_and_then (λ y. section_followed y (sections_in k))) (section_more xs rest x.0 x.1 f)
        ∙ followed_more x rest (sections_in n) (sections_in k) l behind more e

sections_at_more : (xs rest v : List ℕ) → sections_at xs ≡ Some v → sections_at (xs ++ rest) ≡ Some v
unfolding sections_at
sections_at_more xs rest v e = by (sections_in (length xs) xs) refl e
  where
    cut_of : List ℕ → List Section × List ℕ → List ℕ
    cut_of bytes x = take (length bytes - length x.1) bytes

    behind_few : (x : List Section × List ℕ) → length (xs ++ rest) - length (x.1 ++ rest) ≡ length xs - length x.1
    behind_few x = let a = length-append xs rest in let b = length-append x.1 rest in omega (arith, a, b)

    by : (o : Option (List Section × List ℕ)) → sections_in (length xs) xs ≡ o → option_map (cut_of xs) o ≡ Some v
        → option_map (cut_of (xs ++ rest)) (sections_in (length (xs ++ rest)) (xs ++ rest)) ≡ Some v
    by None f e = absurd cc
    by (Some x) f e =
        let long = length-append xs rest in
        ap (option_map (cut_of (xs ++ rest))) (sections_more (length xs) (length (xs ++ rest)) xs rest x.0 x.1 (omega (arith, long)) f)
        ∙ ap (λ n. Some (take n (xs ++ rest))) (behind_few x)
        ∙ ap (λ (l : List ℕ). Some l) (take-append-le (length xs - length x.1) xs rest (omega arith))
        ∙ e

no_sections : (v : List ℕ) → sections_at [] ≡ Some v → ⊥
unfolding sections_at sections_in
no_sections v e = absurd cc

drop_beyond : (o : ℕ) (h : List ℕ) → length h < o → drop o h ≡ []
drop_beyond zero h lt = absurd (omega (arith, lt))
drop_beyond (suc o) [] lt = refl
drop_beyond (suc o) (x ∷ h) lt = drop_beyond o h (omega (arith, lt))

bind_more : {A B : Type 0} (o p : Option A) (f g : A → Option B) (v : B) → ((a : A) → o ≡ Some a → p ≡ Some a) → ((a : A) → f a ≡ Some v → g a ≡ Some v)
    → option_and_then f o ≡ Some v → option_and_then g p ≡ Some v
bind_more None p f g v first next e = absurd cc
bind_more (Some a) p f g v first next e = ap (option_and_then g) (first a refl) ∙ next a e

sections_behind_more : (xs rest : List ℕ) (at : ℕ) (b : Bool) (v : List ℕ) → sections_behind xs at b ≡ Some v → sections_behind (xs ++ rest) at b ≡ Some v
sections_behind_more xs rest at false v e = e
sections_behind_more xs rest at true v e =
    bind_more (sections_at (drop at xs)) (sections_at (drop at (xs ++ rest))) if_short if_short v (λ l f. there l f) (λ l f. f) e
  where
    there : (l : List ℕ) → sections_at (drop at xs) ≡ Some l → sections_at (drop at (xs ++ rest)) ≡ Some l
    there l f = elim (cases_lt (length xs) at) [
      | inl past ↦ absurd (no_sections l (sym (ap sections_at (drop_beyond at xs past)) ∙ f))
      | inr le ↦ ap sections_at (drop-append-le at xs rest le) ∙ sections_at_more (drop at xs) rest l f
    ]

halves : (xs rest : List ℕ) (at v : ℕ) → little_endian_at w16 xs at ≡ Some v → little_endian_at w16 (xs ++ rest) at ≡ Some v
halves xs rest at v e = number_more w16 xs rest at v half_front e

words : (xs rest : List ℕ) (at v : ℕ) → little_endian_at w32 xs at ≡ Some v → little_endian_at w32 (xs ++ rest) at ≡ Some v
words xs rest at v e = number_more w32 xs rest at v word_front e

fat_more : (xs rest : List ℕ) (at : ℕ) (v : Code) → fat_at xs at ≡ Some v → fat_at (xs ++ rest) at ≡ Some v
unfolding fat_at
fat_more xs rest at v e =
    bind_more (little_endian_at w16 xs at) (little_endian_at w16 (xs ++ rest) at) _ _ v (halves xs rest at) (λ flags.
    bind_more (little_endian_at w16 xs (at + 2)) (little_endian_at w16 (xs ++ rest) (at + 2)) _ _ v (halves xs rest (at + 2)) (λ max.
    bind_more (little_endian_at w32 xs (at + 4)) (little_endian_at w32 (xs ++ rest) (at + 4)) _ _ v (words xs rest (at + 4)) (λ size.
    bind_more (little_endian_at w32 xs (at + 8)) (little_endian_at w32 (xs ++ rest) (at + 8)) _ _ v (words xs rest (at + 8)) (λ locals.
    bind_more (range_at xs (at + 12) size) (range_at (xs ++ rest) (at + 12) size) _ _ v (range_more xs rest (at + 12) size) (λ code.
    bind_more (sections_behind xs (at + 12 + padded size) (has_flag 8 flags)) (sections_behind (xs ++ rest) (at + 12 + padded size) (has_flag 8 flags)) _ _ v
    (sections_behind_more xs rest (at + 12 + padded size) (has_flag 8 flags)) (λ sections f. f)))))) e

tiny_more : (xs rest : List ℕ) (at size : ℕ) (v : Code) → tiny_at xs at size ≡ Some v → tiny_at (xs ++ rest) at size ≡ Some v
tiny_more xs rest at size v e = by (range_at xs (at + 1) size) refl e
  where
    made : List ℕ → Code
    made code = record { max = 8; init = false; locals = nil; code = code; sections = [] }

    by : (o : Option (List ℕ)) → range_at xs (at + 1) size ≡ o → option_map made o ≡ Some v → option_map made (range_at (xs ++ rest) (at + 1) size) ≡ Some v
    by None f e = absurd cc
    by (Some code) f e = ap (option_map made) (range_more xs rest (at + 1) size code f) ∙ e

pub body_more : (xs rest : List ℕ) (at place : ℕ) (v : Code) → body_at xs at place ≡ Some v → body_at (xs ++ rest) at place ≡ Some v
unfolding body_at
body_more xs rest at place v e =
    bind_more (little_endian_at w8 xs at) (little_endian_at w8 (xs ++ rest) at) _ _ v (λ first f. number_more w8 xs rest at first byte_front f)
    (λ first. by (first % 4 == 2) (first % 4 == 3 && place % 4 == 0) first) e
  where
    by : (b c : Bool) (first : ℕ) → (if b then tiny_at xs at (first / 4) else if c then fat_at xs at else None) ≡ Some v
        → (if b then tiny_at (xs ++ rest) at (first / 4) else if c then fat_at (xs ++ rest) at else None) ≡ Some v
    by true c first e = tiny_more xs rest at (first / 4) v e
    by false true first e = fat_more xs rest at v e
    by false false first e = absurd cc

pub body_moved : (xs : List ℕ) (at place other : ℕ) → place % 4 ≡ other % 4 → body_at xs at place ≡ body_at xs at other
unfolding body_at
body_moved xs at place other same =
    ap (λ (n : ℕ). option_and_then (λ (first : ℕ). if first % 4 == 2 then tiny_at xs at (first / 4) else if first % 4 == 3 && n == 0 then fat_at xs at else None) (little_endian_at w8 xs at)) same
