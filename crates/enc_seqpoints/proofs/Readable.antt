-- What is read can be written.
use Rattle.std.proofs.Common.{◌≡◌, ℕ, ◌+◌, ◌-◌, ◌<◌, ◌≤◌, ◌⊎◌, inl, inr, Bool, true, false, List, Option, Some, None, refl, ap, sym, subst, ◌∙◌, arith}
use Rattle.std.proofs.lemmas.Bool.{lt-ltb, le-leb, ltb-true, ltb-false, leb-true, and_parts, and_from, or_cases}
use Rattle.std.specs.Prelude.{◌||◌, nat_lt, nat_le, drop, option_map, option_and_then, if◌then◌else◌, ℤ}
use Rattle.enc_base.specs.Numbers.{compressed, signed}
use Rattle.enc_seqpoints.specs.Grammar.{leading, continued, is_row, document_row_in, below_limit, moved, moved_in, start_in, are_lines, if_lines, spanned}
use Rattle.enc_base.specs.Readers.{Reader, giving, both, number_in, signed_in, is_small, bits_of}
use Rattle.enc_seqpoints.specs.Spelling.{is_close, is_near}
use Rattle.enc_seqpoints.proofs.Somes.{bind_some, map_some, if_some, same_some}

-- what each step of a reader read
pub upon_some : {A B : Type 0} (r : Reader A) (s : A → Reader B) (bytes : List ℕ) (y : B) (rest : List ℕ) → continued r s bytes ≡ Some (y, rest) → (x : A) × (mid : List ℕ) × (r bytes ≡ Some (x, mid)) × (s x mid ≡ Some (y, rest))
upon_some {A} {B} r s bytes y rest e = let h = bind_some {A = A × List ℕ} {B = B × List ℕ} (λ p. s p.0 p.1) (r bytes) (y, rest) e in (h.0.0, h.0.1, h.1, h.2)

pub giving_some : {A B : Type 0} (f : A → B) (r : Reader A) (bytes : List ℕ) (y : B) (rest : List ℕ) → giving f r bytes ≡ Some (y, rest) → (x : A) × (r bytes ≡ Some (x, rest)) × (f x ≡ y)
giving_some {A} {B} f r bytes y rest e =
    let h = map_some {A = A × List ℕ} {B = B × List ℕ} (λ p. (f p.0, p.1)) (r bytes) (y, rest) e in
    let same : f h.0.0 ≡ y = ap (λ (p : B × List ℕ). p.0) h.2 in
    let left : h.0.1 ≡ rest = ap (λ (p : B × List ℕ). p.1) h.2 in
    (h.0.0, h.1 ∙ ap (λ s. Some (h.0.0, s)) left, same)

pub leading_some : {A B : Type 0} (f : A → Option B) (r : Reader A) (bytes : List ℕ) (y : B) (rest : List ℕ) → leading f r bytes ≡ Some (y, rest) → (x : A) × (r bytes ≡ Some (x, rest)) × (f x ≡ Some y)
leading_some {A} {B} f r bytes y rest e =
    let h = bind_some {A = A × List ℕ} {B = B × List ℕ} (λ p. option_map (λ (y : B). (y, p.1)) (f p.0)) (r bytes) (y, rest) e in
    let i = map_some {A = B} {B = B × List ℕ} (λ z. (z, h.0.1)) (f h.0.0) (y, rest) h.2 in
    let same : i.0 ≡ y = ap (λ (p : B × List ℕ). p.0) i.2 in
    let left : h.0.1 ≡ rest = ap (λ (p : B × List ℕ). p.1) i.2 in
    (h.0.0, h.1 ∙ ap (λ s. Some (h.0.0, s)) left, i.1 ∙ ap Some same)

pub both_some : {A B : Type 0} (r : Reader A) (s : Reader B) (bytes : List ℕ) (x : A) (y : B) (rest : List ℕ) → both r s bytes ≡ Some ((x, y), rest) → (mid : List ℕ) × (r bytes ≡ Some (x, mid)) × (s mid ≡ Some (y, rest))
both_some {A} {B} r s bytes x y rest e =
    let h = upon_some {A = A} {B = A × B} r (λ a. giving (λ (b : B). (a, b)) s) bytes (x, y) rest e in
    let i = giving_some {A = B} {B = A × B} (λ b. (h.0, b)) s h.1 (x, y) rest h.3 in
    let first : h.0 ≡ x = ap (λ (p : A × B). p.0) i.2 in
    let second : i.0 ≡ y = ap (λ (p : A × B). p.1) i.2 in
    (h.1, h.2 ∙ ap (λ a. Some (a, h.1)) first, i.1 ∙ ap (λ b. Some (b, rest)) second)

-- a number is below 2^29
pub number_few : (bytes : List ℕ) (n : ℕ) (rest : List ℕ) → number_in bytes ≡ Some (n, rest) → n < 0x20000000
unfolding number_in
number_few bytes n rest e =
    let h = bind_some {A = ℕ × ℕ} {B = ℕ × List ℕ} (λ x. if nat_lt x.0 0x20000000 then Some (x.0, drop x.1 bytes) else None) (compressed bytes) (n, rest) e in
    let i = if_some {A = ℕ × List ℕ} (nat_lt h.0.0 0x20000000) (Some (h.0.0, drop h.0.1 bytes)) (n, rest) h.2 in
    let same : h.0.0 ≡ n = ap (λ (p : ℕ × List ℕ). p.0) (same_some {A = ℕ × List ℕ} (h.0.0, drop h.0.1 bytes) (n, rest) i.1) in
    rw (← same) (ltb-true h.0.0 0x20000000 i.0)

-- a signed one lies from -2^28 to 2^28 - 1
pub signed_small : (bytes : List ℕ) (n : ℕ) (rest : List ℕ) → signed_in bytes ≡ Some (n, rest) → is_small n ≡ true
unfolding signed_in
signed_small bytes n rest e =
    let h = bind_some {A = ℤ × ℕ} {B = ℕ × List ℕ} (λ x. if is_small (bits_of x.0) then Some (bits_of x.0, drop x.1 bytes) else None) (signed bytes) (n, rest) e in
    let i = if_some {A = ℕ × List ℕ} (is_small (bits_of h.0.0)) (Some (bits_of h.0.0, drop h.0.1 bytes)) (n, rest) h.2 in
    let same : bits_of h.0.0 ≡ n = ap (λ (p : ℕ × List ℕ). p.0) (same_some {A = ℕ × List ℕ} (bits_of h.0.0, drop h.0.1 bytes) (n, rest) i.1) in
    subst (λ k. is_small k ≡ true) same i.0

pub row_good : (bytes : List ℕ) (n : ℕ) (rest : List ℕ) → document_row_in bytes ≡ Some (n, rest) → is_row n ≡ true
unfolding document_row_in
row_good bytes n rest e =
    let h = leading_some (λ n. if is_row n then Some n else None) number_in bytes n rest e in
    let i = if_some (is_row h.0) (Some h.0) n h.2 in
    subst (λ k. is_row k ≡ true) (same_some h.0 n i.1) i.0

below_same : (n m : ℕ) → below_limit n ≡ Some m → n ≡ m
unfolding below_limit
below_same n m e = same_some n m (if_some (nat_lt n 0x20000000) (Some n) m e).1

close_by : (from to : ℕ) → from ≤ to + 0x10000000 → to < from + 0x10000000 → is_close from to ≡ true
close_by from to p q = and_from (nat_le from (to + 0x10000000)) (nat_lt to (from + 0x10000000)) (le-leb from (to + 0x10000000) p) (lt-ltb to (from + 0x10000000) q)

small_parts : (bits : ℕ) → is_small bits ≡ true → ((bits < 0x10000000) ⊎ (0xF0000000 ≤ bits)) × (bits < 0x100000000)
small_parts bits small =
    let h = and_parts (nat_lt bits 0x10000000 || nat_le 0xF0000000 bits) (nat_lt bits 0x100000000) small in
    (by_or (or_cases (nat_lt bits 0x10000000) (nat_le 0xF0000000 bits) h.0), ltb-true bits 0x100000000 h.1)
  where
    by_or : (nat_lt bits 0x10000000 ≡ true) ⊎ (nat_le 0xF0000000 bits ≡ true) → (bits < 0x10000000) ⊎ (0xF0000000 ≤ bits)
    by_or (inl h) = inl (ltb-true bits 0x10000000 h)
    by_or (inr h) = inr (leb-true 0xF0000000 bits h)

-- where a difference leads is near
up_near : (from bits to : ℕ) → bits < 0x10000000 → below_limit (from + bits) ≡ Some to → is_close from to ≡ true
up_near from bits to low is = let e = below_same (from + bits) to is in close_by from to (omega (arith, e)) (omega (arith, e, low))

down_near : (from bits to : ℕ) → 0xF0000000 ≤ bits → bits < 0x100000000 → 0x100000000 ≤ from + bits → below_limit (from + bits - 0x100000000) ≡ Some to → is_close from to ≡ true
down_near from bits to high low past is = let e = below_same (from + bits - 0x100000000) to is in close_by from to (omega (arith, e, high, low, past)) (omega (arith, e, high, low, past))

near_by : (from bits to : ℕ) (low past : Bool) → nat_lt bits 0x80000000 ≡ low → nat_lt (from + bits) 0x100000000 ≡ past → ((bits < 0x10000000) ⊎ (0xF0000000 ≤ bits)) → bits < 0x100000000 → (if low then below_limit (from + bits) else if past then None else below_limit (from + bits - 0x100000000)) ≡ Some to → is_close from to ≡ true
near_by from bits to true past is at (inl small) few e = up_near from bits to small e
near_by from bits to true past is at (inr large) few e = absurd (let f = ltb-true bits 0x80000000 is in omega (arith, f, large))
near_by from bits to false true is at small few e = absurd (cc)
near_by from bits to false false is at (inl small) few e = absurd (let f = ltb-false bits 0x80000000 is in omega (arith, f, small))
near_by from bits to false false is at (inr large) few e = down_near from bits to large few (ltb-false (from + bits) 0x100000000 at) e

moved_near : (from bits to : ℕ) → is_small bits ≡ true → moved from bits ≡ Some to → is_close from to ≡ true
unfolding moved
moved_near from bits to small e = let h = small_parts bits small in near_by from bits to (nat_lt bits 0x80000000) (nat_lt (from + bits) 0x100000000) refl refl h.0 h.1 e

moved_in_near : (from : ℕ) (bytes : List ℕ) (to : ℕ) (rest : List ℕ) → moved_in from bytes ≡ Some (to, rest) → is_close from to ≡ true
unfolding moved_in
moved_in_near from bytes to rest e =
    let h = leading_some (moved from) signed_in bytes to rest e in
    moved_near from h.0 to (signed_small bytes h.0 rest h.1) h.2

-- an unsigned difference leads up
pub up_to : (from bits to : ℕ) → bits < 0x20000000 → moved from bits ≡ Some to → from + bits ≡ to
unfolding moved
up_to from bits to few e = below_same (from + bits) to (sym (ap (λ t. if t then below_limit (from + bits) else if nat_lt (from + bits) 0x100000000 then None else below_limit (from + bits - 0x100000000)) (lt-ltb bits 0x80000000 (omega (arith, few)))) ∙ e)

-- a start is near the last one
pub start_near : (s : Option (ℕ × ℕ)) (l : ℕ × ℕ × ℕ × ℕ) (bytes rest : List ℕ) → start_in s bytes ≡ Some ((l.0, l.1), rest) → is_near s l ≡ true
unfolding start_in is_near
start_near None l bytes rest e = refl
start_near (Some s) l bytes rest e =
    let h = both_some (moved_in s.0) (moved_in s.1) bytes l.0 l.1 rest e in
    and_from (is_close s.0 l.0) (is_close s.1 l.1) (moved_in_near s.0 bytes l.0 h.0 h.1) (moved_in_near s.1 h.0 l.1 rest h.2)

-- an end by its differences
pub spanned_parts : (lines bits : ℕ) (x : ℕ × ℕ) (l : ℕ × ℕ × ℕ × ℕ) → spanned lines bits x ≡ Some l → (x ≡ (l.0, l.1)) × (l.0 + lines ≡ l.2) × (moved l.1 bits ≡ Some l.3) × (are_lines l ≡ true)
unfolding spanned
spanned_parts lines bits x l e =
    let h = bind_some {A = ℕ} {B = ℕ × ℕ × ℕ × ℕ} (λ line. option_and_then (λ (column : ℕ). if_lines (x.0, x.1, line, column)) (moved x.1 bits)) (below_limit (x.0 + lines)) l e in
    let i = bind_some {A = ℕ} {B = ℕ × ℕ × ℕ × ℕ} (λ column. if_lines (x.0, x.1, h.0, column)) (moved x.1 bits) l h.2 in
    let j = if_some {A = ℕ × ℕ × ℕ × ℕ} (are_lines (x.0, x.1, h.0, i.0)) (Some (x.0, x.1, h.0, i.0)) l i.2 in
    let same : (x.0, x.1, h.0, i.0) ≡ l = same_some {A = ℕ × ℕ × ℕ × ℕ} (x.0, x.1, h.0, i.0) l j.1 in
    let parts : (x ≡ (x.0, x.1)) × (x.0 + lines ≡ h.0) × (moved x.1 bits ≡ Some i.0) × (are_lines (x.0, x.1, h.0, i.0) ≡ true) = (refl, below_same (x.0 + lines) h.0 h.1, i.1, j.0) in
    subst (λ (l : ℕ × ℕ × ℕ × ℕ). (x ≡ (l.0, l.1)) × (l.0 + lines ≡ l.2) × (moved l.1 bits ≡ Some l.3) × (are_lines l ≡ true)) same parts
