-- How long the entries of heaps are, and what stands in them.
use Rattle.std.proofs.Common.{◌≡◌, ℕ, zero, suc, ◌+◌, ◌-◌, ◌*◌, ◌^◌, ◌<◌, ◌≤◌, Bool, true, false, cond, List, [], ◌∷◌, length, map, take, drop, replicate, Option, Some, None, refl, ap, arith}
use Rattle.std.specs.Prelude.{◌==◌, option_map, option_and_then, nat_le, nat_lt, if◌then◌else◌}
use Rattle.std.specs.List.{list_any}
use Rattle.std.proofs.lemmas.Bool.Decides.{nat_tests}
use Rattle.std.proofs.lemmas.List.Sums.{sum_by-cons}
use Rattle.enc_base.specs.Numbers.{compressed, compressed_at}
use Rattle.enc_base.proofs.SmallNumbers.{EachIsByte, each_drop, compressed_few, compressed_long}
use Rattle.enc_meta.specs.Root.{before_zero}
use Rattle.enc_meta.specs.Heaps.{Counted, text_entry, text_at, blob_entry, blob_at, sixteen_at, guid_at}
use Rattle.enc_meta.specs.Joined.{entry_in, joined_entry, joined_text, joined_blob, first_guid, joined_guid, joined_length}

-- a text has no zero
abbrev has_zero : List ℕ → Bool
has_zero text = list_any (λ b. b == 0) text

more_text : (b : ℕ) (o : Option (List ℕ)) (t : List ℕ) → (b == 0) ≡ false → ((x : List ℕ) → o ≡ Some x → has_zero x ≡ false) → option_map (λ x. b ∷ x) o ≡ Some t → has_zero t ≡ false
more_text b None t some rest h = absurd cc
more_text b (Some x) t some rest h = let is : b ∷ x ≡ t = cc in rw (← is) (rw some (rest x refl))

text_by : (b : ℕ) (o : Option (List ℕ)) (t : List ℕ) (z : Bool) → (b == 0) ≡ z → ((x : List ℕ) → o ≡ Some x → has_zero x ≡ false) → cond z (Some []) (option_map (λ x. b ∷ x) o) ≡ Some t → has_zero t ≡ false
text_by b o t true is rest h = let e : [] ≡ t = cc in rw (← e) refl
text_by b o t false is rest h = more_text b o t is rest h

before_none : (bytes t : List ℕ) → before_zero bytes ≡ Some t → has_zero t ≡ false
before_none [] t h = absurd cc
before_none (b ∷ rest) t h = text_by b (before_zero rest) t (b == 0) refl (before_none rest) h

entry_text : (heap : List ℕ) (offset : ℕ) (t : List ℕ) → text_entry heap offset ≡ Some t → has_zero t ≡ false
unfolding text_entry
entry_text heap offset t h = before_none (drop offset heap) t h

-- what holds of nothing and of each entry holds of the entry at an offset
or_empty : (P : List ℕ → Type 0) (z : Bool) (o : Option (List ℕ)) (t : List ℕ) → P [] → ((x : List ℕ) → o ≡ Some x → P x) → (if z then Some [] else o) ≡ Some t → P t
or_empty P true o t none some h = let e : [] ≡ t = cc in rw (← e) none
or_empty P false o t none some h = some t h

in_heap : (P : List ℕ → Type 0) (entry : List ℕ → ℕ → Option (List ℕ)) (b : Bool) (heap : List ℕ) (offset : ℕ) (later : Option (List ℕ)) (t : List ℕ) → ((x : List ℕ) → entry heap offset ≡ Some x → P x) → (later ≡ Some t → P t) → cond b (entry heap offset) later ≡ Some t → P t
in_heap P entry true heap offset later t here rest h = here t h
in_heap P entry false heap offset later t here rest h = rest h

-- each heap passes a test
AllHeaps : (List ℕ → Type 0) → List (List ℕ) → Type 0
AllHeaps Q [] = Unit {0}
AllHeaps Q (heap ∷ heaps) = Q heap × AllHeaps Q heaps

entry_is : (P Q : List ℕ → Type 0) (entry : List ℕ → ℕ → Option (List ℕ)) (heaps : List (List ℕ)) (offset : ℕ) (t : List ℕ) → ((heap : List ℕ) (o : ℕ) (x : List ℕ) → Q heap → entry heap o ≡ Some x → P x) → AllHeaps Q heaps → entry_in entry heaps offset ≡ Some t → P t
unfolding entry_in AllHeaps
entry_is P Q entry [] offset t each all h = absurd cc
entry_is P Q entry (heap ∷ heaps) offset t each all h = in_heap P entry (nat_lt offset (length heap)) heap offset (entry_in entry heaps (offset - length heap)) t (λ x e. each heap offset x all.0 e) (λ e. entry_is P Q entry heaps (offset - length heap) t each all.1 e) h

any_heaps : (heaps : List (List ℕ)) → AllHeaps (λ heap. Unit {0}) heaps
unfolding AllHeaps
any_heaps [] = tt
any_heaps (heap ∷ heaps) = (tt, any_heaps heaps)

pub text_zero : (heap : List ℕ) (offset : ℕ) (t : List ℕ) → text_at heap offset ≡ Some t → list_any (λ b. b == 0) t ≡ false
unfolding text_at
text_zero heap offset t h = or_empty (λ x. has_zero x ≡ false) (offset == 0) (text_entry heap offset) t refl (λ x e. entry_text heap offset x e) h

pub joined_zero : (all : List Counted) (offset : ℕ) (t : List ℕ) → joined_text all offset ≡ Some t → list_any (λ b. b == 0) t ≡ false
unfolding joined_entry
joined_zero all offset t h = or_empty (λ x. has_zero x ≡ false) (offset == 0) (entry_in text_entry (map (λ (c : Counted). c.strings) all) offset) t refl (λ x e. entry_is (λ y. has_zero y ≡ false) (λ heap. Unit {0}) text_entry (map (λ (c : Counted). c.strings) all) offset x (λ heap o y q f. entry_text heap o y f) (any_heaps (map (λ (c : Counted). c.strings) all)) e) h

-- the length before a blob
head_by : (bytes : List ℕ) (at : ℕ) (b : Bool) (o : Option (ℕ × ℕ)) (head : ℕ × ℕ) → compressed (drop at bytes) ≡ o → cond b (option_map (λ (x : ℕ × ℕ). (x.0, at + x.1)) o) None ≡ Some head → (at < head.1) × (EachIsByte bytes → head.0 < 2 ^ 29)
head_by bytes at true (Some x) head is h =
    let e : (x.0, at + x.1) ≡ head = cc in
    let f : x.0 ≡ head.0 = ap (λ (y : ℕ × ℕ). y.0) e in
    let g : at + x.1 ≡ head.1 = ap (λ (y : ℕ × ℕ). y.1) e in
    let long : 0 < x.1 = compressed_long (drop at bytes) x is in
    (omega arith, λ all. rw (← f) (compressed_few (drop at bytes) x (each_drop bytes at all) is))
head_by bytes at true None head is h = absurd cc
head_by bytes at false o head is h = absurd cc

head_is : (bytes : List ℕ) (at : ℕ) (head : ℕ × ℕ) → compressed_at bytes at ≡ Some head → (at < head.1) × (EachIsByte bytes → head.0 < 2 ^ 29)
head_is bytes at head h = head_by bytes at (nat_le at (length bytes)) (compressed (drop at bytes)) head refl h

taken_most : (n : ℕ) (xs : List ℕ) → length (take n xs) ≤ n
taken_most zero xs = omega arith
taken_most (suc n) [] = omega arith
taken_most (suc n) (x ∷ xs) = omega (arith, taken_most n xs)

-- a blob is shorter than its heap, and its length has 29 bits
abbrev Short : List ℕ → List ℕ → Type 0
Short heap x = (length x < length heap) × (EachIsByte heap → length x < 2 ^ 29)

blob_by : (heap x : List ℕ) (at : ℕ) (head : ℕ × ℕ) (b : Bool) → (at < head.1) × (EachIsByte heap → head.0 < 2 ^ 29) → nat_le (head.1 + head.0) (length heap) ≡ b → cond b (Some (take head.0 (drop head.1 heap))) None ≡ Some x → Short heap x
blob_by heap x at head true few is h =
    let e : take head.0 (drop head.1 heap) ≡ x = cc in
    let most : length x ≤ head.0 = rw (← e) (taken_most head.0 (drop head.1 heap)) in
    let le : head.1 + head.0 ≤ length heap = grind (arith, nat_tests) in
    (omega (arith, few.0), λ all. omega (arith, few.1 all, most))
blob_by heap x at head false few is h = absurd cc

blob_from : (heap x : List ℕ) (at : ℕ) (o : Option (ℕ × ℕ)) → compressed_at heap at ≡ o → option_and_then (λ (head : ℕ × ℕ). if nat_le (head.1 + head.0) (length heap) then Some (take head.0 (drop head.1 heap)) else None) o ≡ Some x → Short heap x
blob_from heap x at None is h = absurd cc
blob_from heap x at (Some head) is h = blob_by heap x at head (nat_le (head.1 + head.0) (length heap)) (head_is heap at head is) refl h

entry_blob : (heap : List ℕ) (at : ℕ) (x : List ℕ) → blob_entry heap at ≡ Some x → Short heap x
unfolding blob_entry
entry_blob heap at x h = blob_from heap x at (compressed_at heap at) refl h

pub blob_few : (heap : List ℕ) (offset : ℕ) (x : List ℕ) → EachIsByte heap → blob_at heap offset ≡ Some x → length x < 2 ^ 29
unfolding blob_at
blob_few heap offset x all h = or_empty (λ y. length y < 2 ^ 29) (offset == 0) (blob_entry heap offset) x (omega arith) (λ y e. (entry_blob heap offset y e).1 all) h

few_heaps : (heaps : List (List ℕ)) (n : ℕ) → joined_length heaps ≤ n → AllHeaps (λ heap. length heap ≤ n) heaps
unfolding AllHeaps
few_heaps [] n h = tt
few_heaps (heap ∷ heaps) n h =
    let e : joined_length (heap ∷ heaps) ≡ length heap + joined_length heaps = sum_by-cons (λ (x : List ℕ). length x) heap heaps in
    (omega arith, few_heaps heaps n (omega arith))

pub joined_few : (all : List Counted) (offset : ℕ) (x : List ℕ) → joined_length (map (λ (c : Counted). c.blobs) all) ≤ 2 ^ 29 → joined_blob all offset ≡ Some x → length x < 2 ^ 29
unfolding joined_entry
joined_few all offset x few h = or_empty (λ y. length y < 2 ^ 29) (offset == 0) (entry_in blob_entry (map (λ (c : Counted). c.blobs) all) offset) x (omega arith) (λ y e. entry_is (λ z. length z < 2 ^ 29) (λ heap. length heap ≤ 2 ^ 29) blob_entry (map (λ (c : Counted). c.blobs) all) offset y (λ heap o z q f. shorter z heap q (entry_blob heap o z f).0) (few_heaps (map (λ (c : Counted). c.blobs) all) (2 ^ 29) few) e) h
  where
    shorter : (z heap : List ℕ) → length heap ≤ 2 ^ 29 → length z < length heap → length z < 2 ^ 29
    shorter z heap q lt = omega arith

-- a GUID has sixteen bytes
pub length_taken : (n : ℕ) (xs : List ℕ) → n ≤ length xs → length (take n xs) ≡ n
length_taken zero xs h = refl
length_taken (suc n) [] h = absurd (omega arith)
length_taken (suc n) (x ∷ xs) h = ap suc (length_taken n xs (omega arith))

pub length_dropped : (n : ℕ) (xs : List ℕ) → length (drop n xs) ≡ length xs - n
length_dropped zero xs = omega arith
length_dropped (suc n) [] = omega arith
length_dropped (suc n) (x ∷ xs) = omega (arith, length_dropped n xs)

sixteen_by : (heap x : List ℕ) (k : ℕ) (b : Bool) → nat_le (16 * k + 16) (length heap) ≡ b → cond b (Some (take 16 (drop (16 * k) heap))) None ≡ Some x → length x ≡ 16
sixteen_by heap x k true is h =
    let e : take 16 (drop (16 * k) heap) ≡ x = cc in
    let le : 16 * k + 16 ≤ length heap = grind (arith, nat_tests) in
    rw (← e) (length_taken 16 (drop (16 * k) heap) (omega (arith, length_dropped (16 * k) heap)))
sixteen_by heap x k false is h = absurd cc

sixteen_long : (heap x : List ℕ) (k : ℕ) → sixteen_at heap k ≡ Some x → length x ≡ 16
unfolding sixteen_at
sixteen_long heap x k h = sixteen_by heap x k (nat_le (16 * k + 16) (length heap)) refl h

pub guid_long : (heap : List ℕ) (k : ℕ) (x : List ℕ) → guid_at heap k ≡ Some x → length x ≡ 16
guid_long heap zero x h = let e : replicate 16 0 ≡ x = cc in rw (← e) refl
guid_long heap (suc k) x h = sixteen_long heap x k h

first_by : (b : Bool) (heap x : List ℕ) (k : ℕ) (later : Option (List ℕ)) → (later ≡ Some x → length x ≡ 16) → cond b (sixteen_at heap k) later ≡ Some x → length x ≡ 16
first_by true heap x k later rest h = sixteen_long heap x k h
first_by false heap x k later rest h = rest h

first_long : (heaps : List (List ℕ)) (k : ℕ) (x : List ℕ) → first_guid heaps k ≡ Some x → length x ≡ 16
unfolding first_guid
first_long [] k x h = absurd cc
first_long (heap ∷ heaps) k x h = first_by (nat_le (16 * k + 16) (length heap)) heap x k (first_guid heaps k) (first_long heaps k x) h

pub joined_long : (all : List Counted) (k : ℕ) (x : List ℕ) → joined_guid all k ≡ Some x → length x ≡ 16
joined_long all zero x h = let e : replicate 16 0 ≡ x = cc in rw (← e) refl
joined_long all (suc k) x h = first_long (map (λ (c : Counted). c.guids) all) k x h
