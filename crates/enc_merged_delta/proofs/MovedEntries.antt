-- What the heaps of a chain and two deltas say stands in those of the chain and the merged delta.
use Rattle.std.proofs.Common.{◌≡◌, ℕ, zero, suc, ◌+◌, ◌-◌, ◌*◌, ◌/◌, ◌<◌, ◌≤◌, Bool, true, false, List, [], ◌∷◌, ◌++◌, length, take, drop, map, Option, Some, None, refl, sym, ap, ◌∙◌, arith, append_assoc}
use Rattle.std.specs.Prelude.{nat_lt, nat_le, ◌==◌, ◌&&◌, if◌then◌else◌, option_map, flat_map, max, unwrap_or}
use Rattle.std.specs.List.{range_with_len}
use Rattle.std.proofs.Math.Seq.{drop-append-add, take-append_seam}
use Rattle.std.proofs.lemmas.Bool.Decides.{nat_tests}
use Rattle.std.proofs.lemmas.List.{map-append}
use Rattle.enc_base.specs.Order.{or_else}
use Rattle.enc_meta.specs.Root.{before_zero}
use Rattle.enc_meta.specs.Heaps.{Counted, blob_entry, text_entry, user_entry, filled, counted_strings, sixteen_at, guid_at}
use Rattle.enc_meta.specs.Joined.{entry_in, joined_entry, joined_text, joined_blob, joined_user, joined_guid, first_guid, guid_entries}
use Rattle.enc_rows.specs.Source.{Source}
use Rattle.enc_rows.specs.Sums.{below}
use Rattle.enc_plain.specs.Chain.{Chain}
use Rattle.enc_delta.proofs.OneHeapMore.{guid_behind}
use Rattle.enc_agg.specs.Extend.{extended}
use Rattle.enc_merged_delta.specs.Merged.{guids_joined, heaps_merged}
use Rattle.enc_merged_delta.specs.Held.{heaps_with_merged}
use Rattle.enc_merged_delta.proofs.HeapLengths.{first_there, guids_long}
use Rattle.enc_merged_delta.proofs.OneHeapOfTwo.{LastsIn, first_carried, both_carried, texts_last, blobs_last, users_last}

-- the heaps after both
abbrev pub both : Chain → Source → Source → List Counted
both c a b = (c.heaps ++ a.heaps ∷ []) ++ b.heaps ∷ []

-- one of the four heaps of each
one_more : (f : Counted → List ℕ) (xs : List Counted) (x : Counted) → map f (xs ++ x ∷ []) ≡ map f xs ++ f x ∷ []
one_more f xs x = map-append f xs (x ∷ [])

two_more : (f : Counted → List ℕ) (xs : List Counted) (x y : Counted) → map f ((xs ++ x ∷ []) ++ y ∷ []) ≡ map f xs ++ f x ∷ f y ∷ []
two_more f xs x y = one_more f (xs ++ x ∷ []) y ∙ ap (λ l. l ++ f y ∷ []) (one_more f xs x) ∙ append_assoc (map f xs) (f x ∷ []) (f y ∷ [])

first_in : (entry : List ℕ → ℕ → Option (List ℕ)) (f : Counted → List ℕ) (c : Chain) (a b : Source) (o : ℕ) (x : List ℕ) → LastsIn entry
    → joined_entry entry (map f (c.heaps ++ a.heaps ∷ [])) o ≡ Some x → joined_entry entry (map f c.heaps ++ (f a.heaps ++ f b.heaps) ∷ []) o ≡ Some x
first_in entry f c a b o x lasts h =
    first_carried entry (map f c.heaps) (f a.heaps) (f b.heaps) o x lasts (ap (λ l. joined_entry entry l o) (sym (one_more f c.heaps a.heaps)) ∙ h)

both_in : (entry : List ℕ → ℕ → Option (List ℕ)) (f : Counted → List ℕ) (c : Chain) (a b : Source) (o : ℕ) (x : List ℕ) → LastsIn entry
    → joined_entry entry (map f (both c a b)) o ≡ Some x → joined_entry entry (map f c.heaps ++ (f a.heaps ++ f b.heaps) ∷ []) o ≡ Some x
both_in entry f c a b o x lasts h =
    both_carried entry (map f c.heaps) (f a.heaps) (f b.heaps) o x lasts (ap (λ l. joined_entry entry l o) (sym (two_more f c.heaps a.heaps b.heaps)) ∙ h)

-- blobs and user texts
merged_blobs : (c : Chain) (a b : Source) → map (λ (h : Counted). h.blobs) (heaps_with_merged c a b) ≡ map (λ (h : Counted). h.blobs) c.heaps ++ (a.heaps.blobs ++ b.heaps.blobs) ∷ []
unfolding heaps_merged
merged_blobs c a b = one_more (λ (h : Counted). h.blobs) c.heaps (heaps_merged c a b)

merged_users : (c : Chain) (a b : Source) → map (λ (h : Counted). h.users) (heaps_with_merged c a b) ≡ map (λ (h : Counted). h.users) c.heaps ++ (a.heaps.users ++ b.heaps.users) ∷ []
unfolding heaps_merged
merged_users c a b = one_more (λ (h : Counted). h.users) c.heaps (heaps_merged c a b)

merged_strings : (c : Chain) (a b : Source) → map (λ (h : Counted). h.strings) (heaps_with_merged c a b) ≡ map (λ (h : Counted). h.strings) c.heaps ++ counted_strings (a.heaps.strings ++ b.heaps.strings) ∷ []
unfolding heaps_merged
merged_strings c a b = one_more (λ (h : Counted). h.strings) c.heaps (heaps_merged c a b)

pub first_blob : (c : Chain) (a b : Source) (o : ℕ) (x : List ℕ) → joined_blob (c.heaps ++ a.heaps ∷ []) o ≡ Some x → joined_blob (heaps_with_merged c a b) o ≡ Some x
first_blob c a b o x h = ap (λ l. joined_entry blob_entry l o) (merged_blobs c a b) ∙ first_in blob_entry (λ (h : Counted). h.blobs) c a b o x blobs_last h

pub both_blob : (c : Chain) (a b : Source) (o : ℕ) (x : List ℕ) → joined_blob (both c a b) o ≡ Some x → joined_blob (heaps_with_merged c a b) o ≡ Some x
both_blob c a b o x h = ap (λ l. joined_entry blob_entry l o) (merged_blobs c a b) ∙ both_in blob_entry (λ (h : Counted). h.blobs) c a b o x blobs_last h

pub first_user : (c : Chain) (a b : Source) (o : ℕ) (x : List ℕ) → joined_user (c.heaps ++ a.heaps ∷ []) o ≡ Some x → joined_user (heaps_with_merged c a b) o ≡ Some x
first_user c a b o x h = ap (λ l. joined_entry user_entry l o) (merged_users c a b) ∙ first_in user_entry (λ (h : Counted). h.users) c a b o x users_last h

pub both_user : (c : Chain) (a b : Source) (o : ℕ) (x : List ℕ) → joined_user (both c a b) o ≡ Some x → joined_user (heaps_with_merged c a b) o ≡ Some x
both_user c a b o x h = ap (λ l. joined_entry user_entry l o) (merged_users c a b) ∙ both_in user_entry (λ (h : Counted). h.users) c a b o x users_last h

-- a text that isn't empty stands among the bytes that count
cut_if : (b : Bool) (x n : ℕ) (rest : List ℕ) → take ((if b then 0 else suc n) + 1) (x ∷ rest) ≡ (if b then x ∷ [] else x ∷ take (n + 1) rest)
cut_if true x n rest = refl
cut_if false x n rest = let e : suc n + 1 ≡ suc (n + 1) = omega arith in ap (λ k. take k (x ∷ rest)) e

counted_is : (x : ℕ) (rest : List ℕ) → counted_strings (x ∷ rest) ≡ (if filled rest == 0 && x == 0 then x ∷ [] else x ∷ counted_strings rest)
unfolding counted_strings
counted_is x rest = cut_if (filled rest == 0 && x == 0) x (filled rest) rest

zero_kept : (rest y : List ℕ) → before_zero rest ≡ Some y → before_zero (counted_strings rest) ≡ Some y
zero_kept [] y h = absurd cc
zero_kept (x ∷ rest) y h = ap before_zero (counted_is x rest) ∙ by (x == 0) (filled rest == 0) refl h (λ z e. zero_kept rest z e)
  where
    by : (t u : Bool) → (x == 0) ≡ t → (if t then Some [] else option_map (λ (z : List ℕ). x ∷ z) (before_zero rest)) ≡ Some y
        → ((z : List ℕ) → before_zero rest ≡ Some z → before_zero (counted_strings rest) ≡ Some z)
        → before_zero (if u && (x == 0) then x ∷ [] else x ∷ counted_strings rest) ≡ Some y
    by true true e h more = rw (e, e) h
    by true false e h more = rw e h
    by false u e h more = let no : (u && (x == 0)) ≡ false = ap (λ b. u && b) e ∙ never u in rw no (rw e (further (before_zero rest) (before_zero (counted_strings rest)) h more))
      where
        never : (b : Bool) → (b && false) ≡ false
        never true = refl
        never false = refl

        further : (o p : Option (List ℕ)) → option_map (λ (z : List ℕ). x ∷ z) o ≡ Some y → ((z : List ℕ) → o ≡ Some z → p ≡ Some z) → option_map (λ (z : List ℕ). x ∷ z) p ≡ Some y
        further None p h more = absurd cc
        further (Some z) p h more = ap (option_map (λ (z : List ℕ). x ∷ z)) (more z refl) ∙ h

cut : (rest : List ℕ) → filled rest ≡ 0 → counted_strings rest ≡ take 1 rest
unfolding counted_strings
cut rest z = ap (λ k. take (k + 1) rest) z

text_kept : (h : List ℕ) (o b : ℕ) (y : List ℕ) → text_entry h o ≡ Some (b ∷ y) → text_entry (counted_strings h) o ≡ Some (b ∷ y)
unfolding text_entry
text_kept h zero b y e = zero_kept h (b ∷ y) e
text_kept [] (suc o) b y e = absurd cc
text_kept (x ∷ rest) (suc o) b y e = ap (λ l. before_zero (drop (suc o) l)) (counted_is x rest) ∙ by (filled rest == 0 && x == 0) (filled rest == 0) refl refl (text_kept rest o b y e)
  where
    alone : (k : ℕ) (l : List ℕ) → before_zero (drop k (take 1 l)) ≡ Some (b ∷ y) → ⊥
    alone zero [] f = absurd cc
    alone (suc k) [] f = absurd cc
    alone zero (r ∷ l) f = one (r == 0) f
      where
        one : (t : Bool) → (if t then Some [] else option_map (λ (z : List ℕ). r ∷ z) None) ≡ Some (b ∷ y) → ⊥
        one true f = absurd cc
        one false f = absurd cc
    alone (suc zero) (r ∷ l) f = absurd cc
    alone (suc (suc k)) (r ∷ l) f = absurd cc

    first_of : (t u : Bool) → (t && u) ≡ true → t ≡ true
    first_of true u e = refl
    first_of false u e = absurd cc

    by : (t u : Bool) → (filled rest == 0 && x == 0) ≡ t → (filled rest == 0) ≡ u → before_zero (drop o (counted_strings rest)) ≡ Some (b ∷ y)
        → before_zero (drop (suc o) (if t then x ∷ [] else x ∷ counted_strings rest)) ≡ Some (b ∷ y)
    by false u f g kept = kept
    by true u f g kept =
        let none : filled rest ≡ 0 = let t : (filled rest == 0) ≡ true = first_of (filled rest == 0) (x == 0) f in grind (arith, nat_tests, t) in
        absurd (alone o rest (ap (λ l. before_zero (drop o l)) (sym (cut rest none)) ∙ kept))

-- where an entry is, bytes are
there : (h : List ℕ) (o b : ℕ) (y : List ℕ) → text_entry h o ≡ Some (b ∷ y) → nat_lt o (length h) ≡ true
unfolding text_entry
there [] zero b y e = absurd cc
there [] (suc o) b y e = absurd cc
there (x ∷ h) zero b y e = grind (arith, nat_tests)
there (x ∷ h) (suc o) b y e = let low = there h o b y e in grind (arith, nat_tests, low)

-- an entry of the last heap that counts alone
last_kept : (before : List (List ℕ)) (h : List ℕ) (o b : ℕ) (y : List ℕ) → entry_in text_entry (before ++ h ∷ []) o ≡ Some (b ∷ y)
    → entry_in text_entry (before ++ counted_strings h ∷ []) o ≡ Some (b ∷ y)
unfolding entry_in
last_kept [] h o b y e = by (nat_lt o (length h)) refl e
  where
    by : (t : Bool) → nat_lt o (length h) ≡ t → (if t then text_entry h o else None) ≡ Some (b ∷ y) → (if nat_lt o (length (counted_strings h)) then text_entry (counted_strings h) o else None) ≡ Some (b ∷ y)
    by false f e = absurd cc
    by true f e =
        let kept = text_kept h o b y e in
        let low : nat_lt o (length (counted_strings h)) ≡ true = there (counted_strings h) o b y kept in
        rw low kept
last_kept (x ∷ before) h o b y e = by (nat_lt o (length x)) e (last_kept before h (o - length x) b y)
  where
    by : (t : Bool) → (if t then text_entry x o else entry_in text_entry (before ++ h ∷ []) (o - length x)) ≡ Some (b ∷ y)
        → (entry_in text_entry (before ++ h ∷ []) (o - length x) ≡ Some (b ∷ y) → entry_in text_entry (before ++ counted_strings h ∷ []) (o - length x) ≡ Some (b ∷ y))
        → (if t then text_entry x o else entry_in text_entry (before ++ counted_strings h ∷ []) (o - length x)) ≡ Some (b ∷ y)
    by true e more = e
    by false e more = more e

joined_kept : (before : List (List ℕ)) (h : List ℕ) (o b : ℕ) (y : List ℕ) → joined_entry text_entry (before ++ h ∷ []) o ≡ Some (b ∷ y)
    → joined_entry text_entry (before ++ counted_strings h ∷ []) o ≡ Some (b ∷ y)
unfolding joined_entry
joined_kept before h o b y e = by (o == 0) e
  where
    by : (t : Bool) → (if t then Some [] else entry_in text_entry (before ++ h ∷ []) o) ≡ Some (b ∷ y)
        → (if t then Some [] else entry_in text_entry (before ++ counted_strings h ∷ []) o) ≡ Some (b ∷ y)
    by true e = absurd cc
    by false e = last_kept before h o b y e

pub first_text : (c : Chain) (a b : Source) (o x : ℕ) (y : List ℕ) → joined_text (c.heaps ++ a.heaps ∷ []) o ≡ Some (x ∷ y) → joined_text (heaps_with_merged c a b) o ≡ Some (x ∷ y)
first_text c a b o x y h =
    ap (λ l. joined_entry text_entry l o) (merged_strings c a b)
    ∙ joined_kept (map (λ (h : Counted). h.strings) c.heaps) (a.heaps.strings ++ b.heaps.strings) o x y (first_in text_entry (λ (h : Counted). h.strings) c a b o (x ∷ y) texts_last h)

pub both_text : (c : Chain) (a b : Source) (o x : ℕ) (y : List ℕ) → joined_text (both c a b) o ≡ Some (x ∷ y) → joined_text (heaps_with_merged c a b) o ≡ Some (x ∷ y)
both_text c a b o x y h =
    ap (λ l. joined_entry text_entry l o) (merged_strings c a b)
    ∙ joined_kept (map (λ (h : Counted). h.strings) c.heaps) (a.heaps.strings ++ b.heaps.strings) o x y (both_in text_entry (λ (h : Counted). h.strings) c a b o (x ∷ y) texts_last h)

pub no_text : (heaps : List Counted) → joined_text heaps 0 ≡ Some []
unfolding joined_entry
no_text heaps = refl

-- a text stays with one heap more
entry_stays : (heaps : List (List ℕ)) (heap : List ℕ) (o : ℕ) (x : List ℕ) → entry_in text_entry heaps o ≡ Some x → entry_in text_entry (heaps ++ heap ∷ []) o ≡ Some x
unfolding entry_in
entry_stays [] heap o x h = absurd cc
entry_stays (g ∷ heaps) heap o x h = by (nat_lt o (length g)) h (entry_stays heaps heap (o - length g) x)
  where
    by : (t : Bool) → (if t then text_entry g o else entry_in text_entry heaps (o - length g)) ≡ Some x
        → (entry_in text_entry heaps (o - length g) ≡ Some x → entry_in text_entry (heaps ++ heap ∷ []) (o - length g) ≡ Some x)
        → (if t then text_entry g o else entry_in text_entry (heaps ++ heap ∷ []) (o - length g)) ≡ Some x
    by true e more = e
    by false e more = more e

pub text_stays : (xs : List Counted) (h : Counted) (o : ℕ) (x : List ℕ) → joined_text xs o ≡ Some x → joined_text (xs ++ h ∷ []) o ≡ Some x
unfolding joined_entry
text_stays xs h o x e = by (o == 0) e
  where
    by : (t : Bool) → (if t then Some [] else entry_in text_entry (map (λ (c : Counted). c.strings) xs) o) ≡ Some x
        → (if t then Some [] else entry_in text_entry (map (λ (c : Counted). c.strings) (xs ++ h ∷ [])) o) ≡ Some x
    by true e = e
    by false e = ap (λ l. entry_in text_entry l o) (one_more (λ (c : Counted). c.strings) xs h) ∙ entry_stays (map (λ (c : Counted). c.strings) xs) h.strings o x e

-- GUIDs
pub guid_stays : (xs : List Counted) (h : Counted) (o : ℕ) (x : List ℕ) → joined_guid xs o ≡ Some x → joined_guid (xs ++ h ∷ []) o ≡ Some x
guid_stays xs h o x e = guid_behind xs h o ∙ ap (λ y. or_else y (guid_at h.guids o)) e

low_if : (b : Bool) (k n others : ℕ) (here later : Option (List ℕ)) (x : List ℕ) → nat_le (16 * k + 16) n ≡ b → (later ≡ Some x → k < others) → (if b then here else later) ≡ Some x → k < max (n / 16) others
low_if true k n others here later x f less e = grind (arith, nat_tests, f)
low_if false k n others here later x f less e = let low = less e in omega (arith, low)

guid_low : (heaps : List Counted) (k : ℕ) (x : List ℕ) → first_guid (map (λ (h : Counted). h.guids) heaps) k ≡ Some x → k < guid_entries heaps
unfolding first_guid
guid_low [] k x e = absurd cc
guid_low (h ∷ heaps) k x e = low_if (nat_le (16 * k + 16) (length h.guids)) k (length h.guids) (guid_entries heaps) (sixteen_at h.guids k) _ x refl (guid_low heaps k x) e

chunk : (f : ℕ → List ℕ) (a n k : ℕ) → ((j : ℕ) → j < a + n → length (f j) ≡ 16) → k < n → take 16 (drop (16 * k) (flat_map f (range_with_len a n))) ≡ f (a + k)
chunk f a zero k each low = absurd (omega (arith, low))
chunk f a (suc n) zero each low =
    let long = each a (omega arith) in
    let place : a ≡ a + 0 = omega arith in
    let none : 16 * 0 ≡ 0 = omega arith in
    ap (λ m. take 16 (drop m (f a ++ flat_map f (range_with_len (a + 1) n)))) none
    ∙ ap (λ m. take m (f a ++ flat_map f (range_with_len (a + 1) n))) (sym long)
    ∙ take-append_seam (f a) (flat_map f (range_with_len (a + 1) n))
    ∙ ap f place
chunk f a (suc n) (suc k) each low =
    let long = each a (omega arith) in
    let place : a + 1 + k ≡ a + suc k = omega arith in
    let past : 16 * suc k ≡ length (f a) + 16 * k = omega (arith, long) in
    ap (λ m. take 16 (drop m (f a ++ flat_map f (range_with_len (a + 1) n)))) past
    ∙ ap (take 16) (drop-append-add (f a) (flat_map f (range_with_len (a + 1) n)) (16 * k))
    ∙ chunk f (a + 1) n k (λ j less. each j (omega (arith, less))) (omega (arith, low))
    ∙ ap f place

sixteen : (heaps : List Counted) (k : ℕ) (x : List ℕ) → first_guid (map (λ (h : Counted). h.guids) heaps) k ≡ Some x → sixteen_at (guids_joined heaps) k ≡ Some x
unfolding sixteen_at guids_joined below
sixteen heaps k x e =
    let low = guid_low heaps k x e in
    let long = guids_long heaps in
    let within : nat_le (16 * k + 16) (length (guids_joined heaps)) ≡ true = let le : 16 * k + 16 ≤ length (guids_joined heaps) = omega (arith, low, long) in grind (arith, nat_tests, le) in
    let f : ℕ → List ℕ = λ j. unwrap_or (first_guid (map (λ (h : Counted). h.guids) heaps) j) [] in
    let here : 0 + k ≡ k = omega arith in
    ap (λ b. if b then Some (take 16 (drop (16 * k) (guids_joined heaps))) else None) within
    ∙ ap (λ (l : List ℕ). Some l) (chunk f 0 (guid_entries heaps) k (λ j less. first_there heaps j (omega (arith, less))) low ∙ ap f here ∙ ap (λ o. unwrap_or o []) e)

pub both_guid : (c : Chain) (a b : Source) (o : ℕ) (x : List ℕ) → joined_guid (both c a b) o ≡ Some x → joined_guid (heaps_with_merged c a b) o ≡ Some x
unfolding heaps_merged extended
both_guid c a b zero x e = e
both_guid c a b (suc k) x e = guid_behind c.heaps (heaps_merged c a b) (suc k) ∙ by (joined_guid c.heaps (suc k)) refl
  where
    stays : (y : List ℕ) → joined_guid c.heaps (suc k) ≡ Some y → joined_guid (both c a b) (suc k) ≡ Some y
    stays y f = guid_stays (c.heaps ++ a.heaps ∷ []) b.heaps (suc k) y (guid_stays c.heaps a.heaps (suc k) y f)

    by : (o : Option (List ℕ)) → joined_guid c.heaps (suc k) ≡ o → or_else o (sixteen_at (guids_joined (both c a b)) k) ≡ Some x
    by (Some y) f = sym (stays y f) ∙ e
    by None f = sixteen (both c a b) k x e
