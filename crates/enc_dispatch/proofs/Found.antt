-- How the first method of a slot is found among those with its key.
use Rattle.std.proofs.Common.{◌≡◌, ℕ, zero, suc, ◌+◌, ◌-◌, ◌/◌, ◌%◌, ◌^◌, ◌<◌, ◌≤◌, Bool, true, false, List, [], ◌∷◌, ◌++◌, length, length-append, Option, Some, None, unwrap_or, slice_get, refl, sym, ap, ◌∙◌, arith}
use Rattle.std.specs.Prelude.{◌&&◌, ◌==◌, if◌then◌else◌}
use Rattle.std.proofs.lemmas.Bool.{and_parts, and_from, eq-eqb}
use Rattle.std.proofs.lemmas.Bool.Decides.{nat_tests}
use Rattle.enc_base.specs.declared.token.Token.{Token}
use Rattle.enc_key_map.specs.declared.index.Index.{Index}
use Rattle.enc_key_map.specs.declared.key.Key.{Key}
use Rattle.enc_key_map.specs.Key.{is_key}
use Rattle.enc_key_map.specs.Index.{value_at, either}
use Rattle.enc_plain.specs.Rows.{Rows}
use Rattle.enc_dispatch.specs.Buckets.{slot_key, is_slot, is_first_of, newest_first, alike_first, alike_from, bucket_key, stored_head, head_over, AreBuckets}
use Rattle.enc_dispatch.specs.Parts.{EachPart}
use Rattle.enc_dispatch.specs.Slots.{shares_slot, slot_in}
use Rattle.enc_dispatch.specs.Walks.{method_at}
use Rattle.enc_dispatch.proofs.Each.{each_none, each_more}
use Rattle.enc_dispatch.proofs.Sharing.{nth, shares_key, IsSlot, slot_is, first_own, one_first, slot_there}

slot_told : (n : ℕ) (o : Option ℕ) → is_slot n o ≡ true → o ≡ Some n
slot_told n None h = absurd cc
slot_told n (Some k) h = let e : k ≡ n = grind (arith, nat_tests) in ap (λ j. Some j) e

-- the first methods with a key, from the newest down
pub record IsFirstMethod (rows : Rows) (key n r : ℕ) : Type 0 where
  pub place : ℕ
  pub row : r ≡ place + 1
  pub low : place < n
  pub first : slot_in rows (nth place) ≡ Some (place + 1)
  pub keyed : slot_key rows (nth place) ≡ key

first_parts : (rows : Rows) (key n : ℕ) → is_first_of rows key n ≡ true → (slot_in rows (nth n) ≡ Some (n + 1)) × (slot_key rows (nth n) ≡ key)
unfolding is_first_of
first_parts rows key n h =
    let w = and_parts (is_slot (n + 1) (slot_in rows (nth n))) (slot_key rows (nth n) == key) h in
    (slot_told (n + 1) (slot_in rows (nth n)) w.0, grind (arith, nat_tests, w.1))

wider : (rows : Rows) (key n r : ℕ) → IsFirstMethod rows key n r → IsFirstMethod rows key (suc n) r
wider rows key n r f = record { place = f.place; row = f.row; low = omega (arith, f.low); first = f.first; keyed = f.keyed }

pub newest_is : (rows : Rows) (key n r : ℕ) → newest_first rows key n ≡ Some r → IsFirstMethod rows key n r
unfolding newest_first
newest_is rows key zero r e = absurd cc
newest_is rows key (suc n) r e = by_test (is_first_of rows key n) refl e (newest_is rows key n r)
  where
    by_test : (b : Bool) → is_first_of rows key n ≡ b → (if b then Some (n + 1) else newest_first rows key n) ≡ Some r → (newest_first rows key n ≡ Some r → IsFirstMethod rows key n r) → IsFirstMethod rows key (suc n) r
    by_test true is e later =
        let w = first_parts rows key n is in
        let f : n + 1 ≡ r = cc in
        record { place = n; row = sym f; low = omega arith; first = w.0; keyed = w.1 }
    by_test false is e later = wider rows key n r (later e)

-- the last of them that shares a slot is met on the way down
pub alike_steps : (rows : Rows) (key : ℕ) (t : Token) (n : ℕ) → alike_from rows key t (newest_first rows key n) ≡ alike_first rows key t n
unfolding alike_from newest_first alike_first
alike_steps rows key t zero = refl
alike_steps rows key t (suc n) = by_test (is_first_of rows key n) (alike_steps rows key t n)
  where
    same_place : n + 1 - 1 ≡ n
    same_place = omega arith

    by_test : (b : Bool) → alike_from rows key t (newest_first rows key n) ≡ alike_first rows key t n → alike_from rows key t (if b then Some (n + 1) else newest_first rows key n) ≡ (if b && shares_slot rows (nth n) t then Some (n + 1) else alike_first rows key t n)
    by_test true step = rw same_place refl
    by_test false step = step

-- a method met that shares the slot, and one that doesn't
pub alike_here : (rows : Rows) (key : ℕ) (t : Token) (row : ℕ) (all : Option ℕ) → shares_slot rows (method_at row) t ≡ true → alike_from rows key t (Some row) ≡ all → Some row ≡ all
unfolding alike_from
alike_here rows key t row all h e = rw h at e

alike_other : (rows : Rows) (key : ℕ) (t : Token) (row : ℕ) (all : Option ℕ) → shares_slot rows (method_at row) t ≡ false → alike_from rows key t (Some row) ≡ all → alike_first rows key t (row - 1) ≡ all
unfolding alike_from
alike_other rows key t row all h e = rw h at e

pub alike_next : (rows : Rows) (key : ℕ) (t : Token) (row : ℕ) (o all : Option ℕ) → shares_slot rows (method_at row) t ≡ false → o ≡ newest_first rows key (row - 1) → alike_from rows key t (Some row) ≡ all → alike_from rows key t o ≡ all
alike_next rows key t row o all h next e = ap (alike_from rows key t) next ∙ alike_steps rows key t (row - 1) ∙ alike_other rows key t row all h e

pub alike_end : (rows : Rows) (key : ℕ) (t : Token) (o all : Option ℕ) → o ≡ None → alike_from rows key t o ≡ all → None ≡ all
unfolding alike_from
alike_end rows key t o all h e = rw h at e

-- what is known of a method that is met
abbrev pub IsMet : Rows → ℕ → ℕ → Option ℕ → Type 0
IsMet rows key n o = (r : ℕ) → o ≡ Some r → (0 < r) × (r ≤ n) × (slot_key rows (method_at r) ≡ key)

first_met : (rows : Rows) (key n r : ℕ) → IsFirstMethod rows key n r → (0 < r) × (r ≤ n) × (slot_key rows (method_at r) ≡ key)
first_met rows key n r f = (omega (arith, f.row), omega (arith, f.row, f.low), ap (λ k. slot_key rows (method_at k)) f.row ∙ f.keyed)

pub newest_met : (rows : Rows) (key n : ℕ) (o : Option ℕ) → o ≡ newest_first rows key n → IsMet rows key n o
newest_met rows key n o e r is = first_met rows key n r (newest_is rows key n r (sym e ∙ is))

pub next_met : (rows : Rows) (key n row : ℕ) (o : Option ℕ) → row ≤ n → o ≡ newest_first rows key (row - 1) → IsMet rows key n o
next_met rows key n row o low e r is =
    let w = newest_met rows key (row - 1) o e r is in
    (w.0, omega (arith, w.1, low), w.2)

pub next_less : (rows : Rows) (key row : ℕ) (o at : Option ℕ) → 0 < row → at ≡ Some row → o ≡ newest_first rows key (row - 1) → unwrap_or o 0 < unwrap_or at 0
next_less rows key row None at low is e = rw is low
next_less rows key row (Some r) at low is e = let w = newest_met rows key (row - 1) (Some r) e r refl in rw is (omega (arith, w.1, low))

-- what stands behind a method in its bucket
pub behind_is : (rows : Rows) (heads : ℕ → Option ℕ) (next : List (Option ℕ)) (key row : ℕ) (o : Option ℕ) → AreBuckets rows heads next → 0 < row → slot_key rows (method_at row) ≡ key → slice_get next (row - 1) ≡ Some o → o ≡ newest_first rows key (row - 1)
behind_is rows heads next key row o are low is e =
    let more : row - 1 + 1 ≡ row = omega arith in
    are.next (row - 1) o e ∙ ap (λ k. newest_first rows k (row - 1)) (ap (λ r. slot_key rows (method_at r)) more ∙ is)

-- the slot that is found
pub record IsAlikeFirst (rows : Rows) (key : ℕ) (t : Token) (n r : ℕ) : Type 0 where
  pub first : IsFirstMethod rows key n r
  pub shares : shares_slot rows (nth first.place) t ≡ true

alike_is : (rows : Rows) (key : ℕ) (t : Token) (n r : ℕ) → alike_first rows key t n ≡ Some r → IsAlikeFirst rows key t n r
unfolding alike_first wider
alike_is rows key t zero r e = absurd cc
alike_is rows key t (suc n) r e = by_test (is_first_of rows key n && shares_slot rows (nth n) t) refl e (alike_is rows key t n r)
  where
    by_test : (b : Bool) → (is_first_of rows key n && shares_slot rows (nth n) t) ≡ b → (if b then Some (n + 1) else alike_first rows key t n) ≡ Some r → (alike_first rows key t n ≡ Some r → IsAlikeFirst rows key t n r) → IsAlikeFirst rows key t (suc n) r
    by_test true is e later =
        let both = and_parts (is_first_of rows key n) (shares_slot rows (nth n) t) is in
        let w = first_parts rows key n both.0 in
        let f : n + 1 ≡ r = cc in
        record { first = record { place = n; row = sym f; low = omega arith; first = w.0; keyed = w.1 }; shares = both.1 }
    by_test false is e later = let w = later e in record { first = wider rows key n r w.first; shares = w.shares }

alike_none : (rows : Rows) (key : ℕ) (t : Token) (n i : ℕ) → alike_first rows key t n ≡ None → i < n → (is_first_of rows key i && shares_slot rows (nth i) t) ≡ false
unfolding alike_first
alike_none rows key t zero i e low = absurd (omega arith)
alike_none rows key t (suc n) i e low = by_test (is_first_of rows key n && shares_slot rows (nth n) t) refl e (alike_none rows key t n i)
  where
    by_place : (b : Bool) → (i == n) ≡ b → (is_first_of rows key n && shares_slot rows (nth n) t) ≡ false → alike_first rows key t n ≡ None → (alike_first rows key t n ≡ None → i < n → (is_first_of rows key i && shares_slot rows (nth i) t) ≡ false) → (is_first_of rows key i && shares_slot rows (nth i) t) ≡ false
    by_place true same is e later = let f : i ≡ n = grind (arith, nat_tests) in ap (λ k. is_first_of rows key k && shares_slot rows (nth k) t) f ∙ is
    by_place false same is e later = let less : i < n = grind (arith, nat_tests) in later e less

    by_test : (b : Bool) → (is_first_of rows key n && shares_slot rows (nth n) t) ≡ b → (if b then Some (n + 1) else alike_first rows key t n) ≡ None → (alike_first rows key t n ≡ None → i < n → (is_first_of rows key i && shares_slot rows (nth i) t) ≡ false) → (is_first_of rows key i && shares_slot rows (nth i) t) ≡ false
    by_test true is e later = absurd cc
    by_test false is e later = by_place (i == n) refl is e later

first_is : (rows : Rows) (key i : ℕ) → slot_in rows (nth i) ≡ Some (i + 1) → slot_key rows (nth i) ≡ key → is_first_of rows key i ≡ true
unfolding is_first_of
first_is rows key i first is = rw (first, is) (and_from (i + 1 == i + 1) (key == key) (eq-eqb (i + 1) (i + 1) refl) (eq-eqb key key refl))

pub slot_found : (rows : Rows) (key n r : ℕ) → key ≡ slot_key rows (nth n) → alike_first rows key (nth n) n ≡ Some r → (slot_in rows (nth n) ≡ Some r) × (r ≤ n)
slot_found rows key n r ek e =
    let a = alike_is rows key (nth n) n r e in
    let s = slot_there rows n in
    let i = slot_is rows (nth n) s.0 s.1 in
    let p : i.place ≡ a.first.place = one_first rows (nth n) i.place a.first.place (first_own rows (nth n) s.0 i) a.first.first i.shares a.shares in
    let same : s.0 ≡ r = omega (arith, p, i.row, a.first.row) in
    (s.1 ∙ ap (λ k. Some k) same, omega (arith, a.first.row, a.first.low))

pub slot_new : (rows : Rows) (key n : ℕ) → key ≡ slot_key rows (nth n) → alike_first rows key (nth n) n ≡ None → slot_in rows (nth n) ≡ Some (n + 1)
slot_new rows key n ek e =
    let s = slot_there rows n in
    let i = slot_is rows (nth n) s.0 s.1 in
    s.1 ∙ ap (λ k. Some k) (by_place i (i.place == n) refl)
  where
    by_place : {s : ℕ} (i : IsSlot rows (nth n) s) (b : Bool) → (i.place == n) ≡ b → s ≡ n + 1
    by_place {s} i true same = let f : i.place ≡ n = grind (arith, nat_tests) in omega (arith, f, i.row)
    by_place {s} i false same =
        let less : i.place < n = grind (arith, nat_tests, i.low) in
        let first = first_is rows key i.place (first_own rows (nth n) s i) (shares_key rows (nth i.place) (nth n) i.shares ∙ sym ek) in
        let both : true ≡ false = sym (and_from (is_first_of rows key i.place) (shares_slot rows (nth i.place) (nth n)) first i.shares) ∙ alike_none rows key (nth n) n i.place e less in
        absurd cc

-- one method more
not_first : (rows : Rows) (key n r : ℕ) → slot_in rows (nth n) ≡ Some r → r ≤ n → is_first_of rows key n ≡ false
unfolding is_first_of
not_first rows key n r e low = let other : (r == n + 1) ≡ false = grind (arith, nat_tests) in rw (e, other) refl

newest_kept : (rows : Rows) (key n : ℕ) → is_first_of rows key n ≡ false → newest_first rows key (n + 1) ≡ newest_first rows key n
unfolding newest_first
newest_kept rows key n h = let more : n + 1 ≡ suc n = omega arith in rw (more, h) refl

newest_suc : (rows : Rows) (key n : ℕ) → newest_first rows key (suc n) ≡ (if is_first_of rows key n then Some (n + 1) else newest_first rows key n)
unfolding newest_first
newest_suc rows key n = refl

newest_more : (rows : Rows) (key n : ℕ) → newest_first rows key (n + 1) ≡ (if is_first_of rows key n then Some (n + 1) else newest_first rows key n)
newest_more rows key n = let more : n + 1 ≡ suc n = omega arith in ap (newest_first rows key) more ∙ newest_suc rows key n

pub one_longer : {A : Type 0} (xs : List A) (x : A) (n : ℕ) → length xs ≡ n → length (xs ++ x ∷ []) ≡ n + 1
one_longer xs x n e = length-append xs (x ∷ []) ∙ ap (λ k. k + 1) e

next_more : (rows : Rows) (heads : ℕ → Option ℕ) (next : List (Option ℕ)) (key n : ℕ) → AreBuckets rows heads next → length next ≡ n → key ≡ slot_key rows (nth n) → EachPart (λ (k : ℕ) (o : Option ℕ). o ≡ newest_first rows (slot_key rows (nth k)) k) (next ++ heads key ∷ [])
next_more rows heads next key n are size ek =
    each_more (λ (k : ℕ) (o : Option ℕ). o ≡ newest_first rows (slot_key rows (nth k)) k) next (heads key) n are.next size
    (are.heads key ∙ ap (newest_first rows key) size ∙ ap (λ k. newest_first rows k n) ek)

pub buckets_more : (rows : Rows) (heads : ℕ → Option ℕ) (next : List (Option ℕ)) (key n r : ℕ) → AreBuckets rows heads next → length next ≡ n → key ≡ slot_key rows (nth n) → slot_in rows (nth n) ≡ Some r → r ≤ n → AreBuckets rows heads (next ++ heads key ∷ [])
buckets_more rows heads next key n r are size ek slot low = record {
  heads = λ k.
      are.heads k ∙ ap (newest_first rows k) size
      ∙ sym (ap (newest_first rows k) (one_longer next (heads key) n size) ∙ newest_kept rows k n (not_first rows k n r slot low));
  next = next_more rows heads next key n are size ek;
}

buckets_apart : (a b : ℕ) → is_key (bucket_key a) (bucket_key b) ≡ (a == b)
buckets_apart a b = by_test (a % 2 ^ 32 == b % 2 ^ 32) (a / 2 ^ 32 == b / 2 ^ 32) (a == b) refl refl refl
  where
    by_test : (x y z : Bool) → (a % 2 ^ 32 == b % 2 ^ 32) ≡ x → (a / 2 ^ 32 == b / 2 ^ 32) ≡ y → (a == b) ≡ z → (x && y) ≡ z
    by_test true true true ex ey ez = refl
    by_test true false false ex ey ez = refl
    by_test false y false ex ey ez = refl
    by_test true true false ex ey ez =
        let p : a % 2 ^ 32 ≡ b % 2 ^ 32 = grind (arith, nat_tests) in
        let q : a / 2 ^ 32 ≡ b / 2 ^ 32 = grind (arith, nat_tests) in
        let e : a ≡ b = omega (arith, p, q) in
        sym (eq-eqb a b e) ∙ ez
    by_test true false true ex ey ez = let e : a ≡ b = grind (arith, nat_tests) in sym ey ∙ eq-eqb (a / 2 ^ 32) (b / 2 ^ 32) (ap (λ n. n / 2 ^ 32) e)
    by_test false y true ex ey ez = let e : a ≡ b = grind (arith, nat_tests) in sym ex ∙ eq-eqb (a % 2 ^ 32) (b % 2 ^ 32) (ap (λ n. n % 2 ^ 32) e)

first_told : (rows : Rows) (key n k : ℕ) → key ≡ slot_key rows (nth n) → slot_in rows (nth n) ≡ Some (n + 1) → is_first_of rows k n ≡ (key == k)
unfolding is_first_of
first_told rows key n k ek slot =
    let same : (n + 1 == n + 1) ≡ true = eq-eqb (n + 1) (n + 1) refl in
    rw (slot, same) (ap (λ j. j == k) (sym ek))

-- a first method more
pub head_put : (below old new : Index ℕ) (key row k : ℕ) → ((q : Key) → value_at new q ≡ either (if is_key (bucket_key key) q then Some row else None) (value_at old q)) → head_over below new k ≡ either (if key == k then Some row else None) (head_over below old k)
head_put below old new key row k put =
    ap (λ o. either o (stored_head below k)) (put (bucket_key k) ∙ ap (λ b. either (if b then Some row else None) (stored_head old k)) (buckets_apart key k))
    ∙ by_test (key == k) (stored_head old k)
  where
    by_test : (b : Bool) (o : Option ℕ) → either (either (if b then Some row else None) o) (stored_head below k) ≡ either (if b then Some row else None) (either o (stored_head below k))
    by_test true o = refl
    by_test false o = refl

pub buckets_first : (rows : Rows) (heads new : ℕ → Option ℕ) (next : List (Option ℕ)) (key n : ℕ) → AreBuckets rows heads next → length next ≡ n → key ≡ slot_key rows (nth n) → slot_in rows (nth n) ≡ Some (n + 1)
    → ((k : ℕ) → new k ≡ either (if key == k then Some (n + 1) else None) (heads k)) → AreBuckets rows new (next ++ heads key ∷ [])
buckets_first rows heads new next key n are size ek slot put = record {
  heads = λ k.
      put k
      ∙ by_key k (key == k) refl
      ∙ sym (ap (newest_first rows k) (one_longer next (heads key) n size) ∙ newest_more rows k n);
  next = next_more rows heads next key n are size ek;
}
  where
    by_key : (k : ℕ) (b : Bool) → (key == k) ≡ b → either (if b then Some (n + 1) else None) (heads k) ≡ (if is_first_of rows k n then Some (n + 1) else newest_first rows k n)
    by_key k true e = rw (first_told rows key n k ek slot ∙ e) refl
    by_key k false e = rw (first_told rows key n k ek slot ∙ e) (are.heads k ∙ ap (newest_first rows k) size)

-- entries that say what the heads say
pub entries_more : (key row : ℕ) (q : Key) (entries heads : Option ℕ) → entries ≡ heads → either (if is_key (bucket_key key) q then Some row else None) entries ≡ either (if is_key (bucket_key key) q then Some row else None) heads
entries_more key row q entries heads e = ap (either (if is_key (bucket_key key) q then Some row else None)) e

newest_nothing : (rows : Rows) (key : ℕ) → newest_first rows key 0 ≡ None
unfolding newest_first
newest_nothing rows key = refl

pub buckets_none : (rows : Rows) (heads : ℕ → Option ℕ) → ((key : ℕ) → heads key ≡ None) → AreBuckets rows heads []
buckets_none rows heads none = record { heads = λ key. none key ∙ sym (newest_nothing rows key); next = each_none _ }

-- heads that say the same
pub heads_same : (rows : Rows) (heads new : ℕ → Option ℕ) (next : List (Option ℕ)) → ((key : ℕ) → new key ≡ heads key) → AreBuckets rows heads next → AreBuckets rows new next
heads_same rows heads new next same are = record { heads = λ key. same key ∙ are.heads key; next = are.next }
