-- Methods that share a slot: it is an equivalence, they have one key, and the first of them is one.
use Rattle.std.proofs.Common.{◌≡◌, ℕ, zero, suc, ◌+◌, ◌<◌, Bool, true, false, List, Option, Some, None, refl, sym, ap, subst, ◌∙◌, arith}
use Rattle.std.specs.Prelude.{◌==◌, bytes_eq, nat_lt, if◌then◌else◌}
use Rattle.std.proofs.lemmas.Bool.{and_parts, and_from}
use Rattle.std.proofs.lemmas.Bool.Decides.{nat_tests}
use Rattle.std.proofs.lemmas.Slice.Eq.{bytes_eq-Decides}
use Rattle.enc_base.specs.Order.{or_else, first_below}
use Rattle.enc_base.specs.Token.{nth_row}
use Rattle.enc_base.specs.declared.token.Token.{Token}
use Rattle.enc_base.proofs.First.{first_none, first_suc, first_means}
use Rattle.enc_plain.specs.Alike.{signatures_alike}
use Rattle.enc_plain.specs.Rows.{Rows, bytes_at}
use Rattle.enc_plain.specs.Signatures.{kind_in_table}
use Rattle.enc_plain.proofs.OneKey.{signatures_one}
use Rattle.enc_base.specs.Tables as tables
use Rattle.enc_dispatch.specs.Buckets.{slot_key}
use Rattle.enc_dispatch.specs.Slots.{shares_slot, shares_at, slot_in}
use Rattle.enc_dispatch.proofs.Equivalence.{methods_equivalence}

abbrev pub nth : ℕ → Token
nth n = nth_row tables.method_def n

names_are : (rows : Rows) (a b : Token) → shares_slot rows a b ≡ true → (bytes_at rows a 3 ≡ bytes_at rows b 3) × (signatures_alike rows 0x06 (bytes_at rows a 4) (bytes_at rows b 4) ≡ true)
unfolding shares_slot
names_are rows a b h =
    let w = and_parts (bytes_eq (bytes_at rows a 3) (bytes_at rows b 3)) (signatures_alike rows 0x06 (bytes_at rows a 4) (bytes_at rows b 4)) h in
    ((bytes_eq-Decides (bytes_at rows a 3) (bytes_at rows b 3)).0 w.0, w.1)

they_share : (rows : Rows) (a b : Token) → bytes_at rows a 3 ≡ bytes_at rows b 3 → signatures_alike rows 0x06 (bytes_at rows a 4) (bytes_at rows b 4) ≡ true → shares_slot rows a b ≡ true
unfolding shares_slot
they_share rows a b e h = and_from (bytes_eq (bytes_at rows a 3) (bytes_at rows b 3)) (signatures_alike rows 0x06 (bytes_at rows a 4) (bytes_at rows b 4)) ((bytes_eq-Decides (bytes_at rows a 3) (bytes_at rows b 3)).1 e) h

pub shares_itself : (rows : Rows) (a : Token) → shares_slot rows a a ≡ true
shares_itself rows a = they_share rows a a refl ((methods_equivalence rows).itself (bytes_at rows a 4))

pub shares_back : (rows : Rows) (a b : Token) → shares_slot rows a b ≡ true → shares_slot rows b a ≡ true
shares_back rows a b h = let w = names_are rows a b h in they_share rows b a (sym w.0) ((methods_equivalence rows).part.back (bytes_at rows a 4) (bytes_at rows b 4) w.1)

pub shares_on : (rows : Rows) (a b c : Token) → shares_slot rows a b ≡ true → shares_slot rows b c ≡ true → shares_slot rows a c ≡ true
shares_on rows a b c h k =
    let v = names_are rows a b h in
    let w = names_are rows b c k in
    they_share rows a c (v.0 ∙ w.0) ((methods_equivalence rows).part.on (bytes_at rows a 4) (bytes_at rows b 4) (bytes_at rows c 4) v.1 w.1)

pub one_kind : (a b : List ℕ) → kind_in_table 0x06 a ≡ kind_in_table 0x06 b
unfolding kind_in_table
one_kind a b = refl

pub shares_key : (rows : Rows) (a b : Token) → shares_slot rows a b ≡ true → slot_key rows a ≡ slot_key rows b
unfolding slot_key
shares_key rows a b h =
    let w = names_are rows a b h in
    rw (w.0, signatures_one rows 0x06 (bytes_at rows a 4) (bytes_at rows b 4) refl (one_kind (bytes_at rows a 4) (bytes_at rows b 4)) w.1) refl

-- what the n-th method's row tells
told_at : (rows : Rows) (t : Token) (n x : ℕ) → shares_at rows t n ≡ Some x → (x ≡ n + 1) × (shares_slot rows (nth n) t ≡ true)
unfolding shares_at
told_at rows t n x e = by_test (shares_slot rows (nth n) t) refl e
  where
    by_test : (b : Bool) → shares_slot rows (nth n) t ≡ b → (if b then Some (n + 1) else None) ≡ Some x → (x ≡ n + 1) × (shares_slot rows (nth n) t ≡ true)
    by_test true is e = (cc, is)
    by_test false is e = absurd cc

here_at : (rows : Rows) (t : Token) (n : ℕ) → shares_slot rows (nth n) t ≡ true → shares_at rows t n ≡ Some (n + 1)
unfolding shares_at
here_at rows t n h = rw h refl

never : {A B : Type 0} (o : Option A) (x : A) → o ≡ None → o ≡ Some x → B
never o x e f = let g : None ≡ Some x = sym e ∙ f in absurd cc

-- a rule that answers nowhere below
all_none : {A : Type 0} (rule : ℕ → Option A) (n : ℕ) → ((k : ℕ) → k < n → rule k ≡ None) → first_below rule n ≡ None
all_none rule zero none = first_none rule
all_none rule (suc n) none = rw (first_suc rule n, all_none rule n (λ k low. none k (omega arith)), none n (omega arith)) refl

-- the first method of a slot: it shares the slot, and none before it does
pub record IsSlot (rows : Rows) (t : Token) (s : ℕ) : Type 0 where
  pub place : ℕ
  pub row : s ≡ place + 1
  pub low : place < t.row
  pub shares : shares_slot rows (nth place) t ≡ true
  pub before : (k : ℕ) → k < place → shares_at rows t k ≡ None

pub slot_is : (rows : Rows) (t : Token) (s : ℕ) → slot_in rows t ≡ Some s → IsSlot rows t s
unfolding slot_in
slot_is rows t s e =
    let w = rw e at (first_means (shares_at rows t) t.row) in
    let told = told_at rows t w.0 s w.2 in
    record { place = w.0; row = told.0; low = w.1; shares = told.1; before = w.3 }

-- it is the first of its own slot
at_place : (rows : Rows) (n : ℕ) → ((k : ℕ) → k < n → shares_at rows (nth n) k ≡ None) → slot_in rows (nth n) ≡ Some (n + 1)
unfolding slot_in
at_place rows n before =
    let more : n + 1 ≡ suc n = omega arith in
    ap (first_below (shares_at rows (nth n))) more
    ∙ rw (first_suc (shares_at rows (nth n)) n, all_none (shares_at rows (nth n)) n before) (here_at rows (nth n) n (shares_itself rows (nth n)))

none_shares : (rows : Rows) (t : Token) (k : ℕ) → shares_at rows t k ≡ None → shares_slot rows (nth k) t ≡ false
unfolding shares_at
none_shares rows t k e = by_test (shares_slot rows (nth k) t) e
  where
    by_test : (b : Bool) → (if b then Some (k + 1) else None) ≡ None → b ≡ false
    by_test true e = absurd cc
    by_test false e = refl

not_at : (rows : Rows) (t : Token) (k : ℕ) → shares_slot rows (nth k) t ≡ false → shares_at rows t k ≡ None
unfolding shares_at
not_at rows t k e = rw e refl

both_ways : (a b : Bool) → (a ≡ true → b ≡ true) → b ≡ false → a ≡ false
both_ways true b f e = let g : true ≡ false = sym (f refl) ∙ e in absurd cc
both_ways false b f e = refl

pub first_own : (rows : Rows) (t : Token) (s : ℕ) → (i : IsSlot rows t s) → slot_in rows (nth i.place) ≡ Some (i.place + 1)
first_own rows t s i =
    at_place rows i.place (λ k low. not_at rows (nth i.place) k
    (both_ways (shares_slot rows (nth k) (nth i.place)) (shares_slot rows (nth k) t) (λ h. shares_on rows (nth k) (nth i.place) t h i.shares) (none_shares rows t k (i.before k low))))

-- and no other one that shares the slot is
not_before : (rows : Rows) (i j : ℕ) → slot_in rows (nth i) ≡ Some (i + 1) → shares_slot rows (nth j) (nth i) ≡ true → j < i → ⊥
not_before rows i j first shares low =
    let w = slot_is rows (nth i) (i + 1) first in
    let same : w.place ≡ i = omega (arith, w.row) in
    never (shares_at rows (nth i) j) (j + 1) (w.before j (omega (arith, same, low))) (here_at rows (nth i) j shares)

pub one_first : (rows : Rows) (t : Token) (i j : ℕ) → slot_in rows (nth i) ≡ Some (i + 1) → slot_in rows (nth j) ≡ Some (j + 1) → shares_slot rows (nth i) t ≡ true → shares_slot rows (nth j) t ≡ true → i ≡ j
one_first rows t i j fi fj hi hj = by_order (nat_lt i j) (nat_lt j i) refl refl
  where
    by_order : (a b : Bool) → nat_lt i j ≡ a → nat_lt j i ≡ b → i ≡ j
    by_order true b ea eb = absurd (not_before rows j i fj (shares_on rows (nth i) t (nth j) hi (shares_back rows (nth j) t hj)) (grind (arith, nat_tests)))
    by_order false true ea eb = absurd (not_before rows i j fi (shares_on rows (nth j) t (nth i) hj (shares_back rows (nth i) t hi)) (grind (arith, nat_tests)))
    by_order false false ea eb = grind (arith, nat_tests)

-- each method has a slot
some_of : (o : Option ℕ) (x : ℕ) → (s : ℕ) × (or_else o (Some x) ≡ Some s)
some_of None x = (x, refl)
some_of (Some y) x = (y, refl)

pub slot_there : (rows : Rows) (n : ℕ) → (s : ℕ) × (slot_in rows (nth n) ≡ Some s)
unfolding slot_in
slot_there rows n =
    let more : n + 1 ≡ suc n = omega arith in
    let w = some_of (first_below (shares_at rows (nth n)) n) (n + 1) in
    let here = here_at rows (nth n) n (shares_itself rows (nth n)) in
    (w.0, ap (first_below (shares_at rows (nth n))) more ∙ first_suc (shares_at rows (nth n)) n ∙ ap (or_else (first_below (shares_at rows (nth n)) n)) here ∙ w.1)

-- slots are equal where methods share one
pub slots_tell : (rows : Rows) (a b : Token) (s t : ℕ) → slot_in rows a ≡ Some s → slot_in rows b ≡ Some t → (s == t) ≡ shares_slot rows a b
slots_tell rows a b s t ea eb = by_test (s == t) (shares_slot rows a b) refl refl
  where
    by_test : (x y : Bool) → (s == t) ≡ x → shares_slot rows a b ≡ y → x ≡ y
    by_test true true ex ey = refl
    by_test false false ex ey = refl
    by_test true false ex ey =
        let v = slot_is rows a s ea in
        let w = slot_is rows b t eb in
        let e : s ≡ t = grind (arith, nat_tests) in
        let p : v.place ≡ w.place = omega (arith, e, v.row, w.row) in
        let h : shares_slot rows a b ≡ true = shares_on rows a (nth v.place) b (shares_back rows (nth v.place) a v.shares) (subst (λ k. shares_slot rows (nth k) b ≡ true) (sym p) w.shares) in
        sym h ∙ ey
    by_test false true ex ey =
        let v = slot_is rows a s ea in
        let w = slot_is rows b t eb in
        let p : v.place ≡ w.place = one_first rows b v.place w.place (first_own rows a s v) (first_own rows b t w) (shares_on rows (nth v.place) a b v.shares ey) w.shares in
        let e : s ≡ t = omega (arith, p, v.row, w.row) in
        sym ex ∙ (grind (arith, nat_tests))
