-- The first edit that adds a member with a twin, by the least such member of each table.
use Rattle.std.proofs.Common.{◌≡◌, ℕ, zero, suc, ◌+◌, ◌<◌, ◌≤◌, Bool, true, false, List, [], ◌∷◌, ◌++◌, length, take, map, Option, Some, None, refl, sym, ap, ◌∙◌, arith, inl, inr, append_assoc, eq-eqb}
use Rattle.std.specs.Prelude.{◌⊎◌, ◌==◌, ◌&&◌, ◌||◌, filter, slice_get, nat_lt, option_map, ◌^◌}
use Rattle.std.specs.List.{list_any, list_all}
use Rattle.std.proofs.lemmas.Bool.Decides.{nat_tests}
use Rattle.std.proofs.lemmas.List.{append-nil}
use Rattle.std.proofs.lemmas.Bool.{and_from}
use Rattle.enc_base.specs.Token.{is_token}
use Rattle.enc_base.specs.declared.token.Token.{Token}
use Rattle.enc_base.specs.declared.refusal.Place.{Place}
use Rattle.enc_schema.specs.Children.{is_child_table}
use Rattle.enc_plain.specs.Apply.{Attached}
use Rattle.enc_plain.specs.Chain.{Chain}
use Rattle.enc_plain.specs.Module.{Module}
use Rattle.enc_plain.specs.Sound.{row_count}
use Rattle.enc_plain.proofs.Columns.{both_left, both_right}
use Rattle.enc_delta.specs.declared.pairs.Pair.{Pair}
use Rattle.enc_delta.specs.Changes.{asked_of, is_member}
use Rattle.enc_delta.specs.Members.{ArePairs, pair_seen}
use Rattle.enc_delta.specs.Twins.{Asked, has_twin, twin_fault}
use Rattle.enc_delta.specs.TwinLaw.{IsLeastOf, child_number}
use Rattle.enc_delta.proofs.ListsChildren.{two}
use Rattle.enc_delta.proofs.LeastTwin.{names_least_twin}
use Rattle.enc_edit_list.specs.Added.{adds_to, adding, rows_added}
use Rattle.enc_edit_list.specs.declared.edit.Edit.{Edit}
use Rattle.enc_edit_list.specs.declared.edit.Edit.TheVariants.{Add, Body as Replace}
use Rattle.enc_edit_list.specs.declared.edit.EditList.{EditList}
use Rattle.enc_rules.specs.Edited.{row_edited, attached_by, attached_behind, attached_in}
use Rattle.enc_rules.specs.First.{first_such}
use Rattle.enc_rules.specs.Listed.{rows_listed}
use Rattle.enc_rules.specs.Rules.{at_edit, of_child, member_has_twin}
use Rattle.enc_rules.specs.Told.{adds_row, adds_child, is_twin_in, has_twin_in, row_of_place, earlier}
use Rattle.enc_rules.proofs.EditAt.{edit_judged, nth_row_behind}
use Rattle.enc_rules.proofs.Such.{such_unique, such_alike, earlier_is}

-- the pairs of a table
abbrev in_table : ℕ → Attached → Bool
in_table t a = a.child.table == t

pub seen_in_table : (t : ℕ) (pairs : List Pair) → map pair_seen (filter (λ (p : Pair). p.child.table == t) pairs) ≡ filter (in_table t) (map pair_seen pairs)
seen_in_table t [] = refl
seen_in_table t (p ∷ ps) = elim (two (p.child.table == t)) [
  | inl a ↦ rw a (ap (λ xs. pair_seen p ∷ xs) (seen_in_table t ps))
  | inr a ↦ rw a (seen_in_table t ps)
]

pub fit_in_table : (t : ℕ) (pairs : List Pair) → ArePairs pairs → ArePairs (filter (λ (p : Pair). p.child.table == t) pairs)
fit_in_table t [] h = h
fit_in_table t (p ∷ ps) h =
    let front = both_left (nat_lt p.owner.row 0x1000000 && nat_lt p.child.row 0x1000000) (list_all (λ (k : Pair). nat_lt k.owner.row 0x1000000 && nat_lt k.child.row 0x1000000) ps) h in
    let rest = both_right (nat_lt p.owner.row 0x1000000 && nat_lt p.child.row 0x1000000) (list_all (λ (k : Pair). nat_lt k.owner.row 0x1000000 && nat_lt k.child.row 0x1000000) ps) h in
    elim (two (p.child.table == t)) [
      | inl a ↦ rw a (and_from _ _ front (fit_in_table t ps rest))
      | inr a ↦ rw a (fit_in_table t ps rest)
    ]

-- children of a table are gained by its pairs alone
chosen : (t : ℕ) (f : Attached → Bool) (pairs : List Attached) → filter (λ (a : Attached). f a && a.child.table == t) (filter (in_table t) pairs) ≡ filter (λ (a : Attached). f a && a.child.table == t) pairs
chosen t f [] = refl
chosen t f (a ∷ rest) = elim (two (a.child.table == t)) [
  | inl is ↦ elim (two (f a)) [
    | inl here ↦ rw (is, is, here) (ap (λ xs. a ∷ xs) (chosen t f rest))
    | inr other ↦ rw (is, is, other) (chosen t f rest)
  ]
  | inr past ↦ rw past (rw (never (f a)) (chosen t f rest))
]
  where
    never : (b : Bool) → (b && false) ≡ false
    never true = refl
    never false = refl

twin_here : (q : Asked) (m : Module) (pairs : List Attached) (a : Attached) → has_twin q m (filter (in_table a.child.table) pairs) a ≡ has_twin q m pairs a
unfolding has_twin
twin_here q m pairs a = rw (chosen a.child.table (λ (b : Attached). is_token b.owner a.owner) pairs) refl

pub equal_numbers : (a b : ℕ) → (a == b) ≡ true → a ≡ b
equal_numbers a b h = grind (arith, nat_tests)

twin_in : (q : Asked) (m : Module) (pairs : List Attached) (t : ℕ) (a : Attached) → in_table t a ≡ true → has_twin q m (filter (in_table t) pairs) a ≡ has_twin q m pairs a
twin_in q m pairs t a h = let e = equal_numbers a.child.table t h in rw (← e) (twin_here q m pairs a)

-- an edit behind others gives its owner this child
abbrev AddsAt : Module → List Edit → List Edit → ℕ → Attached → Type 0
AddsAt m before edits k x = (e : Edit) × (slice_get edits k ≡ Some e) × (attached_by e (row_edited m (before ++ take k edits) e) ≡ x ∷ [])

short : (e : Edit) (t : Token) → (attached_by e t ≡ []) ⊎ ((y : Attached) × (attached_by e t ≡ y ∷ []))
short (Add table owner cells code points) t = elim (two (is_child_table table)) [
  | inl a ↦ inr (record { owner = owner; child = t }, rw a refl)
  | inr a ↦ inl (rw a refl)
]
short (Replace method code points) t = inl refl

pub nowhere : {A : Type 0} (i : ℕ) (x : A) → slice_get [] i ≡ Some x → ⊥
nowhere zero x h = cc
nowhere (suc i) x h = cc

in_front : {A : Type 0} (y : A) (ys : List A) (i : ℕ) (x : A) → slice_get (y ∷ ys) i ≡ Some x → (y ≡ x) ⊎ ((j : ℕ) × (slice_get ys j ≡ Some x))
in_front y ys zero x h = inl (cc)
in_front y ys (suc i) x h = inr (i, h)

behind : {A : Type 0} (xs ys : List A) (j : ℕ) (x : A) → slice_get ys j ≡ Some x → (i : ℕ) × (slice_get (xs ++ ys) i ≡ Some x)
behind [] ys j x h = (j, h)
behind (z ∷ xs) ys j x h = let w = behind xs ys j x h in (suc w.0, w.1)

-- one edit more stands before
later : (m : Module) (before : List Edit) (e : Edit) (rest : List Edit) (k : ℕ) (x : Attached) → AddsAt m (before ++ e ∷ []) rest k x → AddsAt m before (e ∷ rest) (suc k) x
later m before e rest k x w = (w.0, w.1, ap (λ (b : List Edit). attached_by w.0 (row_edited m b w.0)) (sym (append_assoc before (e ∷ []) (take k rest))) ∙ w.2)

sooner : (m : Module) (before : List Edit) (e : Edit) (rest : List Edit) (k : ℕ) (x : Attached) → AddsAt m before (e ∷ rest) (suc k) x → AddsAt m (before ++ e ∷ []) rest k x
sooner m before e rest k x w = (w.0, w.1, ap (λ (b : List Edit). attached_by w.0 (row_edited m b w.0)) (append_assoc before (e ∷ []) (take k rest)) ∙ w.2)

-- each child is an edit's
comes_from : (m : Module) (before edits : List Edit) (i : ℕ) (x : Attached) → slice_get (attached_behind m before edits) i ≡ Some x → (k : ℕ) × AddsAt m before edits k x
unfolding attached_behind
comes_from m before [] i x h = absurd (nowhere i x h)
comes_from m before (e ∷ rest) i x h = elim (short e (row_edited m before e)) [
  | inl none ↦
      let w = comes_from m (before ++ e ∷ []) rest i x (rw none at h) in
      (suc w.0, later m before e rest w.0 x w.1)
  | inr one ↦ elim (in_front one.0 (attached_behind m (before ++ e ∷ []) rest) i x (rw (one.1) at h)) [
    | inl here ↦ (0, (e, refl, ap (λ (b : List Edit). attached_by e (row_edited m b e)) (append-nil before) ∙ one.1 ∙ ap (λ (y : Attached). y ∷ []) here))
    | inr there ↦
        let w = comes_from m (before ++ e ∷ []) rest there.0 x there.1 in
        (suc w.0, later m before e rest w.0 x w.1)
  ]
]

-- and each edit's child is among them
goes_to : (m : Module) (before edits : List Edit) (k : ℕ) (x : Attached) → AddsAt m before edits k x → (i : ℕ) × (slice_get (attached_behind m before edits) i ≡ Some x)
unfolding attached_behind
goes_to m before [] k x w = absurd (nowhere k w.0 w.1)
goes_to m before (e ∷ rest) zero x w =
    let same : e ≡ w.0 = cc (w.1) in
    let here : attached_by e (row_edited m before e) ≡ x ∷ [] = ap (λ (b : List Edit). attached_by e (row_edited m b e)) (sym (append-nil before)) ∙ ap (λ (f : Edit). attached_by f (row_edited m (before ++ []) f)) same ∙ w.2 in
    (0, rw here refl)
goes_to m before (e ∷ rest) (suc k) x w =
    let there = goes_to m (before ++ e ∷ []) rest k x (sooner m before e rest k x w) in
    behind (attached_by e (row_edited m before e)) (attached_behind m (before ++ e ∷ []) rest) there.0 x there.1

-- what passes a test is among those that do
kept : {A : Type 0} (p : A → Bool) (xs : List A) (j : ℕ) (x : A) → slice_get xs j ≡ Some x → p x ≡ true → (i : ℕ) × (slice_get (filter p xs) i ≡ Some x)
kept p [] j x h passes = absurd (nowhere j x h)
kept p (y ∷ xs) zero x h passes =
    let same : y ≡ x = cc in
    let here = ap p same ∙ passes in
    (0, rw here h)
kept {A} p (y ∷ xs) (suc j) x h passes =
    let w = kept p xs j x h passes in
    elim (two (p y)) [ inl a ↦ (suc w.0, rw a (w.1)) | inr a ↦ (w.0, rw a (w.1)) ]

pub passing : {A : Type 0} (p : A → Bool) (xs : List A) (i : ℕ) (x : A) → slice_get (filter p xs) i ≡ Some x → (j : ℕ) × (slice_get xs j ≡ Some x) × (p x ≡ true)
passing p [] i x h = absurd (nowhere i x h)
passing {A} p (y ∷ xs) i x h = elim (two (p y)) [
  | inl a ↦ elim (in_front y (filter p xs) i x (rw a at h)) [
    | inl same ↦ (0, ap (λ (z : A). Some z) same, sym (ap p same) ∙ a)
    | inr there ↦ let w = passing p xs there.0 x there.1 in (suc w.0, w.1, w.2)
  ]
  | inr a ↦ let w = passing p xs i x (rw a at h) in (suc w.0, w.1, w.2)
]

-- an edit that adds a row of a table raises the next one's number
rise : (t : ℕ) (edits : List Edit) (j k : ℕ) (e : Edit) → j < k → slice_get edits j ≡ Some e → adds_to t e ≡ true → rows_added (take j edits) t + 1 ≤ rows_added (take k edits) t
unfolding rows_added adding
rise t [] j k e low there adds = absurd (nowhere j e there)
rise t (x ∷ xs) j zero e low there adds = absurd (omega arith)
rise t (x ∷ xs) zero (suc k) e low there adds =
    let same : x ≡ e = cc in
    let here = ap (adds_to t) same ∙ adds in
    rw here (omega arith)
rise t (x ∷ xs) (suc j) (suc k) e low there adds =
    let more = rise t xs j k e (omega arith) there adds in
    elim (two (adds_to t x)) [ inl a ↦ rw a (omega arith) | inr a ↦ rw a more ]

-- the number of a child's row
child_is : (m : Module) (edits : List Edit) (k : ℕ) (x : Attached) (w : AddsAt m [] edits k x) → (adds_to x.child.table w.0 ≡ true) × (x.child.row ≡ row_count m x.child.table + rows_added (take k edits) x.child.table + 1)
child_is m edits k x w = added w.0 w.2
  where
    added : (e : Edit) → attached_by e (row_edited m (take k edits) e) ≡ x ∷ [] → (adds_to x.child.table e ≡ true) × (x.child.row ≡ row_count m x.child.table + rows_added (take k edits) x.child.table + 1)
    added (Add table owner cells code points) h = elim (two (is_child_table table)) [
      | inl a ↦
          let same : record { owner = owner; child = record { table = table; row = row_count m table + rows_added (take k edits) table + 1 } } ≡ x = cc (rw a at h) in
          (rw (← same) (eq-eqb table table refl), rw (← same) refl)
      | inr a ↦ absurd (cc (rw a at h))
    ]
    added (Replace method code points) h = absurd (cc)

-- of two children of a table the later edit's has the greater number
in_order : (m : Module) (edits : List Edit) (j k : ℕ) (x y : Attached) (v : AddsAt m [] edits j y) (w : AddsAt m [] edits k x) → j < k → y.child.table ≡ x.child.table → y.child.row < x.child.row
in_order m edits j k x y v w low same =
    let a = child_is m edits j y v in
    let b = child_is m edits k x w in
    let up = rise y.child.table edits j k v.0 low v.1 a.0 in
    let b' = rw (← same) at b.1 in
    omega (arith, up, a.1, b')

-- what a rule says of an edit that is there
at_is : (rule : Edit → Token → Bool) (c : Chain) (l : EditList) (k : ℕ) (e : Edit) → slice_get l.edits k ≡ Some e → at_edit rule c l k ≡ rule e (row_edited c.plain (take k l.edits) e)
at_is rule c l k e is = edit_judged rule c l k e (row_edited c.plain (take k l.edits) e) is (nth_row_behind c.plain [] l.edits k ∙ ap (option_map (row_edited c.plain (take k l.edits))) is)

at_true : (rule : Edit → Token → Bool) (c : Chain) (l : EditList) (k : ℕ) → at_edit rule c l k ≡ true → (e : Edit) × (slice_get l.edits k ≡ Some e) × (rule e (row_edited c.plain (take k l.edits) e) ≡ true)
at_true rule c l k h = go (slice_get l.edits k) refl
  where
    go : (o : Option Edit) → slice_get l.edits k ≡ o → (e : Edit) × (slice_get l.edits k ≡ Some e) × (rule e (row_edited c.plain (take k l.edits) e) ≡ true)
    go None is = absurd (cc (rw is at h))
    go (Some e) is = (e, is, sym (at_is rule c l k e is) ∙ h)

only : (b : Bool) → (b || false) ≡ true → b ≡ true
only true h = refl
only false h = h

child_true : (rule : Attached → Bool) (e : Edit) (t : Token) → of_child rule e t ≡ true → (x : Attached) × (attached_by e t ≡ x ∷ []) × (rule x ≡ true)
child_true rule e t h = elim (short e t) [
  | inl none ↦ absurd (cc (rw none at h))
  | inr one ↦ (one.0, one.1, only (rule one.0) (rw (one.1) at h))
]

abbrev asked : Chain → EditList → Asked
asked c l = asked_of (rows_listed c l.edits)

-- the edits with twins of a table, by their children
twin_there : (t : ℕ) (c : Chain) (l : EditList) (k : ℕ) → has_twin_in t c l k ≡ true → (x : Attached) × AddsAt c.plain [] l.edits k x × (is_twin_in t c l x ≡ true)
unfolding has_twin_in
twin_there t c l k h =
    let w = at_true (of_child (is_twin_in t c l)) c l k h in
    let v = child_true (is_twin_in t c l) w.0 (row_edited c.plain (take k l.edits) w.0) w.2 in
    (v.0, (w.0, w.1, v.1), v.2)

twin_at : (t : ℕ) (c : Chain) (l : EditList) (k : ℕ) (x : Attached) → AddsAt c.plain [] l.edits k x → is_twin_in t c l x ≡ true → has_twin_in t c l k ≡ true
unfolding has_twin_in
twin_at t c l k x w h =
    at_is (of_child (is_twin_in t c l)) c l k w.0 w.1 ∙ ap (list_any (is_twin_in t c l)) (w.2) ∙ ap (λ b. b || false) h

-- the edit that adds a child
adds_means : (m : Module) (edits : List Edit) (j : ℕ) (e : Edit) (child : Token) → adds_row child e (row_edited m (take j edits) e) ≡ true → (adds_to child.table e ≡ true) × (child.row ≡ row_count m child.table + rows_added (take j edits) child.table + 1)
adds_means m edits j (Add table owner cells code points) child h =
    let row = row_count m table + rows_added (take j edits) table + 1 in
    let here = both_left (table == child.table) (row == child.row) h in
    let there = equal_numbers row child.row (both_right (table == child.table) (row == child.row) h) in
    let same = equal_numbers table child.table here in
    (here, rw (← same) (sym there))
adds_means m edits j (Replace method code points) child h = absurd (cc)

adds_here : (m : Module) (edits : List Edit) (k : ℕ) (x : Attached) (w : AddsAt m [] edits k x) → adds_row x.child w.0 (row_edited m (take k edits) w.0) ≡ true
adds_here m edits k x w = added w.0 w.2
  where
    added : (e : Edit) → attached_by e (row_edited m (take k edits) e) ≡ x ∷ [] → adds_row x.child e (row_edited m (take k edits) e) ≡ true
    added (Add table owner cells code points) h = elim (two (is_child_table table)) [
      | inl a ↦
          let row = row_count m table + rows_added (take k edits) table + 1 in
          let same : record { owner = owner; child = record { table = table; row = row } } ≡ x = cc (rw a at h) in
          rw (← same) (and_from (table == table) (row == row) (eq-eqb table table refl) (eq-eqb row row refl))
      | inr a ↦ absurd (cc (rw a at h))
    ]
    added (Replace method code points) h = absurd (cc)

low_there : (edits : List Edit) (k : ℕ) (e : Edit) → slice_get edits k ≡ Some e → k < length edits
low_there [] k e h = absurd (nowhere k e h)
low_there (x ∷ xs) zero e h = omega arith
low_there (x ∷ xs) (suc k) e h = let l = low_there xs k e h in omega arith

false_unless : (b : Bool) → (b ≡ true → ⊥) → b ≡ false
false_unless true h = absurd (h refl)
false_unless false h = refl

-- the edit of the least child with a twin is the first of its table that has one
found : (t : ℕ) (c : Chain) (l : EditList) (x : Attached) → IsLeastOf child_number (has_twin (asked c l) c.plain (filter (in_table t) (attached_in c.plain l.edits))) (filter (in_table t) (attached_in c.plain l.edits)) x → first_such (adds_child x.child c l) (length l.edits) ≡ first_such (has_twin_in t c l) (length l.edits)
unfolding adds_child
found t c l x least =
    let pairs = attached_in c.plain l.edits in
    let p = passing (in_table t) pairs least.at x least.there in
    let w = comes_from c.plain [] l.edits p.0 x p.1 in
    let twin = sym (twin_in (asked c l) c.plain pairs t x p.2) ∙ least.passes in
    let low = low_there l.edits w.0 w.1.0 w.1.1 in
    let mine = such_unique (adds_child x.child c l) (length l.edits) (Some w.0) (low, at_is (adds_row x.child) c l w.0 w.1.0 w.1.1 ∙ adds_here c.plain l.edits w.0 x w.1, λ j before. false_unless _ (other w.0 w.1 j before)) in
    let theirs = such_unique (has_twin_in t c l) (length l.edits) (Some w.0) (low, twin_at t c l w.0 x w.1 (and_from _ _ p.2 twin), λ j before. false_unless _ (sooner_twin w.0 w.1 p.2 j before)) in
    sym mine ∙ theirs
  where
    other : (k : ℕ) (w : AddsAt c.plain [] l.edits k x) (j : ℕ) → j < k → adds_child x.child c l j ≡ true → ⊥
    other k w j before h =
        let v = at_true (adds_row x.child) c l j h in
        let a = adds_means c.plain l.edits j v.0 x.child v.2 in
        let b = child_is c.plain l.edits k x w in
        let up = rise x.child.table l.edits j k v.0 before v.1 a.0 in
        omega (arith, up, a.1, b.1)

    sooner_twin : (k : ℕ) (w : AddsAt c.plain [] l.edits k x) → in_table t x ≡ true → (j : ℕ) → j < k → has_twin_in t c l j ≡ true → ⊥
    sooner_twin k w here j before h =
        let pairs = attached_in c.plain l.edits in
        let v = twin_there t c l j h in
        let of_table = both_left (in_table t v.0) (has_twin (asked c l) c.plain pairs v.0) v.2 in
        let has = both_right (in_table t v.0) (has_twin (asked c l) c.plain pairs v.0) v.2 in
        let i = goes_to c.plain [] l.edits j v.0 v.1 in
        let at = kept (in_table t) pairs i.0 v.0 i.1 of_table in
        let least_one = least.least at.0 v.0 at.1 (twin_in (asked c l) c.plain pairs t v.0 of_table ∙ has) in
        let same : v.0.child.table ≡ x.child.table = equal_numbers v.0.child.table t of_table ∙ sym (equal_numbers x.child.table t here) in
        let up = in_order c.plain l.edits j k x v.0 v.1 w before same in
        omega (arith, least_one, up, same)

small_child : (pairs : List Pair) (i : ℕ) (a : Attached) → ArePairs pairs → slice_get (map pair_seen pairs) i ≡ Some a → a.child.row < 2 ^ 24
small_child [] i a h there = absurd (nowhere i a there)
small_child (p ∷ ps) zero a h there =
    let front = both_left (nat_lt p.owner.row 0x1000000 && nat_lt p.child.row 0x1000000) (list_all (λ (k : Pair). nat_lt k.owner.row 0x1000000 && nat_lt k.child.row 0x1000000) ps) h in
    let low = both_right (nat_lt p.owner.row 0x1000000) (nat_lt p.child.row 0x1000000) front in
    let same : pair_seen p ≡ a = cc in
    rw (← same) (grind (arith, nat_tests))
small_child (p ∷ ps) (suc i) a h there = small_child ps i a (both_right (nat_lt p.owner.row 0x1000000 && nat_lt p.child.row 0x1000000) (list_all (λ (k : Pair). nat_lt k.owner.row 0x1000000 && nat_lt k.child.row 0x1000000) ps) h) there

-- the place that is named leads to the edit
pub first_named : (t : ℕ) (c : Chain) (l : EditList) (pairs : List Pair) (p : Place) → map pair_seen pairs ≡ filter (in_table t) (attached_in c.plain l.edits) → ArePairs pairs → Some p ≡ twin_fault (asked_of (rows_listed c l.edits)) c.plain (map pair_seen pairs) → first_such (adds_child (row_of_place p) c l) (length l.edits) ≡ first_such (has_twin_in t c l) (length l.edits)
first_named t c l pairs p are rows is =
    let chosen_pairs = filter (in_table t) (attached_in c.plain l.edits) in
    let named = rw (← (rw are at is)) at (names_least_twin (asked c l) c.plain chosen_pairs) in
    let small = small_child pairs named.1.at named.0 rows (rw are (named.1.there)) in
    rw (named.2 small) (found t c l named.0 named.1)

-- and where none is named, no edit of the table has a twin
pub none_named : (t : ℕ) (c : Chain) (l : EditList) (pairs : List Pair) → map pair_seen pairs ≡ filter (in_table t) (attached_in c.plain l.edits) → None ≡ twin_fault (asked_of (rows_listed c l.edits)) c.plain (map pair_seen pairs) → None ≡ first_such (has_twin_in t c l) (length l.edits)
none_named t c l pairs are is = such_unique (has_twin_in t c l) (length l.edits) None (λ k low. false_unless _ (absent k))
  where
    absent : (k : ℕ) → has_twin_in t c l k ≡ true → ⊥
    absent k h =
        let all = attached_in c.plain l.edits in
        let none = rw (← (rw are at is)) at (names_least_twin (asked c l) c.plain (filter (in_table t) all)) in
        let v = twin_there t c l k h in
        let of_table = both_left (in_table t v.0) (has_twin (asked c l) c.plain all v.0) v.2 in
        let has = both_right (in_table t v.0) (has_twin (asked c l) c.plain all v.0) v.2 in
        let i = goes_to c.plain [] l.edits k v.0 v.1 in
        let at = kept (in_table t) all i.0 v.0 i.1 of_table in
        let yes_twin = twin_in (asked c l) c.plain all t v.0 of_table ∙ has in
        let no_twin = none at.0 v.0 at.1 in
        let f : false ≡ true = sym no_twin ∙ yes_twin in
        cc

-- a member with a twin is of one of four tables
tables : (t : ℕ) (f m : Bool) → (t == 0x04 && f || t == 0x06 && m || t == 0x14 || t == 0x17) ≡ true → (t == 0x04) ≡ true ⊎ (t == 0x06) ≡ true ⊎ (t == 0x14) ≡ true ⊎ (t == 0x17) ≡ true
tables t f m h = grind (arith, nat_tests)

member_tables : (c : Chain) (l : EditList) (pairs : List Attached) (x : Attached) → has_twin (asked c l) c.plain pairs x ≡ true → (x.child.table == 0x04) ≡ true ⊎ (x.child.table == 0x06) ≡ true ⊎ (x.child.table == 0x14) ≡ true ⊎ (x.child.table == 0x17) ≡ true
unfolding has_twin is_member
member_tables c l pairs x h = tables x.child.table _ _ (both_left _ _ h)

-- the four tests together
abbrev in_any : Chain → EditList → ℕ → Bool
in_any c l k = (has_twin_in 0x04 c l k || has_twin_in 0x06 c l k) || (has_twin_in 0x17 c l k || has_twin_in 0x14 c l k)

any_left : (a b : Bool) → a ≡ true → (a || b) ≡ true
any_left a b h = rw h refl

any_right : (a b : Bool) → b ≡ true → (a || b) ≡ true
any_right true b h = refl
any_right false b h = h

split : (a b : Bool) → (a || b) ≡ true → (a ≡ true) ⊎ (b ≡ true)
split true b h = inl refl
split false b h = inr h

member_there : (c : Chain) (l : EditList) (k : ℕ) → member_has_twin c l k ≡ true → (x : Attached) × AddsAt c.plain [] l.edits k x × (has_twin (asked c l) c.plain (attached_in c.plain l.edits) x ≡ true)
unfolding member_has_twin
member_there c l k h =
    let rule = has_twin (asked c l) c.plain (attached_in c.plain l.edits) in
    let w = at_true (of_child rule) c l k h in
    let v = child_true rule w.0 (row_edited c.plain (take k l.edits) w.0) w.2 in
    (v.0, (w.0, w.1, v.1), v.2)

member_at : (c : Chain) (l : EditList) (k : ℕ) (x : Attached) → AddsAt c.plain [] l.edits k x → has_twin (asked c l) c.plain (attached_in c.plain l.edits) x ≡ true → member_has_twin c l k ≡ true
unfolding member_has_twin
member_at c l k x w h =
    let rule = has_twin (asked c l) c.plain (attached_in c.plain l.edits) in
    at_is (of_child rule) c l k w.0 w.1 ∙ ap (list_any rule) (w.2) ∙ ap (λ b. b || false) h

up_to_any : (c : Chain) (l : EditList) (k : ℕ) → member_has_twin c l k ≡ true → in_any c l k ≡ true
up_to_any c l k h =
    let v = member_there c l k h in
    elim (member_tables c l (attached_in c.plain l.edits) v.0 v.2) [
      | inl a ↦ any_left _ _ (any_left _ _ (twin_at 0x04 c l k v.0 v.1 (and_from _ _ a v.2)))
      | inr w ↦ elim w [
        | inl a ↦ any_left _ _ (any_right (has_twin_in 0x04 c l k) _ (twin_at 0x06 c l k v.0 v.1 (and_from _ _ a v.2)))
        | inr w ↦ elim w [
          | inl a ↦ any_right (has_twin_in 0x04 c l k || has_twin_in 0x06 c l k) _ (any_right (has_twin_in 0x17 c l k) _ (twin_at 0x14 c l k v.0 v.1 (and_from _ _ a v.2)))
          | inr a ↦ any_right (has_twin_in 0x04 c l k || has_twin_in 0x06 c l k) _ (any_left _ _ (twin_at 0x17 c l k v.0 v.1 (and_from _ _ a v.2)))
        ]
      ]
    ]

of_one : (t : ℕ) (c : Chain) (l : EditList) (k : ℕ) → has_twin_in t c l k ≡ true → member_has_twin c l k ≡ true
of_one t c l k h = let v = twin_there t c l k h in member_at c l k v.0 v.1 (both_right _ _ v.2)

down_from_any : (c : Chain) (l : EditList) (k : ℕ) → in_any c l k ≡ true → member_has_twin c l k ≡ true
down_from_any c l k h = elim (split (has_twin_in 0x04 c l k || has_twin_in 0x06 c l k) (has_twin_in 0x17 c l k || has_twin_in 0x14 c l k) h) [
  | inl a ↦ elim (split (has_twin_in 0x04 c l k) (has_twin_in 0x06 c l k) a) [ inl b ↦ of_one 0x04 c l k b | inr b ↦ of_one 0x06 c l k b ]
  | inr a ↦ elim (split (has_twin_in 0x17 c l k) (has_twin_in 0x14 c l k) a) [ inl b ↦ of_one 0x17 c l k b | inr b ↦ of_one 0x14 c l k b ]
]

same_bool : (a b : Bool) → (a ≡ true → b ≡ true) → (b ≡ true → a ≡ true) → a ≡ b
same_bool true b f g = sym (f refl)
same_bool false true f g = g refl
same_bool false false f g = refl

-- the first of all is the earliest of the first of each table
pub first_member : (c : Chain) (l : EditList) (fields methods properties events : Option ℕ) → fields ≡ first_such (has_twin_in 0x04 c l) (length l.edits) → methods ≡ first_such (has_twin_in 0x06 c l) (length l.edits) → properties ≡ first_such (has_twin_in 0x17 c l) (length l.edits) → events ≡ first_such (has_twin_in 0x14 c l) (length l.edits) → earlier (earlier fields methods) (earlier properties events) ≡ first_such (member_has_twin c l) (length l.edits)
first_member c l fields methods properties events a b d e =
    let n = length l.edits in
    rw (a, b, d, e)
    (rw (earlier_is (has_twin_in 0x04 c l) (has_twin_in 0x06 c l) n, earlier_is (has_twin_in 0x17 c l) (has_twin_in 0x14 c l) n)
    (earlier_is (λ k. has_twin_in 0x04 c l k || has_twin_in 0x06 c l k) (λ k. has_twin_in 0x17 c l k || has_twin_in 0x14 c l k) n
    ∙ such_alike (in_any c l) (member_has_twin c l) n (λ k. same_bool (in_any c l k) (member_has_twin c l k) (down_from_any c l k) (up_to_any c l k))))
