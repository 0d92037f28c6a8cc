-- Where the rows of edits land: behind the last of their table, or in the place of a method that was there.
use Rattle.std.proofs.Common.{◌≡◌, ◌≢◌, ℕ, zero, suc, ◌+◌, ◌-◌, ◌<◌, ◌≤◌, Bool, true, false, List, [], ◌∷◌, ◌++◌, length, take, Some, refl, sym, ap, ◌∙◌, arith}
use Rattle.std.specs.Prelude.{slice_get, ◌||◌, ◌&&◌, ◌==◌, not, nat_lt, nat_le, if◌then◌else◌}
use Rattle.std.specs.List.{list_any}
use Rattle.std.proofs.lemmas.Bool.Decides.{nat_tests}
use Rattle.enc_base.specs.Token.{is_token}
use Rattle.enc_base.specs.declared.token.Token.{Token}
use Rattle.enc_plain.specs.Chain.{Chain}
use Rattle.enc_plain.specs.Module.{Module}
use Rattle.enc_plain.specs.Sound.{row_count}
use Rattle.enc_edit_list.specs.declared.edit.Edit.{Edit}
use Rattle.enc_edit_list.specs.declared.edit.Edit.TheVariants.{Add, Body as Replace}
use Rattle.enc_edit_list.specs.declared.edit.EditList.{EditList}
use Rattle.enc_edit_list.specs.Added.{adds_to, adding, rows_added}
use Rattle.enc_delta.specs.Rules.{may_change}
use Rattle.enc_rules.specs.Edited.{row_edited, rows_behind, rows_edited}
use Rattle.enc_rules.specs.Listed.{count_after}
use Rattle.enc_rules.specs.Rules.{row_is_edited_twice, table_breaks, table_is_closed, is_row_of, token_is_missing}
use Rattle.enc_agg.proofs.InTables.{may_small}
use Rattle.enc_memory_module.proofs.Unbroken.{BreakNothing}
use Rattle.enc_memory_module.proofs.Split.{added_more}

-- an edit that adds the r-th of the rows that some edits add to a table, and its row
pub record IsAdder (m : Module) (pre xs : List Edit) (t r : ℕ) : Type 0 where
  pub at : ℕ
  pub edit : Edit
  pub there : slice_get xs at ≡ Some edit
  pub adds : adds_to t edit ≡ true
  pub row : slice_get (rows_behind m pre xs) at ≡ Some (record { table = t; row = row_count m t + rows_added pre t + r + 1 })

own_row : (m : Module) (pre : List Edit) (e : Edit) (t : ℕ) → adds_to t e ≡ true → row_edited m pre e ≡ record { table = t; row = row_count m t + rows_added pre t + 1 }
own_row m pre (Add table owner cells code points) t h =
    let e : table ≡ t = grind (arith, nat_tests, h) in
    rw e refl
own_row m pre (Replace method code points) t h = absurd cc

counted : (b : Bool) (e : Edit) (xs : List Edit) → length (if b then e ∷ xs else xs) ≡ (if b then 1 else 0) + length xs
counted true e xs = omega arith
counted false e xs = omega arith

added_cons : (e : Edit) (xs : List Edit) (t : ℕ) → rows_added (e ∷ xs) t ≡ (if adds_to t e then 1 else 0) + rows_added xs t
unfolding rows_added adding
added_cons e xs t = counted (adds_to t e) e _

here : (m : Module) (pre xs : List Edit) (e : Edit) (t : ℕ) → adds_to t e ≡ true → IsAdder m pre (e ∷ xs) t 0
unfolding rows_behind
here m pre xs e t h =
    let n : row_count m t + rows_added pre t + 0 + 1 ≡ row_count m t + rows_added pre t + 1 = omega arith in
    record { at = 0; edit = e; there = refl; adds = h; row = rw (own_row m pre e t h, n) refl }

later : (m : Module) (pre xs : List Edit) (e : Edit) (t r k : ℕ) → rows_added (pre ++ e ∷ []) t + k ≡ rows_added pre t + r → IsAdder m (pre ++ e ∷ []) xs t k → IsAdder m pre (e ∷ xs) t r
unfolding rows_behind
later m pre xs e t r k same w =
    let n : row_count m t + rows_added (pre ++ e ∷ []) t + k + 1 ≡ row_count m t + rows_added pre t + r + 1 = omega (arith, same) in
    record { at = suc w.at; edit = w.edit; there = w.there; adds = w.adds; row = w.row ∙ (rw n refl) }

by_head : (m : Module) (pre xs : List Edit) (e : Edit) (t r : ℕ) (b : Bool) → adds_to t e ≡ b → r < (if b then 1 else 0) + rows_added xs t → ((k : ℕ) → k < rows_added xs t → IsAdder m (pre ++ e ∷ []) xs t k) → IsAdder m pre (e ∷ xs) t r
by_head m pre xs e t zero true h low more = here m pre xs e t h
by_head m pre xs e t (suc r) true h low more =
    let one : rows_added (pre ++ e ∷ []) t ≡ rows_added pre t + 1 = added_more pre e t ∙ (rw h refl) in
    later m pre xs e t (suc r) r (omega (arith, one)) (more r (omega (arith, low)))
by_head m pre xs e t r false h low more =
    let none : rows_added (pre ++ e ∷ []) t ≡ rows_added pre t + 0 = added_more pre e t ∙ (rw h refl) in
    later m pre xs e t r r (omega (arith, none)) (more r (omega (arith, low)))

none_added : (t r : ℕ) → r < rows_added [] t → ⊥
unfolding rows_added adding
none_added t r low = omega (arith, low)

pub adder : (m : Module) (pre xs : List Edit) (t r : ℕ) → r < rows_added xs t → IsAdder m pre xs t r
adder m pre [] t r low = absurd (none_added t r low)
adder m pre (e ∷ xs) t r low = by_head m pre xs e t r (adds_to t e) refl (rw (added_cons e xs t) at low) (λ k h. adder m (pre ++ e ∷ []) xs t k h)

-- two edits aren't about one row
there_rows : {A : Type 0} (xs : List A) (k : ℕ) (x : A) → slice_get xs k ≡ Some x → (p : A → Bool) (j : ℕ) → k < j → list_any p (take j xs) ≡ false → p x ≡ false
there_rows [] k x e p j lt h = absurd cc
there_rows (y ∷ xs) k x e p zero lt h = absurd (omega (arith, lt))
there_rows (y ∷ xs) zero x e p (suc j) lt h = let is : y ≡ x = cc in rw (← is) (first_none (p y) (list_any p (take j xs)) h)
  where
    first_none : (a b : Bool) → (a || b) ≡ false → a ≡ false
    first_none false b h = refl
    first_none true b h = absurd cc
there_rows (y ∷ xs) (suc k) x e p (suc j) lt h = there_rows xs k x e p j (omega (arith, lt)) (second_none (p y) (list_any p (take j xs)) h)
  where
    second_none : (a b : Bool) → (a || b) ≡ false → b ≡ false
    second_none false b h = h
    second_none true b h = absurd cc

twice : (c : Chain) (l : EditList) (k : ℕ) (e : Edit) (t : Token) → slice_get l.edits k ≡ Some e → slice_get (rows_edited c.plain l.edits) k ≡ Some t → row_is_edited_twice c l k ≡ false → list_any (λ u. is_token u t) (take k (rows_edited c.plain l.edits)) ≡ false
unfolding row_is_edited_twice
twice c l k e t a b h = rw (a, b) at h

pub apart : (c : Chain) (l : EditList) (j k : ℕ) (e f : Edit) (t u : Token) → BreakNothing c l → slice_get l.edits j ≡ Some e → slice_get l.edits k ≡ Some f → slice_get (rows_edited c.plain l.edits) j ≡ Some t → slice_get (rows_edited c.plain l.edits) k ≡ Some u → j < k → is_token t u ≡ false
apart c l j k e f t u none a b x y lt = there_rows (rows_edited c.plain l.edits) j t x (λ v. is_token v u) k lt (twice c l k f u b y (none.rows k))

-- the row of an edit that replaces a body is its method
abbrev pub row_is_of : Edit → Token → Type 0
row_is_of (Add table owner cells code points) t = Unit {0}
row_is_of (Replace method code points) t = t ≡ method

-- where the row of an edit lands
abbrev pub Lands : Module → Edit → Token → Type 0
Lands m (Add table owner cells code points) t = table < 0x2D
Lands m (Replace method code points) t = (method.table ≡ 6) × (0 < method.row) × (method.row ≤ row_count m 6)

not_false : (b : Bool) → not b ≡ false → b ≡ true
not_false true h = refl
not_false false h = absurd cc

both : (a b d : Bool) → (a && b && d) ≡ true → (a ≡ true) × (b ≡ true) × (d ≡ true)
both true true d h = (refl, refl, h)
both true false d h = absurd cc
both false b d h = absurd cc

neither_of : (a b : Bool) → (a || b) ≡ false → (a ≡ false) × (b ≡ false)
neither_of false b h = (refl, h)
neither_of true b h = absurd cc

same_self : (t : Token) → is_token t t ≡ true
same_self t = grind (arith, nat_tests)

-- an edit of a method isn't one that adds
differ : (xs : List Edit) (j k : ℕ) (e f : Edit) (t : ℕ) → slice_get xs j ≡ Some e → slice_get xs k ≡ Some f → adds_to t e ≡ true → adds_to t f ≡ false → j ≢ k
differ xs j k e f t a b p q is = absurd (contra (xs))
  where
    contra : List Edit → ⊥
    contra ys = let g : Some e ≡ Some f = sym a ∙ (rw is b) in let h : e ≡ f = cc in let n : adds_to t f ≡ true = rw (← h) p in absurd cc

pub no_rows : (t : ℕ) → rows_added [] t ≡ 0
unfolding rows_added adding
no_rows t = refl

meets : (b : Bool) → b ≡ true → b ≡ false → ⊥
meets b h e = let f : true ≡ false = sym h ∙ e in cc

-- another edit adds its row otherwise
new_method : (c : Chain) (l : EditList) (k : ℕ) (method : Token) (f : Edit) → BreakNothing c l → slice_get l.edits k ≡ Some f → slice_get (rows_edited c.plain l.edits) k ≡ Some method → adds_to 6 f ≡ false → method.table ≡ 6 → 0 < method.row → method.row ≤ count_after c l.edits 6 → row_count c.plain 6 < method.row → ⊥
unfolding count_after
new_method c l k method f none there row adds table low high past = by_order (nat_lt w.at k) (nat_lt k w.at) refl refl
  where
    w : IsAdder c.plain [] l.edits 6 (method.row - row_count c.plain 6 - 1)
    w = adder c.plain [] l.edits 6 (method.row - row_count c.plain 6 - 1) (omega (arith, high, past))

    is : slice_get (rows_edited c.plain l.edits) w.at ≡ Some method
    is = let zero_added = no_rows 6 in
        let n : row_count c.plain 6 + rows_added [] 6 + (method.row - row_count c.plain 6 - 1) + 1 ≡ method.row = omega (arith, zero_added, past) in
        w.row ∙ (rw (n, ← table) refl)

    by_order : (a b : Bool) → nat_lt w.at k ≡ a → nat_lt k w.at ≡ b → ⊥
    by_order true b p q = meets (is_token method method) (same_self method) (apart c l w.at k w.edit f method method none w.there there is row (grind (arith, nat_tests, p)))
    by_order false true p q = meets (is_token method method) (same_self method) (apart c l k w.at f w.edit method method none there w.there row is (grind (arith, nat_tests, q)))
    by_order false false p q = differ l.edits w.at k w.edit f 6 w.there there w.adds adds (grind (arith, nat_tests, p, q))

-- the method whose body is replaced was there before
pub old_method : (c : Chain) (l : EditList) (k : ℕ) (method : Token) (f : Edit) → BreakNothing c l → slice_get l.edits k ≡ Some f → slice_get (rows_edited c.plain l.edits) k ≡ Some method → adds_to 6 f ≡ false → method.table ≡ 6 → 0 < method.row → method.row ≤ count_after c l.edits 6 → method.row ≤ row_count c.plain 6
unfolding count_after
old_method c l k method f none there row adds table low high = by_side (nat_le method.row (row_count c.plain 6)) refl
  where
    by_side : (b : Bool) → nat_le method.row (row_count c.plain 6) ≡ b → method.row ≤ row_count c.plain 6
    by_side true h = grind (arith, nat_tests, h)
    by_side false h = absurd (new_method c l k method f none there row adds table low high (grind (arith, nat_tests, h)))

-- each edit lands
add_lands : (c : Chain) (l : EditList) (k : ℕ) (table : ℕ) (owner : Token) (cells : _) (code : _) (points : _) (t : Token) → BreakNothing c l → slice_get l.edits k ≡ Some (Add table owner cells code points) → slice_get (rows_edited c.plain l.edits) k ≡ Some t → table < 0x2D
unfolding table_is_closed
add_lands c l k table owner cells code points t none there row =
    let open_ : table_breaks (Add table owner cells code points) ≡ false = rw (there, row) at (none.tables k) in
    let may = not_false (may_change table) (neither_of (not (may_change table)) _ open_).0 in
    let small = may_small table may in
    grind (arith, nat_tests, small)

replace_lands : (c : Chain) (l : EditList) (k : ℕ) (method : Token) (code : _) (points : _) → BreakNothing c l → slice_get l.edits k ≡ Some (Replace method code points) → slice_get (rows_edited c.plain l.edits) k ≡ Some method → (method.table ≡ 6) × (0 < method.row) × (method.row ≤ row_count c.plain 6)
unfolding token_is_missing
replace_lands c l k method code points none there row =
    let is : is_row_of (count_after c l.edits) 6 method ≡ true = not_false _ (rw (there, row) at (none.tokens k)) in
    let p = both (method.table == 6) (nat_le 1 method.row) (nat_le method.row (count_after c l.edits 6)) is in
    let table : method.table ≡ 6 = grind (arith, nat_tests, p.0) in
    let low : 0 < method.row = grind (arith, nat_tests, p.1) in
    let high : method.row ≤ count_after c l.edits 6 = grind (arith, nat_tests, p.2) in
    (table, low, old_method c l k method (Replace method code points) none there row refl table low high)

pub lands : (c : Chain) (l : EditList) (k : ℕ) (e : Edit) (t : Token) → BreakNothing c l → slice_get l.edits k ≡ Some e → slice_get (rows_edited c.plain l.edits) k ≡ Some t → row_is_of e t → Lands c.plain e t
lands c l k (Add table owner cells code points) t none there row is = add_lands c l k table owner cells code points t none there row
lands c l k (Replace method code points) t none there row is = replace_lands c l k method code points none there (row ∙ ap (λ x. Some x) is)
