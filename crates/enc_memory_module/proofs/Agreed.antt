-- The rows by which a list is judged are those after it, but for the bodies that it replaces.
use Rattle.std.proofs.Common.{◌≡◌, ℕ, zero, suc, ◌+◌, ◌-◌, ◌<◌, ◌≤◌, Bool, true, false, List, [], ◌∷◌, ◌++◌, length, take, drop, Option, Some, None, refl, sym, ap, ◌∙◌, arith, subst}
use Rattle.std.specs.Prelude.{slice_get, ◌==◌, nat_lt, option_and_then, unwrap_or, is_some, if◌then◌else◌}
use Rattle.std.proofs.lemmas.Bool.{false≢true}
use Rattle.std.proofs.lemmas.Bool.Decides.{nat_tests}
use Rattle.enc_base.specs.Order.{or_else}
use Rattle.enc_base.specs.Token.{is_token}
use Rattle.enc_base.specs.declared.token.Token.{Token}
use Rattle.enc_plain.specs.Cell.{Cell, is_body}
use Rattle.enc_plain.specs.Chain.{Chain, rows_before}
use Rattle.enc_plain.specs.Fits.{cells_for}
use Rattle.enc_plain.specs.Module.{Module, cells_of}
use Rattle.enc_plain.specs.Rows.{cell_at, number_at, bytes_at, token_at}
use Rattle.enc_plain.specs.Sound.{row_count, HasTables}
use Rattle.enc_edit_list.specs.declared.edit.Edit.{Edit}
use Rattle.enc_edit_list.specs.declared.edit.Edit.TheVariants.{Add, Body as Replace}
use Rattle.enc_edit_list.specs.declared.edit.EditList.{EditList}
use Rattle.enc_edit_list.specs.Added.{adds_to, adding, rows_added}
use Rattle.enc_rules.specs.Edited.{row_edited, rows_behind, rows_edited, cells_edited, cells_with, changes_behind, edited}
use Rattle.enc_rules.specs.Listed.{edit_of, rows_listed}
use Rattle.enc_memory_module.proofs.Unbroken.{BreakNothing}
use Rattle.enc_memory_module.proofs.Split.{seam, row_there, adding_append, few_of}
use Rattle.enc_memory_module.proofs.Landed.{lands, adder, no_rows}
use Rattle.enc_memory_module.proofs.Changed.{edit_found, cells_after}

-- a list is split at the item of a place
split : {A : Type 0} (xs : List A) (k : ℕ) (x : A) → slice_get xs k ≡ Some x → (xs ≡ take k xs ++ x ∷ drop (suc k) xs) × (length (take k xs) ≡ k)
split [] k x h = absurd cc
split (y ∷ xs) zero x h = let e : y ≡ x = cc in (ap (λ z. z ∷ xs) e, refl)
split (y ∷ xs) (suc k) x h = let w = split xs k x h in (ap (λ zs. y ∷ zs) w.0, ap suc w.1)

-- the row of the edit at a place
pub row_at_place : (m : Module) (xs : List Edit) (k : ℕ) (e : Edit) → slice_get xs k ≡ Some e → slice_get (rows_edited m xs) k ≡ Some (row_edited m (take k xs) e)
row_at_place m xs k e h =
    let w = split xs k e h in
    let there = row_there m (take k xs) (drop (suc k) xs) e in
    subst (λ ys. slice_get (rows_edited m ys) k ≡ Some (row_edited m (take k xs) e)) (sym w.0) (subst (λ n. slice_get (rows_edited m (take k xs ++ e ∷ drop (suc k) xs)) n ≡ Some (row_edited m (take k xs) e)) w.1 there)

some_same : {A : Type 0} (a b : A) → Some a ≡ Some b → a ≡ b
some_same a b h = cc

-- it is found among those that add to its table
first_kept : (t : ℕ) (e : Edit) (rest : List Edit) → adds_to t e ≡ true → adding (e ∷ rest) t ≡ e ∷ adding rest t
unfolding adding
first_kept t e rest h = rw h refl

at_seam : (before rest : List Edit) (t : ℕ) (e : Edit) → adds_to t e ≡ true → slice_get (adding (before ++ e ∷ rest) t) (rows_added before t) ≡ Some e
unfolding rows_added
at_seam before rest t e h =
    rw (adding_append before (e ∷ rest) t, first_kept t e rest h) (seam (adding before t) (adding rest t) e)

added_at : (xs : List Edit) (k t : ℕ) (e : Edit) → slice_get xs k ≡ Some e → adds_to t e ≡ true → slice_get (adding xs t) (rows_added (take k xs) t) ≡ Some e
added_at xs k t e h adds =
    let w = split xs k e h in
    subst (λ ys. slice_get (adding ys t) (rows_added (take k xs) t) ≡ Some e) (sym w.0) (at_seam (take k xs) (drop (suc k) xs) t e adds)

pub found_added : (c : Chain) (l : EditList) (k table : ℕ) (owner : Token) (cells : _) (code : _) (points : _) (u : Token) → slice_get l.edits k ≡ Some (Add table owner cells code points) → slice_get (rows_edited c.plain l.edits) k ≡ Some u → edit_of c l.edits u ≡ Some (Add table owner cells code points)
unfolding edit_of
found_added c l k table owner cells code points u there row =
    let e : Edit = Add table owner cells code points in
    let same : row_edited c.plain (take k l.edits) e ≡ u = some_same _ _ (sym (row_at_place c.plain l.edits k e there) ∙ row) in
    let past : nat_lt (rows_before c table) (row_count c.plain table + rows_added (take k l.edits) table + 1) ≡ true = grind (arith, nat_tests) in
    let n : row_count c.plain table + rows_added (take k l.edits) table + 1 - rows_before c table - 1 ≡ rows_added (take k l.edits) table = omega arith in
    let self : (table == table) ≡ true = grind (arith, nat_tests) in
    rw (← same, past, n) (added_at l.edits k table e there self)

-- a row that was there is added by none
pub not_added : (c : Chain) (edits : List Edit) (u : Token) → u.row ≤ row_count c.plain u.table → edit_of c edits u ≡ None
unfolding edit_of
not_added c edits u low =
    let here : nat_lt (rows_before c u.table) u.row ≡ false = grind (arith, nat_tests, low) in
    rw here refl

-- a row that an edit is about has its cells
some_cells : (m : Module) (pre xs : List Edit) (j : ℕ) (u : Token) → slice_get (rows_behind m pre xs) j ≡ Some u → is_some (cells_for (changes_behind m pre xs) u) ≡ true
unfolding rows_behind changes_behind cells_for
some_cells m pre [] j u h = absurd cc
some_cells m pre (e ∷ xs) zero u h =
    let same : row_edited m pre e ≡ u = cc in
    let is : is_token (row_edited m pre e) u ≡ true = rw same (grind (arith, nat_tests)) in
    rw is refl
some_cells m pre (e ∷ xs) (suc j) u h = by_test (is_token (row_edited m pre e) u) (some_cells m (pre ++ e ∷ []) xs j u h)
  where
    by_test : (b : Bool) → is_some (cells_for (changes_behind m (pre ++ e ∷ []) xs) u) ≡ true → is_some (if b then Some (cells_edited m e) else cells_for (changes_behind m (pre ++ e ∷ []) xs) u) ≡ true
    by_test true g = refl
    by_test false g = g

few_added : (xs : List Edit) (t i : ℕ) (e : Edit) → slice_get (adding xs t) i ≡ Some e → i < rows_added xs t
unfolding rows_added
few_added xs t i e h = few_of (adding xs t) i e h

-- where no edit is about a row, none adds it
pub none_of : (c : Chain) (l : EditList) (u : Token) (o : Option Edit) → edit_of c l.edits u ≡ o → cells_for (changes_behind c.plain [] l.edits) u ≡ None → o ≡ None
unfolding edit_of
none_of c l u None is none = refl
none_of c l u (Some e) is none = absurd (adds (nat_lt (rows_before c u.table) u.row) refl is)
  where
    adds : (b : Bool) → nat_lt (rows_before c u.table) u.row ≡ b → (if b then slice_get (adding l.edits u.table) (u.row - rows_before c u.table - 1) else None) ≡ Some e → ⊥
    adds false p h = absurd cc
    adds true p h =
        let past : row_count c.plain u.table < u.row = grind (arith, nat_tests, p) in
        let low : u.row - rows_before c u.table - 1 < rows_added l.edits u.table = few_added l.edits u.table (u.row - rows_before c u.table - 1) e h in
        let w = adder c.plain [] l.edits u.table (u.row - rows_before c u.table - 1) low in
        let zero_added = no_rows u.table in
        let n : row_count c.plain u.table + rows_added [] u.table + (u.row - rows_before c u.table - 1) + 1 ≡ u.row = omega (arith, zero_added, past) in
        let there : slice_get (rows_edited c.plain l.edits) w.at ≡ Some u = w.row ∙ (rw n refl) in
        let some = some_cells c.plain [] l.edits w.at u there in
        false≢true (rw none at some)

-- two cells lists agree behind the first
abbrev AgreeAt : ℕ → ℕ → Option (List Cell) → Option (List Cell) → Type 0
AgreeAt table i new old = is_body table i ≡ false → option_and_then (λ (cells : List Cell). slice_get cells i) new ≡ option_and_then (λ (cells : List Cell). slice_get cells i) old

behind_body : (i : ℕ) (b : _) (cells : List Cell) → slice_get (cells_with b cells) (suc i) ≡ slice_get cells (suc i)
behind_body i b [] = refl
behind_body i b (x ∷ cells) = refl

with_old : (i : ℕ) (b : _) (old : Option (List Cell)) → AgreeAt 6 i (Some (cells_with b (unwrap_or old []))) old
with_old zero b old h = absurd (false≢true (sym h))
with_old (suc i) b None h = refl
with_old (suc i) b (Some cells) h = behind_body i b cells

of_edit : (c : Chain) (l : EditList) (u : Token) (k i : ℕ) (e : Edit) → BreakNothing c l → slice_get l.edits k ≡ Some e → slice_get (rows_edited c.plain l.edits) k ≡ Some u → AgreeAt u.table i (Some (cells_edited c.plain e)) (rows_listed c l.edits u)
unfolding rows_listed
of_edit c l u k i (Add table owner cells code points) none there row h =
    rw (found_added c l k table owner cells code points u there row) refl
of_edit c l u k i (Replace method code points) none there row h =
    let same : method ≡ u = some_same _ _ (sym (row_at_place c.plain l.edits k (Replace method code points) there) ∙ row) in
    let land = lands c l k (Replace method code points) u none there row (sym same) in
    let low : u.row ≤ row_count c.plain u.table = subst (λ t. t.row ≤ row_count c.plain t.table) same (rw land.0 land.2) in
    let table : u.table ≡ 6 = ap (λ (t : Token). t.table) (sym same) ∙ land.0 in
    rw (not_added c l.edits u low, same) (with_old i _ (cells_of c.plain u) (rw table at h))

agree_by : (c : Chain) (l : EditList) (u : Token) (i : ℕ) (o : Option (List Cell)) → BreakNothing c l → cells_for (changes_behind c.plain [] l.edits) u ≡ o → AgreeAt u.table i (or_else o (cells_of c.plain u)) (rows_listed c l.edits u)
unfolding rows_listed
agree_by c l u i None none is h = rw (none_of c l u (edit_of c l.edits u) refl is) refl
agree_by c l u i (Some cells) none is h =
    let w = edit_found c.plain [] l.edits u cells is in
    rw w.gives (of_edit c l u w.at i w.edit none w.there w.row h)

-- a column but that of a body says after the list what it says where the list is judged
pub cells_agree : (c : Chain) (l : EditList) (u : Token) (i : ℕ) → HasTables c.plain → BreakNothing c l → is_body u.table i ≡ false → cell_at (cells_of (edited c.plain l.edits)) u i ≡ cell_at (rows_listed c l.edits) u i
cells_agree c l u i has none h = rw (cells_after c l u has none) (agree_by c l u i (cells_for (changes_behind c.plain [] l.edits) u) none refl h)

pub numbers_agree : (c : Chain) (l : EditList) (u : Token) (i : ℕ) → HasTables c.plain → BreakNothing c l → is_body u.table i ≡ false → number_at (cells_of (edited c.plain l.edits)) u i ≡ number_at (rows_listed c l.edits) u i
unfolding number_at
numbers_agree c l u i has none h = rw (cells_agree c l u i has none h) refl

pub bytes_agree : (c : Chain) (l : EditList) (u : Token) (i : ℕ) → HasTables c.plain → BreakNothing c l → is_body u.table i ≡ false → bytes_at (cells_of (edited c.plain l.edits)) u i ≡ bytes_at (rows_listed c l.edits) u i
unfolding bytes_at
bytes_agree c l u i has none h = rw (cells_agree c l u i has none h) refl

-- and a row that was there what it said
old_agree : (c : Chain) (l : EditList) (u : Token) (i : ℕ) → u.row ≤ row_count c.plain u.table → cell_at (rows_listed c l.edits) u i ≡ cell_at (cells_of c.plain) u i
unfolding rows_listed
old_agree c l u i low = rw (not_added c l.edits u low) refl

pub cells_stay : (c : Chain) (l : EditList) (u : Token) (i : ℕ) → HasTables c.plain → BreakNothing c l → is_body u.table i ≡ false → u.row ≤ row_count c.plain u.table → cell_at (cells_of (edited c.plain l.edits)) u i ≡ cell_at (cells_of c.plain) u i
cells_stay c l u i has none h low = cells_agree c l u i has none h ∙ old_agree c l u i low

pub numbers_stay : (c : Chain) (l : EditList) (u : Token) (i : ℕ) → HasTables c.plain → BreakNothing c l → is_body u.table i ≡ false → u.row ≤ row_count c.plain u.table → number_at (cells_of (edited c.plain l.edits)) u i ≡ number_at (cells_of c.plain) u i
unfolding number_at
numbers_stay c l u i has none h low = rw (cells_stay c l u i has none h low) refl

pub bytes_stay : (c : Chain) (l : EditList) (u : Token) (i : ℕ) → HasTables c.plain → BreakNothing c l → is_body u.table i ≡ false → u.row ≤ row_count c.plain u.table → bytes_at (cells_of (edited c.plain l.edits)) u i ≡ bytes_at (cells_of c.plain) u i
unfolding bytes_at
bytes_stay c l u i has none h low = rw (cells_stay c l u i has none h low) refl

pub tokens_stay : (c : Chain) (l : EditList) (u : Token) (i : ℕ) → HasTables c.plain → BreakNothing c l → is_body u.table i ≡ false → u.row ≤ row_count c.plain u.table → token_at (cells_of (edited c.plain l.edits)) u i ≡ token_at (cells_of c.plain) u i
unfolding token_at
tokens_stay c l u i has none h low = rw (cells_stay c l u i has none h low) refl
