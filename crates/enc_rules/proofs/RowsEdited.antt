-- The rows that edits are about, and the children that they give: one more, and those of the edit at a place.
use Rattle.std.proofs.Common.{◌≡◌, ℕ, zero, suc, ◌+◌, Bool, List, [], ◌∷◌, ◌++◌, length, take, Option, Some, None, refl, sym, ap, ◌∙◌, arith, append-nil, append_assoc}
use Rattle.std.specs.Prelude.{slice_get, option_map}
use Rattle.enc_base.specs.declared.token.Token.{Token}
use Rattle.enc_plain.specs.Apply.{Attached}
use Rattle.enc_plain.specs.Chain.{Chain}
use Rattle.enc_plain.specs.Module.{Module}
use Rattle.enc_edit_list.specs.declared.edit.Edit.{Edit}
use Rattle.enc_edit_list.specs.declared.edit.EditList.{EditList}
use Rattle.enc_rules.specs.Edited.{row_edited, rows_behind, rows_edited, attached_by, attached_behind, attached_in}
use Rattle.enc_rules.specs.Listed.{count_after}
use Rattle.enc_rules.specs.Rules.{at_edit, of_edit, owner_breaks, owner_is_missing, table_breaks, table_is_closed, token_breaks, token_is_missing}

-- the row of the edit at a place
assoc : (xs : List Edit) (e : Edit) (ys : List Edit) → (xs ++ e ∷ []) ++ ys ≡ xs ++ e ∷ ys
assoc xs e ys = append_assoc xs (e ∷ []) ys

pub row_behind : (m : Module) (before edits : List Edit) (k : ℕ) → slice_get (rows_behind m before edits) k ≡ option_map (row_edited m (before ++ take k edits)) (slice_get edits k)
unfolding rows_behind
row_behind m before [] k = refl
row_behind m before (e ∷ edits) zero = ap (λ es. Some (row_edited m es e)) (sym (append-nil before))
row_behind m before (e ∷ edits) (suc k) = row_behind m (before ++ e ∷ []) edits k ∙ ap (λ es. option_map (row_edited m es) (slice_get edits k)) (assoc before e (take k edits))

pub row_there : (m : Module) (edits : List Edit) (k : ℕ) (e : Edit) → slice_get edits k ≡ Some e → slice_get (rows_edited m edits) k ≡ Some (row_edited m (take k edits) e)
row_there m edits k e there = row_behind m [] edits k ∙ ap (option_map (row_edited m (take k edits))) there

-- what a rule says of it
pub at_edit_is : (rule : Edit → Token → Bool) (c : Chain) (l : EditList) (k : ℕ) (e : Edit) → slice_get l.edits k ≡ Some e → at_edit rule c l k ≡ rule e (row_edited c.plain (take k l.edits) e)
at_edit_is rule c l k e there = ap (λ o. of_edit rule o (slice_get (rows_edited c.plain l.edits) k)) there ∙ ap (of_edit rule (Some e)) (row_there c.plain l.edits k e there)

pub owner_is : (c : Chain) (l : EditList) (k : ℕ) (e : Edit) → slice_get l.edits k ≡ Some e → owner_is_missing c l k ≡ owner_breaks (count_after c l.edits) e
unfolding owner_is_missing
owner_is c l k e there = at_edit_is (λ e t. owner_breaks (count_after c l.edits) e) c l k e there

pub table_is : (c : Chain) (l : EditList) (k : ℕ) (e : Edit) → slice_get l.edits k ≡ Some e → table_is_closed c l k ≡ table_breaks e
unfolding table_is_closed
table_is c l k e there = at_edit_is (λ e t. table_breaks e) c l k e there

pub token_is : (c : Chain) (l : EditList) (k : ℕ) (e : Edit) → slice_get l.edits k ≡ Some e → token_is_missing c l k ≡ token_breaks (count_after c l.edits) e
unfolding token_is_missing
token_is c l k e there = at_edit_is (λ e t. token_breaks (count_after c l.edits) e) c l k e there

-- one more
pub rows_more : (m : Module) (before edits : List Edit) (e : Edit) → rows_behind m before (edits ++ e ∷ []) ≡ rows_behind m before edits ++ row_edited m (before ++ edits) e ∷ []
unfolding rows_behind
rows_more m before [] e = ap (λ es. row_edited m es e ∷ []) (sym (append-nil before))
rows_more m before (x ∷ edits) e = ap (λ ts. row_edited m before x ∷ ts) (rows_more m (before ++ x ∷ []) edits e ∙ ap (λ es. rows_behind m (before ++ x ∷ []) edits ++ row_edited m es e ∷ []) (assoc before x edits))

pub attached_more : (m : Module) (before edits : List Edit) (e : Edit) → attached_behind m before (edits ++ e ∷ []) ≡ attached_behind m before edits ++ attached_by e (row_edited m (before ++ edits) e)
unfolding attached_behind
attached_more m before [] e = append-nil _ ∙ ap (λ es. attached_by e (row_edited m es e)) (sym (append-nil before))
attached_more m before (x ∷ edits) e =
    ap (λ more. attached_by x (row_edited m before x) ++ more) (attached_more m (before ++ x ∷ []) edits e)
    ∙ sym (append_assoc (attached_by x (row_edited m before x)) (attached_behind m (before ++ x ∷ []) edits) (attached_by e (row_edited m ((before ++ x ∷ []) ++ edits) e)))
    ∙ ap (λ es. (attached_by x (row_edited m before x) ++ attached_behind m (before ++ x ∷ []) edits) ++ attached_by e (row_edited m es e)) (assoc before x edits)

-- none, and as many rows as edits
pub rows_none : (m : Module) → rows_edited m [] ≡ []
unfolding rows_behind
rows_none m = refl

pub attached_none : (m : Module) → attached_in m [] ≡ []
unfolding attached_behind
attached_none m = refl

as_many : (m : Module) (before edits : List Edit) → length (rows_behind m before edits) ≡ length edits
unfolding rows_behind
as_many m before [] = refl
as_many m before (e ∷ edits) = ap suc (as_many m (before ++ e ∷ []) edits)

pub rows_all : (m : Module) (edits : List Edit) → length (rows_edited m edits) ≡ length edits
rows_all m edits = as_many m [] edits

-- the edits up to a place
take_one : (edits : List Edit) (k : ℕ) (e : Edit) → slice_get edits k ≡ Some e → take (suc k) edits ≡ take k edits ++ e ∷ []
take_one [] k e there = absurd cc
take_one (x ∷ edits) zero e there = let is : x ≡ e = cc in ap (λ y. y ∷ []) is
take_one (x ∷ edits) (suc k) e there = ap (λ es. x ∷ es) (take_one edits k e there)

pub take_next : (edits : List Edit) (k : ℕ) (e : Edit) → slice_get edits k ≡ Some e → take (k + 1) edits ≡ take k edits ++ e ∷ []
take_next edits k e there = let n : k + 1 ≡ suc k = omega arith in rw n (take_one edits k e there)

next_by : (m : Module) (edits : List Edit) (k : ℕ) (row : Token) (rows : List Token) (o : Option Edit) → rows ≡ rows_edited m (take k edits) → slice_get edits k ≡ o
    → option_map (row_edited m (take k edits)) o ≡ Some row → rows ++ row ∷ [] ≡ rows_edited m (take (k + 1) edits)
next_by m edits k row rows None before there is = absurd cc
next_by m edits k row rows (Some e) before there is =
    let r : row_edited m (take k edits) e ≡ row = cc in
    rw (take_next edits k e there, before, ← r) (sym (rows_more m [] (take k edits) e))

pub rows_next : (m : Module) (edits : List Edit) (k : ℕ) (row : Token) (rows : List Token) → rows ≡ rows_edited m (take k edits)
    → option_map (row_edited m (take k edits)) (slice_get edits k) ≡ Some row → rows ++ row ∷ [] ≡ rows_edited m (take (k + 1) edits)
rows_next m edits k row rows before is = next_by m edits k row rows (slice_get edits k) before refl is

-- the children of one edit more
pub attached_next : (m : Module) (edits : List Edit) (k : ℕ) (e : Edit) (rows : List Token) (row : Token) (seen more : List Attached)
    → seen ≡ attached_in m (take k edits) → slice_get edits k ≡ Some e → rows ≡ rows_edited m edits → slice_get rows k ≡ Some row → more ≡ seen ++ attached_by e row
    → more ≡ attached_in m (take (k + 1) edits)
attached_next m edits k e rows row seen more before there all here is =
    let told = row_there m edits k e there in
    let r : row ≡ row_edited m (take k edits) e = cc in
    rw (take_next edits k e there, is, before, r) (sym (attached_more m [] (take k edits) e))
