-- The changes and children of one edit more.
use Rattle.std.proofs.Common.{◌≡◌, ℕ, ◌+◌, ◌≤◌, List, [], ◌∷◌, ◌++◌, length, take, Option, Some, refl, sym, ap, ◌∙◌}
use Rattle.std.specs.Prelude.{slice_get, option_map}
use Rattle.enc_base.specs.declared.token.Token.{Token}
use Rattle.enc_edit_list.specs.declared.edit.Edit.{Edit}
use Rattle.enc_plain.specs.Apply.{Attached, put, apply, attach, attach_all}
use Rattle.enc_plain.specs.Module.{Module}
use Rattle.enc_rules.proofs.RowsEdited.{take_next}
use Rattle.enc_rules.specs.Edited.{row_edited, cells_edited, changes_behind, attached_by, attached_behind}
use Rattle.enc_memory_module.specs.Following.{changes_from, attached_from}
use Rattle.enc_memory_module.proofs.Rest.{rest_next, none_left}

row_is : (m : Module) (before : List Edit) (e : Edit) (o : Option Edit) (row : Token) → o ≡ Some e → option_map (row_edited m before) o ≡ Some row → row_edited m before e ≡ row
row_is m before e o row there is = let f = rw there at is in let g : row_edited m before e ≡ row = cc in g

-- the change of an edit, and those behind it
pub change_next : (m : Module) (edits : List Edit) (k : ℕ) (e : Edit) (row : Token) → slice_get edits k ≡ Some e → option_map (row_edited m (take k edits)) (slice_get edits k) ≡ Some row
    → changes_from m edits k ≡ record { token = row; cells = cells_edited m e } ∷ changes_from m edits (k + 1)
unfolding changes_behind
change_next m edits k e row there is =
    let r = row_is m (take k edits) e (slice_get edits k) row there is in
    rw (take_next edits k e there, rest_next edits k e there, r) refl

pub changed_next : (m old new : Module) (edits : List Edit) (k : ℕ) (e : Edit) (row : Token) → slice_get edits k ≡ Some e → option_map (row_edited m (take k edits)) (slice_get edits k) ≡ Some row → new ≡ put old (record { token = row; cells = cells_edited m e })
    → apply new (changes_from m edits (k + 1)) ≡ apply old (changes_from m edits k)
unfolding apply
changed_next m old new edits k e row there is made = rw (change_next m edits k e row there is, made) refl

pub changed_all : (m now all : Module) (edits : List Edit) (k : ℕ) → length edits ≤ k → apply now (changes_from m edits k) ≡ all → now ≡ all
unfolding changes_behind apply
changed_all m now all edits k high is = let e = none_left edits k high in rw e at is

-- the children of an edit, and those behind it
both_attached : (m : Module) (xs ys : List Attached) → attach_all m (xs ++ ys) ≡ attach_all (attach_all m xs) ys
unfolding attach_all
both_attached m [] ys = refl
both_attached m (x ∷ xs) ys = both_attached (attach m x) xs ys

attached_next : (m : Module) (edits : List Edit) (k : ℕ) (e : Edit) (row : Token) → slice_get edits k ≡ Some e → option_map (row_edited m (take k edits)) (slice_get edits k) ≡ Some row
    → attached_from m edits k ≡ attached_by e row ++ attached_from m edits (k + 1)
unfolding attached_behind
attached_next m edits k e row there is =
    let r = row_is m (take k edits) e (slice_get edits k) row there is in
    rw (take_next edits k e there, rest_next edits k e there, r) refl

pub children_next : (m old new all : Module) (edits : List Edit) (k : ℕ) (e : Edit) (row : Token) → slice_get edits k ≡ Some e → option_map (row_edited m (take k edits)) (slice_get edits k) ≡ Some row → new ≡ attach_all old (attached_by e row)
    → attach_all old (attached_from m edits k) ≡ all → attach_all new (attached_from m edits (k + 1)) ≡ all
children_next m old new all edits k e row there is made so_far =
    ap (λ (n : Module). attach_all n (attached_from m edits (k + 1))) made
    ∙ sym (both_attached old (attached_by e row) (attached_from m edits (k + 1)))
    ∙ ap (attach_all old) (sym (attached_next m edits k e row there is))
    ∙ so_far

pub children_all : (m now all : Module) (edits : List Edit) (k : ℕ) → length edits ≤ k → attach_all now (attached_from m edits k) ≡ all → now ≡ all
unfolding attached_behind attach_all
children_all m now all edits k high is = let e = none_left edits k high in rw e at is

pub children_none : (m : Module) → m ≡ attach_all m []
unfolding attach_all
children_none m = refl

pub child_one : (m : Module) (a : Attached) → attach m a ≡ attach_all m (a ∷ [])
unfolding attach_all
child_one m a = refl
