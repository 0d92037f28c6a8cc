-- The new members of a delta that says what a list states break no rule.
use Rattle.std.proofs.Common.{◌≡◌, ℕ, Bool, true, false, List, [], ◌∷◌, ◌++◌, length, map, take, Some, None, refl, sym, ap, ◌∙◌, subst, append_assoc}
use Rattle.std.specs.Prelude.{◌||◌, filter, slice_get, if◌then◌else◌}
use Rattle.std.specs.List.{list_any}
use Rattle.enc_base.specs.Token.{number_of}
use Rattle.enc_plain.specs.Apply.{Attached}
use Rattle.enc_plain.specs.Chain.{Chain}
use Rattle.enc_plain.specs.Rows.{Rows}
use Rattle.enc_rows.specs.Source.{Source}
use Rattle.enc_delta.specs.Pairs.{attached_of}
use Rattle.enc_delta.specs.Rows.{rows_after}
use Rattle.enc_delta.specs.Rules.{at_token, least}
use Rattle.enc_delta.specs.Changes.{least_child, breaks_layout, breaks_slots, is_out_of_layout, has_no_slot, asked_of, field_out_of_layout, method_without_slot, twin_member}
use Rattle.enc_delta.specs.Twins.{Asked, has_twin, twin_fault}
use Rattle.enc_edit_list.specs.declared.edit.Edit.{Edit}
use Rattle.enc_edit_list.specs.declared.edit.EditList.{EditList}
use Rattle.enc_rules.specs.Edited.{row_edited, attached_by, attached_behind, attached_in}
use Rattle.enc_rules.specs.Listed.{rows_listed}
use Rattle.enc_rules.specs.Rules.{at_edit, of_child, field_is_out_of_layout, method_has_no_slot, member_has_twin}
use Rattle.enc_rules.proofs.RowsEdited.{at_edit_is}
use Rattle.enc_memory_module.proofs.Split.{seam, take_seam}
use Rattle.enc_list_delta.specs.Holds.{MayFollow, SaysDelta}
use Rattle.enc_list_delta.specs.Laws.{KeepsTo}
use Rattle.enc_list_delta.proofs.CellsRead.{rows_are}
use Rattle.enc_list_delta.proofs.LogRulesPairs.{attached_written}
use Rattle.enc_list_delta.proofs.Placed.{placed}
use Rattle.enc_list_delta.proofs.RowsSeen.{AreSeenAlike, layout_same, slots_same, asked_same, listed_seen}
use Rattle.enc_list_delta.proofs.TokensUnbroken.{other_rules}

-- a rule that no edit's child breaks is broken by no child
any_both : {A : Type 0} (p : A → Bool) (xs ys : List A) → list_any p xs ≡ false → list_any p ys ≡ false → list_any p (xs ++ ys) ≡ false
any_both p [] ys a b = b
any_both p (x ∷ xs) ys a b = by (p x) a (λ h. any_both p xs ys h b)
  where
    by : (t : Bool) → (t || list_any p xs) ≡ false → (list_any p xs ≡ false → list_any p (xs ++ ys) ≡ false) → (t || list_any p (xs ++ ys)) ≡ false
    by true h more = absurd cc
    by false h more = more h

none_behind : (rule : Attached → Bool) (c : Chain) (l : EditList) (before rest : List Edit) → l.edits ≡ before ++ rest → ((k : ℕ) → at_edit (of_child rule) c l k ≡ false) → list_any rule (attached_behind c.plain before rest) ≡ false
unfolding attached_behind
none_behind rule c l before [] is none = refl
none_behind rule c l before (e ∷ rest) is none =
    let there : slice_get l.edits (length before) ≡ Some e = subst (λ (es : List Edit). slice_get es (length before) ≡ Some e) (sym is) (seam before rest e) in
    let front : take (length before) l.edits ≡ before = ap (take (length before)) is ∙ take_seam before (e ∷ rest) in
    let here : list_any rule (attached_by e (row_edited c.plain before e)) ≡ false =
    subst (λ (es : List Edit). list_any rule (attached_by e (row_edited c.plain es e)) ≡ false) front (sym (at_edit_is (of_child rule) c l (length before) e there) ∙ none (length before)) in
    any_both rule (attached_by e (row_edited c.plain before e)) (attached_behind c.plain (before ++ e ∷ []) rest) here
    (none_behind rule c l (before ++ e ∷ []) rest (is ∙ sym (append_assoc before (e ∷ []) rest)) none)

none_attached : (rule : Attached → Bool) (c : Chain) (l : EditList) → ((k : ℕ) → at_edit (of_child rule) c l k ≡ false) → list_any rule (attached_in c.plain l.edits) ≡ false
none_attached rule c l none = none_behind rule c l [] l.edits refl none

filter_none : {A : Type 0} (p : A → Bool) (xs : List A) → list_any p xs ≡ false → filter p xs ≡ []
filter_none p [] h = refl
filter_none p (x ∷ xs) h = by (p x) h (λ g. filter_none p xs g)
  where
    by : (b : Bool) → (b || list_any p xs) ≡ false → (list_any p xs ≡ false → filter p xs ≡ []) → (if b then x ∷ filter p xs else filter p xs) ≡ []
    by true g more = absurd cc
    by false g more = more g

no_child : (rule : Attached → Bool) (pairs : List Attached) → list_any rule pairs ≡ false → at_token (least (map (λ (a : Attached). number_of a.child) (filter rule pairs))) ≡ None
no_child rule pairs h = ap (λ (xs : List Attached). at_token (least (map (λ (a : Attached). number_of a.child) xs))) (filter_none rule pairs h)

-- the rows after the delta are seen as those by which the list is judged
seen_after : (c : Chain) (l : EditList) (s : Source) → MayFollow c l → SaysDelta c l s → AreSeenAlike (rows_after c s) (rows_listed c l.edits)
seen_after c l s may says = let all = placed c l s may says in subst (λ (rows : Rows). AreSeenAlike rows (rows_listed c l.edits)) (sym (rows_are c l s may all says)) (listed_seen c l may all.none)

no_child_of : (rule other : Attached → Bool) (c : Chain) (l : EditList) (s : Source) → rule ≡ other → attached_of s ≡ attached_in c.plain l.edits → ((k : ℕ) → at_edit (of_child other) c l k ≡ false) → least_child rule s ≡ None
no_child_of rule other c l s same pairs none =
    ap (λ (r : Attached → Bool). at_token (least (map (λ (a : Attached). number_of a.child) (filter r (attached_of s))))) same
    ∙ ap (λ (ps : List Attached). at_token (least (map (λ (a : Attached). number_of a.child) (filter other ps)))) pairs
    ∙ no_child other (attached_in c.plain l.edits) (none_attached other c l none)

pub keeps_layout : KeepsTo field_out_of_layout
unfolding field_out_of_layout field_is_out_of_layout
keeps_layout c l s may says =
    no_child_of (breaks_layout c s) (is_out_of_layout c (rows_listed c l.edits)) c l s (layout_same c (rows_after c s) (rows_listed c l.edits) (seen_after c l s may says)) (attached_written c l s may says) (other_rules c l may).layout

pub keeps_slots : KeepsTo method_without_slot
unfolding method_without_slot method_has_no_slot
keeps_slots c l s may says =
    no_child_of (breaks_slots c s) (has_no_slot c (rows_listed c l.edits)) c l s (slots_same c (rows_after c s) (rows_listed c l.edits) (seen_after c l s may says)) (attached_written c l s may says) (other_rules c l may).slots

pub keeps_twins : KeepsTo twin_member
unfolding twin_member member_has_twin twin_fault
keeps_twins c l s may says =
    let asked = asked_same (rows_after c s) (rows_listed c l.edits) (seen_after c l s may says) in
    let pairs = attached_written c l s may says in
    let rule = has_twin (asked_of (rows_listed c l.edits)) c.plain (attached_in c.plain l.edits) in
    ap (λ (q : Asked). twin_fault q c.plain (attached_of s)) asked
    ∙ ap (λ (ps : List Attached). twin_fault (asked_of (rows_listed c l.edits)) c.plain ps) pairs
    ∙ no_child rule (attached_in c.plain l.edits) (none_attached rule c l (other_rules c l may).twins)
