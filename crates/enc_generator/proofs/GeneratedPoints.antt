-- The lists of a case have no points.
use Rattle.std.proofs.Common.{◌≡◌, ℕ, zero, suc, ◌+◌, List, [], ◌∷◌, ◌++◌, length, Some, Bool, true, false, refl, ap}
use Rattle.std.specs.Prelude.{◌&&◌, not, map, nat_lt, slice_get, if◌then◌else◌}
use Rattle.std.specs.List.{list_all, list_any}
use Rattle.std.proofs.lemmas.Bool.{and_parts, and_from}
use Rattle.enc_base.specs.Token.{is_token}
use Rattle.enc_base.specs.declared.token.Token.{Token}
use Rattle.enc_base.specs.Tables.{method_def}
use Rattle.enc_plain.specs.Debug.{MethodDebug, unknown, plain_point}
use Rattle.enc_edit_list.specs.declared.edit.DocumentValue.{DocumentValue}
use Rattle.enc_edit_list.specs.declared.edit.Edit.{Edit}
use Rattle.enc_edit_list.specs.declared.edit.Edit.TheVariants.{Body as Replace}
use Rattle.enc_edit_list.specs.declared.edit.EditList.{EditList}
use Rattle.enc_rules.specs.Listed.{body_given, points_given}
use Rattle.enc_rules.specs.Rules.{gives_body, has_points}
use Rattle.enc_pdb_writer.specs.Stated.{points_lie_within, stands_within, document_numbered, locals_row, debug_stated, edit_giving, debug_or_kept, pdb_edited}
use Rattle.enc_generator.specs.Generated.{Turn, adds, replaces, named_row, body_loading, adds_method, name_added, is_of_row, edit_of_turn, edits_of_turns, list_of_turns, turns_from, methods_added, state_after, lists_from}
use Rattle.enc_generator.specs.Laws.{GeneratedLie, GeneratedTellsNothing}

-- a test that each edit without points passes
abbrev Passes : (Edit → Bool) → Type 0
Passes p = (e : Edit) → points_given e ≡ [] → p e ≡ true

one_passes : (p : Edit → Bool) (e : Edit) → Passes p → points_given e ≡ [] → list_all p (e ∷ []) ≡ true
one_passes p e pass none = and_from (p e) true (pass e none) refl

replaced_passes : (p : Edit → Bool) (row n : ℕ) (b : Bool) → Passes p → list_all p (if b then [] else Replace (named_row method_def row) (body_loading n) [] ∷ []) ≡ true
replaced_passes p row n true pass = refl
replaced_passes p row n false pass = one_passes p (Replace (named_row method_def row) (body_loading n) []) pass refl

turn_passes : (p : Edit → Bool) (list : ℕ) (before : List Turn) (t : Turn) → Passes p → list_all p (edit_of_turn list before t) ≡ true
turn_passes p list before (adds n) pass = one_passes p (adds_method (name_added list (length before + 1)) n) pass refl
turn_passes p list before (replaces row n) pass = replaced_passes p row n (list_any (is_of_row row) before) pass

both_pass : (p : Edit → Bool) (xs ys : List Edit) → list_all p xs ≡ true → list_all p ys ≡ true → list_all p (xs ++ ys) ≡ true
both_pass p [] ys one two = two
both_pass p (x ∷ xs) ys one two =
    let a = and_parts (p x) (list_all p xs) one in
    and_from (p x) (list_all p (xs ++ ys)) (a.0) (both_pass p xs ys (a.1) two)

turns_pass : (p : Edit → Bool) (list : ℕ) (before turns : List Turn) → Passes p → list_all p (edits_of_turns list before turns) ≡ true
unfolding edits_of_turns
turns_pass p list before [] pass = refl
turns_pass p list before (t ∷ turns) pass =
    both_pass p (edit_of_turn list before t) (edits_of_turns list (before ++ t ∷ []) turns) (turn_passes p list before t pass) (turns_pass p list (before ++ t ∷ []) turns pass)

lists_pass : (p : Edit → Bool) (list count methods x j : ℕ) (l : EditList) → Passes p → slice_get (lists_from list count methods x) j ≡ Some l → list_all p l.edits ≡ true
unfolding lists_from
lists_pass p list zero methods x j l pass h = absurd (cc)
lists_pass p list (suc count) methods x zero l pass h =
    let e : list_of_turns list (turns_from methods 20 x) ≡ l = cc in
    rw (← e) (turns_pass p list [] (turns_from methods 20 x) pass)
lists_pass p list (suc count) methods x (suc j) l pass h =
    lists_pass p (list + 1) count (methods + methods_added (turns_from methods 20 x)) (state_after 20 x) j l pass h

-- no point lies outside
none_lies : Passes points_lie_within
none_lies e none = ap (λ ps. list_all (stands_within (body_given e)) ps) none

pub generated_lie : GeneratedLie
generated_lie start count j l h = lists_pass points_lie_within 1 count 1000 start j l none_lies h

-- and none is told
abbrev is_silent : Edit → Bool
is_silent e = not (has_points e)

none_silent : Passes is_silent
none_silent e none = ap (λ ps. not (nat_lt 0 (length ps))) none

states_nothing : (documents : List DocumentValue) (e : Edit) → is_silent e ≡ true → debug_stated documents e ≡ unknown
unfolding debug_stated
states_nothing documents e silent = by (has_points e) silent
  where
    by : (b : Bool) → not b ≡ true → (if b then record { locals = locals_row (body_given e); points = map (plain_point (document_numbered documents)) (points_given e) } else unknown) ≡ unknown
    by true h = absurd (cc)
    by false h = refl

tell_nothing : (documents : List DocumentValue) (methods : List Token) (edits : List Edit) (method : Token) (before : MethodDebug)
    → list_all is_silent edits ≡ true → before ≡ unknown → debug_or_kept documents (edit_giving methods edits method) before ≡ unknown
unfolding edit_giving
tell_nothing documents [] edits method before silent is = is
tell_nothing documents (t ∷ methods) [] method before silent is = is
tell_nothing documents (t ∷ methods) (e ∷ edits) method before silent is =
    let each = and_parts (is_silent e) (list_all is_silent edits) silent in
    by (gives_body e && is_token t method) (each.0) (tell_nothing documents methods edits method before (each.1) is)
  where
    by : (b : Bool) → is_silent e ≡ true → debug_or_kept documents (edit_giving methods edits method) before ≡ unknown
        → debug_or_kept documents (if b then Some e else edit_giving methods edits method) before ≡ unknown
    by true one rest = states_nothing documents e one
    by false one rest = rest

pub generated_tells_nothing : GeneratedTellsNothing
unfolding pdb_edited
generated_tells_nothing start count j l before methods method h is =
    tell_nothing l.documents methods l.edits method (before method) (lists_pass is_silent 1 count 1000 start j l none_silent h) is
