-- What an edit list has that can be applied: it keeps a module sound, and its bodies can be assembled.
use Rattle.std.proofs.Common.{◌≡◌, ℕ, ◌+◌, ◌*◌, ◌<◌, ◌^◌, Bool, true, false, List, length, take, Some, None, refl, sym, ap, ◌∙◌, arith}
use Rattle.std.specs.Prelude.{slice_get, sum_by, nat_lt, nat_le, not, ◌&&◌, ◌||◌, ◌==◌}
use Rattle.std.specs.List.{list_all}
use Rattle.std.proofs.lemmas.Bool.{and_parts, and_from}
use Rattle.std.proofs.lemmas.Bool.Decides.{nat_tests}
use Rattle.std.proofs.lemmas.List.Sums.{sum_by_push}
use Rattle.enc_base.proofs.First.{silent}
use Rattle.enc_edit_list.specs.declared.body.BodyValue.{BodyValue}
use Rattle.enc_edit_list.specs.declared.edit.Edit.{Edit}
use Rattle.enc_edit_list.specs.declared.edit.Edit.TheVariants.{Add, Body as Replace}
use Rattle.enc_edit_list.specs.declared.edit.EditList.{EditList}
use Rattle.enc_edit_list.specs.Form.{edit_fits, list_fits, code_fits, body_fits}
use Rattle.enc_edit_list.specs.Reach.{branches_reach}
use Rattle.enc_edit_list.specs.Sizes.{length_of_code}
use Rattle.enc_opcodes.specs.Sound.{body_is_sound}
use Rattle.enc_plain.specs.Chain.{Chain}
use Rattle.enc_plain.specs.Module.{Module}
use Rattle.enc_plain.specs.Sound.{IsSound}
use Rattle.enc_rules.proofs.RowsEdited.{at_edit_is, take_next}
use Rattle.enc_rules.proofs.RowsFew.{rows_few}
use Rattle.enc_rules.specs.Edited.{body_stated, row_edited, edited}
use Rattle.enc_rules.specs.First.{first_at}
use Rattle.enc_rules.specs.Listed.{body_given, count_after, rows_listed}
use Rattle.enc_rules.specs.Rules.{body_is_broken, is_il, given_stands, room_of_edit}
use Rattle.enc_memory_module.specs.Applied.{alone, rules_of_rows, MayApply}
use Rattle.enc_memory_module.specs.Standing.{body_assembles, edit_assembles}
use Rattle.enc_memory_module.proofs.KeptSound.{sound_after}
use Rattle.enc_memory_module.proofs.NoneBroken.{unbroken, nothing_breaks}
use Rattle.enc_memory_module.proofs.Rest.{each_of, at_place}
use Rattle.enc_memory_module.proofs.Unbroken.{BreakNothing}

pub breaks_nothing : (m : Module) (l : EditList) → MayApply m l → BreakNothing (alone m) l
breaks_nothing m l may =
    nothing_breaks (alone m) l (λ k low. unbroken rules_of_rows (alone m) l k (silent (first_at rules_of_rows (alone m) l) (length l.edits) k may.rules low))

pub sound_applied : (m : Module) (l : EditList) → list_fits l ≡ true → MayApply m l → IsSound m → IsSound (edited m l.edits)
sound_applied m l form may sound = sound_after (alone m) l form may.few (breaks_nothing m l may) sound

pub few_rows : (m : Module) (l : EditList) → list_fits l ≡ true → MayApply m l → IsSound m → (t : ℕ) → count_after (alone m) l.edits t < 2 ^ 24
few_rows m l form may sound = rows_few (alone m) l form may.few sound.counts.few

-- what the rule on bodies says of an edit that gives one
some_room : (code clauses : ℕ) → nat_lt 0 (code + 64 + clauses) ≡ true
some_room code clauses = grind (arith, nat_tests)

of_rule : (gives il stands long : Bool) → gives ≡ true → (gives && (not il || not stands || long)) ≡ false → (stands ≡ true) × (long ≡ false)
of_rule true true true false is h = (refl, refl)
of_rule true true true true is h = absurd cc
of_rule true true false long is h = absurd cc
of_rule true false stands long is h = absurd cc
of_rule false il stands long is h = absurd cc

rule_of : (c : Chain) (l : EditList) (k : ℕ) (e : Edit) (b : BodyValue) → body_is_broken c l k ≡ false → slice_get l.edits k ≡ Some e → body_given e ≡ Some b
    → (given_stands (count_after c l.edits) b ≡ true) × (nat_le (2 ^ 32) (sum_by room_of_edit (take (k + 1) l.edits)) ≡ false)
unfolding body_is_broken
rule_of c l k e b rule there gives =
    let said = rw gives at (sym (at_edit_is _ c l k e there) ∙ rule) in
    of_rule (nat_lt 0 (length_of_code b.code + 64 + 28 * length b.clauses)) (is_il (rows_listed c l.edits) (row_edited c.plain (take k l.edits) e)) (given_stands (count_after c l.edits) b) (nat_le (2 ^ 32) (sum_by room_of_edit (take (k + 1) l.edits))) (some_room (length_of_code b.code) (28 * length b.clauses)) said

-- its bytes count less than all up to it
own_room : (edits : List Edit) (k : ℕ) (e : Edit) → slice_get edits k ≡ Some e → nat_le (2 ^ 32) (sum_by room_of_edit (take (k + 1) edits)) ≡ false → nat_lt (room_of_edit e) (2 ^ 32) ≡ true
own_room edits k e there room =
    let sum : sum_by room_of_edit (take (k + 1) edits) ≡ sum_by room_of_edit (take k edits) + room_of_edit e = ap (sum_by room_of_edit) (take_next edits k e there) ∙ sum_by_push room_of_edit (take k edits) e in
    low (sum_by room_of_edit (take (k + 1) edits)) (sum_by room_of_edit (take k edits)) (room_of_edit e) sum room
  where
    low : (all before own : ℕ) → all ≡ before + own → nat_le (2 ^ 32) all ≡ false → nat_lt own (2 ^ 32) ≡ true
    low all before own is h = grind (arith, nat_tests)

reach_of : (count : ℕ → ℕ) (b : BodyValue) → given_stands count b ≡ true → branches_reach 0 b.code ≡ true
unfolding given_stands
reach_of count b h = (and_parts (body_is_sound count (body_stated b)) (branches_reach 0 b.code) h).1

given_assembles : (c : Chain) (l : EditList) (k : ℕ) (e : Edit) (b : BodyValue) → body_is_broken c l k ≡ false → slice_get l.edits k ≡ Some e → body_given e ≡ Some b → body_fits b ≡ true → body_assembles b ≡ true
unfolding body_assembles
given_assembles c l k e b rule there gives fits =
    let two = rule_of c l k e b rule there gives in
    and_from _ _ (and_from (body_fits b) (branches_reach 0 b.code) fits (reach_of (count_after c l.edits) b two.0)) (rw gives at (own_room l.edits k e there two.1))

fits_given : (table : ℕ) (b : BodyValue) (points : _) (a : Bool) → (a && code_fits table (Some b) points) ≡ true → body_fits b ≡ true
fits_given table b points a h = (and_parts (table == 6) (body_fits b) (and_parts a (code_fits table (Some b) points) h).1).1

assembles_by : (c : Chain) (l : EditList) (k : ℕ) (e : Edit) → body_is_broken c l k ≡ false → slice_get l.edits k ≡ Some e → edit_fits e ≡ true → edit_assembles e ≡ true
unfolding edit_fits
assembles_by c l k (Add table owner cells None points) rule there fits = refl
assembles_by c l k (Add table owner cells (Some b) points) rule there fits =
    given_assembles c l k (Add table owner cells (Some b) points) b rule there refl (fits_given table b points _ fits)
assembles_by c l k (Replace method code points) rule there fits = given_assembles c l k (Replace method code points) code rule there refl fits

pub edits_stand : (m : Module) (l : EditList) → list_fits l ≡ true → MayApply m l → list_all edit_assembles l.edits ≡ true
unfolding list_fits
edits_stand m l form may =
    each_of edit_assembles l.edits (λ k e there. assembles_by (alone m) l k e ((breaks_nothing m l may).bodies k) there (at_place edit_fits l.edits k e form there))
