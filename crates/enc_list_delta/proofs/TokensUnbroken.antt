-- A list that may follow a chain breaks none of the rules.
use Rattle.std.proofs.Common.{◌≡◌, ℕ, ◌+◌, ◌<◌, Bool, true, false, List, [], ◌∷◌, length, take, Option, Some, None, if◌then◌else◌, inl, inr, refl, arith}
use Rattle.std.specs.Prelude.{◌^◌}
use Rattle.std.proofs.lemmas.Bool.{or_parts}
use Rattle.std.proofs.lemmas.List.{take_all}
use Rattle.std.proofs.lemmas.Option.{slice_get_cases}
use Rattle.enc_base.specs.Order.{or_else, first_below}
use Rattle.enc_base.specs.declared.token.Token.{Token}
use Rattle.enc_base.proofs.First.{silent}
use Rattle.enc_meta.specs.Built.{none_from}
use Rattle.enc_meta.specs.Joined.{joined_lengths}
use Rattle.enc_plain.specs.Chain.{Chain}
use Rattle.enc_edit_list.specs.declared.edit.Edit.{Edit}
use Rattle.enc_edit_list.specs.declared.edit.EditList.{EditList}
use Rattle.enc_rules.specs.First.{EditRule, list_rules, edit_rules, first_of_list, first_at, first_edit}
use Rattle.enc_rules.specs.Listed.{count_after, rows_listed}
use Rattle.enc_rules.specs.Rules.{at_edit, id_is_taken, heaps_are_full, there_are_too_many, passes_limits, with_edits, heaps_with, heap_passes, row_is_edited_twice, owner_is_missing, table_is_closed, token_is_missing, body_is_broken, field_is_out_of_layout, method_has_no_slot, member_has_twin, signature_is_bad, locals_are_bad, points_are_bad}
use Rattle.enc_rules.proofs.RowsFew.{rows_few}
use Rattle.enc_memory_module.proofs.Unbroken.{BreakNothing}
use Rattle.enc_list_delta.specs.Holds.{MayFollow}

-- the rules of the list as a whole and those of each edit that aren't among `BreakNothing`
pub record OtherRules (c : Chain) (l : EditList) : Type 0 where
  pub id : id_is_taken c l ≡ false
  pub heaps : heaps_are_full c l ≡ false
  pub few : there_are_too_many c l ≡ false
  pub room : (k : ℕ) → k < length l.edits → heap_passes c l k ≡ false
  pub layout : (k : ℕ) → field_is_out_of_layout c l k ≡ false
  pub slots : (k : ℕ) → method_has_no_slot c l k ≡ false
  pub twins : (k : ℕ) → member_has_twin c l k ≡ false
  pub points : (k : ℕ) → points_are_bad c l k ≡ false

none_of_both : (a b : Option (ℕ × ℕ)) → or_else a b ≡ None → (a ≡ None) × (b ≡ None)
none_of_both None b h = (refl, h)
none_of_both (Some x) b h = absurd cc

not_told : (b : Bool) (x : ℕ × ℕ) (o : Option (ℕ × ℕ)) → (if b then Some x else o) ≡ None → (b ≡ false) × (o ≡ None)
not_told false x o h = (refl, h)
not_told true x o h = absurd cc

-- some rules, none of which is broken by the edit at a place
abbrev Unbroken : List (ℕ × EditRule) → Chain → EditList → ℕ → Type 0
Unbroken [] c l k = Unit {0}
Unbroken (r ∷ rules) c l k = (r.1 c l k ≡ false) × Unbroken rules c l k

unbroken : (rules : List (ℕ × EditRule)) (c : Chain) (l : EditList) (k : ℕ) → first_at rules c l k ≡ None → Unbroken rules c l k
unbroken [] c l k none = tt
unbroken (r ∷ rules) c l k none =
    let two = not_told (r.1 c l k) (r.0, k + 1) (first_at rules c l k) none in
    (two.0, unbroken rules c l k two.1)

-- past the list no rule is broken
everywhere : (rule : ℕ → Edit → Token → Bool) (c : Chain) (l : EditList) → ((k : ℕ) → k < length l.edits → at_edit (rule k) c l k ≡ false) → (k : ℕ) → at_edit (rule k) c l k ≡ false
everywhere rule c l within k = elim (slice_get_cases l.edits k).1 [
  | inl there ↦ within k there.1
  | inr past ↦ rw past.1 refl
]

each_unbroken : (c : Chain) (l : EditList) → MayFollow c l → (k : ℕ) → k < length l.edits → Unbroken edit_rules c l k
unfolding first_edit
each_unbroken c l may k low =
    let two = none_of_both (first_of_list list_rules c l) (first_below (first_at edit_rules c l) (length l.edits)) may.rules in
    unbroken edit_rules c l k (silent (first_at edit_rules c l) (length l.edits) k two.1 low)

record OfList (c : Chain) (l : EditList) : Type 0 where
  id : id_is_taken c l ≡ false
  heaps : heaps_are_full c l ≡ false
  few : there_are_too_many c l ≡ false

of_list : (c : Chain) (l : EditList) → MayFollow c l → OfList c l
unfolding first_edit
of_list c l may =
    let all = none_of_both (first_of_list list_rules c l) (first_below (first_at edit_rules c l) (length l.edits)) may.rules in
    let first = not_told (id_is_taken c l) (4, 0) _ all.0 in
    let second = not_told (heaps_are_full c l) (5, 0) _ first.1 in
    record { id = first.0; heaps = second.0; few = (not_told (there_are_too_many c l) (24, 0) None second.1).0 }

-- a list that may follow breaks none of them
pub other_rules : (c : Chain) (l : EditList) → MayFollow c l → OtherRules c l
unfolding field_is_out_of_layout method_has_no_slot member_has_twin points_are_bad
other_rules c l may =
    let whole = of_list c l may in
    let each = each_unbroken c l may in
    record {
      id = whole.id;
      heaps = whole.heaps;
      few = whole.few;
      room = λ k low. (each k low).0;
      layout = everywhere _ c l (λ k low. (each k low).1.1.1.1.1.1.0);
      slots = everywhere _ c l (λ k low. (each k low).1.1.1.1.1.1.1.0);
      twins = everywhere _ c l (λ k low. (each k low).1.1.1.1.1.1.1.1.0);
      points = everywhere _ c l (λ k low. (each k low).1.1.1.1.1.1.1.1.1.1.1.0);
    }

-- with all edits no heap passes its limit
pub heaps_have_room : (c : Chain) (l : EditList) → MayFollow c l → passes_limits (heaps_with c l.edits l.edits) ≡ false
unfolding heap_passes heaps_are_full with_edits
heaps_have_room c l may = by l.edits refl
  where
    by : (edits : List Edit) → l.edits ≡ edits → passes_limits (with_edits (rows_listed c l.edits) (none_from (joined_lengths c.heaps)) l.edits) ≡ false
    by [] is = rw is (or_parts (passes_limits (none_from (joined_lengths c.heaps))) _ (other_rules c l may).heaps).0
    by (e ∷ edits) is =
        let low : length edits < length l.edits = rw is (omega arith) in
        let all : length edits + 1 ≡ length l.edits = rw is (omega arith) in
        let room : passes_limits (with_edits (rows_listed c l.edits) (none_from (joined_lengths c.heaps)) (take (length edits + 1) l.edits)) ≡ false = (other_rules c l may).room (length edits) low in
        rw (all, take_all (length l.edits) l.edits (omega arith)) at room

pub nothing_breaks : (c : Chain) (l : EditList) → MayFollow c l → BreakNothing c l
unfolding row_is_edited_twice owner_is_missing table_is_closed token_is_missing body_is_broken signature_is_bad locals_are_bad
nothing_breaks c l may =
    let each = each_unbroken c l may in
    record {
      rows = everywhere _ c l (λ k low. (each k low).1.0);
      owners = everywhere _ c l (λ k low. (each k low).1.1.0);
      tables = everywhere _ c l (λ k low. (each k low).1.1.1.0);
      tokens = everywhere _ c l (λ k low. (each k low).1.1.1.1.0);
      bodies = everywhere _ c l (λ k low. (each k low).1.1.1.1.1.0);
      signatures = everywhere _ c l (λ k low. (each k low).1.1.1.1.1.1.1.1.1.0);
      locals = everywhere _ c l (λ k low. (each k low).1.1.1.1.1.1.1.1.1.1.0);
    }

-- no table has more than 2^24 - 1 rows after it
pub counts_fit : (c : Chain) (l : EditList) → MayFollow c l → (table : ℕ) → count_after c l.edits table < 2 ^ 24
counts_fit c l may table = rows_few c l may.form (other_rules c l may).few may.sound.counts.few table
