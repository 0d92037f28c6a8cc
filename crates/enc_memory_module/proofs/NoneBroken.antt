-- A list with no first rule that it breaks breaks none, and so keeps a sound module sound.
use Rattle.std.proofs.Common.{◌≡◌, ℕ, ◌+◌, ◌<◌, Bool, true, false, List, [], ◌∷◌, length, Option, Some, None, if◌then◌else◌, inl, inr, refl}
use Rattle.std.proofs.lemmas.Option.{slice_get_cases}
use Rattle.enc_base.specs.Order.{or_else, first_below}
use Rattle.enc_base.specs.declared.token.Token.{Token}
use Rattle.enc_base.proofs.First.{silent}
use Rattle.enc_plain.specs.Chain.{Chain}
use Rattle.enc_plain.specs.Sound.{IsSound}
use Rattle.enc_edit_list.specs.declared.edit.Edit.{Edit}
use Rattle.enc_edit_list.specs.declared.edit.EditList.{EditList}
use Rattle.enc_edit_list.specs.Form.{list_fits}
use Rattle.enc_rules.specs.Edited.{edited}
use Rattle.enc_rules.specs.First.{EditRule, list_rules, edit_rules, first_of_list, first_at, first_edit}
use Rattle.enc_rules.specs.Rules.{at_edit, id_is_taken, heaps_are_full, there_are_too_many, row_is_edited_twice, owner_is_missing, table_is_closed, token_is_missing, body_is_broken, signature_is_bad, locals_are_bad}
use Rattle.enc_memory_module.specs.Applied.{rules_of_rows}
use Rattle.enc_memory_module.proofs.Unbroken.{BreakNothing}
use Rattle.enc_memory_module.proofs.KeptSound.{sound_after}

none_of_both : (a b : Option (ℕ × ℕ)) → or_else a b ≡ None → (a ≡ None) × (b ≡ None)
none_of_both None b h = (refl, h)
none_of_both (Some x) b h = absurd cc

not_told : (b : Bool) (x : ℕ × ℕ) (o : Option (ℕ × ℕ)) → (if b then Some x else o) ≡ None → (b ≡ false) × (o ≡ None)
not_told false x o h = (refl, h)
not_told true x o h = absurd cc

-- some rules, none of which is broken by the edit at a place
abbrev pub Unbroken : List (ℕ × EditRule) → Chain → EditList → ℕ → Type 0
Unbroken [] c l k = Unit {0}
Unbroken (r ∷ rules) c l k = (r.1 c l k ≡ false) × Unbroken rules c l k

pub unbroken : (rules : List (ℕ × EditRule)) (c : Chain) (l : EditList) (k : ℕ) → first_at rules c l k ≡ None → Unbroken rules c l k
unbroken [] c l k none = tt
unbroken (r ∷ rules) c l k none =
    let two = not_told (r.1 c l k) (r.0, k + 1) (first_at rules c l k) none in
    (two.0, unbroken rules c l k two.1)

few : (c : Chain) (l : EditList) → first_of_list list_rules c l ≡ None → there_are_too_many c l ≡ false
few c l none =
    let later = not_told (id_is_taken c l) (4, 0) _ none in
    let last = not_told (heaps_are_full c l) (5, 0) _ later.1 in
    (not_told (there_are_too_many c l) (24, 0) None last.1).0

-- past the list no rule is broken
everywhere : (rule : ℕ → Edit → Token → Bool) (c : Chain) (l : EditList) → ((k : ℕ) → k < length l.edits → at_edit (rule k) c l k ≡ false) → (k : ℕ) → at_edit (rule k) c l k ≡ false
everywhere rule c l within k = elim (slice_get_cases l.edits k).1 [
  | inl there ↦ within k there.1
  | inr past ↦ rw past.1 refl
]

pub nothing_breaks : (c : Chain) (l : EditList) → ((k : ℕ) → k < length l.edits → Unbroken rules_of_rows c l k) → BreakNothing c l
unfolding row_is_edited_twice owner_is_missing table_is_closed token_is_missing body_is_broken signature_is_bad locals_are_bad
nothing_breaks c l each = record {
  rows = everywhere _ c l (λ k low. (each k low).0);
  owners = everywhere _ c l (λ k low. (each k low).1.0);
  tables = everywhere _ c l (λ k low. (each k low).1.1.0);
  tokens = everywhere _ c l (λ k low. (each k low).1.1.1.0);
  bodies = everywhere _ c l (λ k low. (each k low).1.1.1.1.0);
  signatures = everywhere _ c l (λ k low. (each k low).1.1.1.1.1.1.1.1.0);
  locals = everywhere _ c l (λ k low. (each k low).1.1.1.1.1.1.1.1.1.0);
}

-- a list that breaks no rule keeps a sound module sound
pub sound_kept : (c : Chain) (l : EditList) → list_fits l ≡ true → first_edit c l ≡ None → IsSound c.plain → IsSound (edited c.plain l.edits)
unfolding first_edit
sound_kept c l form none sound =
    let two = none_of_both (first_of_list list_rules c l) (first_below (first_at edit_rules c l) (length l.edits)) none in
    let each : (k : ℕ) → k < length l.edits → Unbroken edit_rules c l k = λ k low. unbroken edit_rules c l k (silent (first_at edit_rules c l) (length l.edits) k two.1 low) in
    sound_after c l form (few c l two.0) (nothing_breaks c l (λ k low. (each k low).1)) sound
