-- `#GUID` has room for the EncId of a list that breaks no rule.
use Rattle.std.proofs.Common.{◌≡◌, ℕ, ◌+◌, Bool, true, false, List, [], ◌∷◌, ◌++◌, length, refl, ap, ◌∙◌, arith}
use Rattle.std.specs.Prelude.{◌^◌, ◌*◌, ◌&&◌, ◌||◌, not, nat_lt}
use Rattle.std.proofs.lemmas.List.{length-append}
use Rattle.enc_meta.specs.Built.{is_guid_kept, with_entry, entry_passes, guid_passes}
use Rattle.enc_meta.specs.Joined.{joined_lengths, guid_entries}
use Rattle.enc_meta.specs.declared.heaps.HeapLengths.{HeapLengths}
use Rattle.enc_plain.specs.Chain.{Chain}
use Rattle.enc_edit_list.specs.declared.edit.EditList.{EditList}
use Rattle.enc_rules.specs.Rules.{heaps_are_full, heaps_with}
use Rattle.enc_list_delta.specs.Holds.{MayFollow, heaps_written}
use Rattle.enc_list_delta.proofs.HeapRules.{starts_are, guids_are}
use Rattle.enc_list_delta.proofs.TokensUnbroken.{other_rules}

right_false : (a b : Bool) → (a || b) ≡ false → b ≡ false
right_false true b h = absurd (cc)
right_false false b h = h

pub guid_room : (c : Chain) (l : EditList) → MayFollow c l → nat_lt (2 ^ 29) (16 * (guid_entries c.heaps + 1)) ≡ false
unfolding heaps_are_full joined_lengths
guid_room c l may = right_false _ _ (other_rules c l may).heaps

begins_at : (c : Chain) (l : EditList) → (heaps_with c l.edits l.edits).starts.guids ≡ guid_entries c.heaps
unfolding heaps_written joined_lengths
begins_at c l = ap (λ (n : HeapLengths). n.guids) (starts_are c l)

entry_is : (c : Chain) (l : EditList) → MayFollow c l → with_entry (heaps_with c l.edits l.edits).guids l.enc_id ≡ l.enc_id ∷ []
unfolding heaps_written
entry_is c l may = guids_are c l may

none_before : (guids : List (List ℕ)) (g : List ℕ) → with_entry guids g ≡ g ∷ [] → is_guid_kept guids g ≡ false → length guids ≡ 0
unfolding with_entry
none_before guids g is h = let all : guids ++ g ∷ [] ≡ g ∷ [] = rw h at is in let e = length-append guids (g ∷ []) in omega (arith, e, ap length all)

fits : (start : ℕ) (guids : List (List ℕ)) (g : List ℕ) → with_entry guids g ≡ g ∷ [] → nat_lt (2 ^ 29) (16 * (start + 1)) ≡ false → entry_passes start guids g ≡ false
unfolding entry_passes
fits start guids g is room = by (is_guid_kept guids g) refl
  where
    by : (b : Bool) → is_guid_kept guids g ≡ b → (not b && nat_lt (2 ^ 29) (16 * (start + length guids + 1))) ≡ false
    by true h = refl
    by false h = let n : start + length guids + 1 ≡ start + 1 = omega (arith, none_before guids g is h) in rw n room

pub id_fits : (c : Chain) (l : EditList) → MayFollow c l → guid_passes (heaps_with c l.edits l.edits) l.enc_id ≡ false
id_fits c l may =
    ap (λ n. entry_passes n (heaps_with c l.edits l.edits).guids l.enc_id) (begins_at c l)
    ∙ fits (guid_entries c.heaps) (heaps_with c l.edits l.edits).guids l.enc_id (entry_is c l may) (guid_room c l may)
