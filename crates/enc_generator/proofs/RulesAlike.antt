-- The rules on rows speak of a chain's module alone.
use Rattle.std.proofs.Common.{◌≡◌, ℕ, ◌+◌, ◌<◌, ◌≤◌, length, None, refl, ◌∙◌, false, arith}
use Rattle.std.specs.Prelude.{nat_lt}
use Rattle.std.proofs.lemmas.Bool.Decides.{nat_tests}
use Rattle.enc_base.specs.Order.{first_below}
use Rattle.enc_base.proofs.First.{silent}
use Rattle.enc_delta.specs.Changes.{is_out_of_layout, has_no_slot}
use Rattle.enc_delta.specs.Rules.{is_insert}
use Rattle.enc_plain.specs.Chain.{Chain}
use Rattle.enc_edit_list.specs.declared.edit.EditList.{EditList}
use Rattle.enc_rules.specs.First.{first_at}
use Rattle.enc_rules.specs.Listed.{count_after, edit_of, rows_listed}
use Rattle.enc_rules.specs.Rules.{there_are_too_many, row_is_edited_twice, owner_is_missing, table_is_closed, token_is_missing, body_is_broken, field_is_out_of_layout, method_has_no_slot, member_has_twin, signature_is_bad, locals_are_bad, points_are_bad}
use Rattle.enc_memory_module.specs.Applied.{alone, rules_of_rows}

rows_twice : (c : Chain) (l : EditList) (k : ℕ) → row_is_edited_twice c l k ≡ row_is_edited_twice (alone c.plain) l k
unfolding row_is_edited_twice
rows_twice c l k = refl

owners : (c : Chain) (l : EditList) (k : ℕ) → owner_is_missing c l k ≡ owner_is_missing (alone c.plain) l k
unfolding owner_is_missing count_after
owners c l k = refl

tables : (c : Chain) (l : EditList) (k : ℕ) → table_is_closed c l k ≡ table_is_closed (alone c.plain) l k
unfolding table_is_closed
tables c l k = refl

tokens : (c : Chain) (l : EditList) (k : ℕ) → token_is_missing c l k ≡ token_is_missing (alone c.plain) l k
unfolding token_is_missing count_after
tokens c l k = refl

bodies : (c : Chain) (l : EditList) (k : ℕ) → body_is_broken c l k ≡ body_is_broken (alone c.plain) l k
unfolding body_is_broken count_after rows_listed edit_of
bodies c l k = refl

layouts : (c : Chain) (l : EditList) (k : ℕ) → field_is_out_of_layout c l k ≡ field_is_out_of_layout (alone c.plain) l k
unfolding field_is_out_of_layout is_out_of_layout is_insert rows_listed edit_of
layouts c l k = refl

slots : (c : Chain) (l : EditList) (k : ℕ) → method_has_no_slot c l k ≡ method_has_no_slot (alone c.plain) l k
unfolding method_has_no_slot has_no_slot is_insert rows_listed edit_of
slots c l k = refl

twins : (c : Chain) (l : EditList) (k : ℕ) → member_has_twin c l k ≡ member_has_twin (alone c.plain) l k
unfolding member_has_twin rows_listed edit_of
twins c l k = refl

signatures : (c : Chain) (l : EditList) (k : ℕ) → signature_is_bad c l k ≡ signature_is_bad (alone c.plain) l k
unfolding signature_is_bad count_after rows_listed edit_of
signatures c l k = refl

locals : (c : Chain) (l : EditList) (k : ℕ) → locals_are_bad c l k ≡ locals_are_bad (alone c.plain) l k
unfolding locals_are_bad rows_listed edit_of
locals c l k = refl

points : (c : Chain) (l : EditList) (k : ℕ) → points_are_bad c l k ≡ points_are_bad (alone c.plain) l k
unfolding points_are_bad
points c l k = refl

all_alike : (c : Chain) (l : EditList) (k : ℕ) → first_at rules_of_rows c l k ≡ first_at rules_of_rows (alone c.plain) l k
all_alike c l k =
    rw (
      rows_twice c l k,
      owners c l k,
      tables c l k,
      tokens c l k,
      bodies c l k,
      layouts c l k,
      slots c l k,
      twins c l k,
      signatures c l k,
      locals c l k,
      points c l k,
    ) refl

-- so a list that breaks none of them behind the module alone breaks none behind the chain
pub obeyed_there : (c : Chain) (l : EditList) (k : ℕ) → first_below (first_at rules_of_rows (alone c.plain) l) (length l.edits) ≡ None → k < length l.edits → first_at rules_of_rows c l k ≡ None
obeyed_there c l k none low = all_alike c l k ∙ silent (first_at rules_of_rows (alone c.plain) l) (length l.edits) k none low

-- and of E24 only the number of deltas is left
pub not_too_many : (c : Chain) (l : EditList) → there_are_too_many (alone c.plain) l ≡ false → length c.ids ≤ 65534 → there_are_too_many c l ≡ false
unfolding there_are_too_many count_after
not_too_many c l few ids = let first : nat_lt 65535 (length c.ids + 1) ≡ false = grind (arith, nat_tests, ids) in rw first few
