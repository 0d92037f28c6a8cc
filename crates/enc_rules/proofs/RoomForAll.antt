-- A list that breaks no rule has room for what each of its edits brings.
use Rattle.std.proofs.Common.{◌≡◌, ℕ, ◌+◌, ◌<◌, Bool, true, false, length, Option, Some, None, refl}
use Rattle.std.specs.Prelude.{if◌then◌else◌}
use Rattle.enc_base.specs.Order.{or_else, first_below}
use Rattle.enc_base.proofs.First.{silent}
use Rattle.enc_plain.specs.Chain.{Chain}
use Rattle.enc_edit_list.specs.declared.edit.EditList.{EditList}
use Rattle.enc_rules.specs.First.{list_rules, edit_rules, first_of_list, first_at, first_edit}
use Rattle.enc_rules.specs.Rules.{heap_passes}

none_of_both : (a b : Option (ℕ × ℕ)) → or_else a b ≡ None → b ≡ None
none_of_both None b h = h
none_of_both (Some x) b h = absurd cc

not_told : (b : Bool) (x : ℕ × ℕ) (o : Option (ℕ × ℕ)) → (if b then Some x else o) ≡ None → b ≡ false
not_told false x o h = refl
not_told true x o h = absurd cc

first_kept : (c : Chain) (l : EditList) (k : ℕ) → first_at edit_rules c l k ≡ None → heap_passes c l k ≡ false
first_kept c l k none = not_told (heap_passes c l k) (5, k + 1) _ none

pub has_room : (c : Chain) (l : EditList) (k : ℕ) → first_edit c l ≡ None → k < length l.edits → heap_passes c l k ≡ false
unfolding first_edit
has_room c l k none low =
    first_kept c l k (silent (first_at edit_rules c l) (length l.edits) k (none_of_both (first_of_list list_rules c l) (first_below (first_at edit_rules c l) (length l.edits)) none) low)
