-- The first rule that an edit list breaks after a chain.
use Rattle.std.specs.Prelude.{ℕ, ◌+◌, Bool, List, [], ◌∷◌, length, Option, Some, None, if◌then◌else◌}
use Rattle.enc_base.specs.Order.{or_else, first_below}
use Rattle.enc_plain.specs.Chain.{Chain}
use Rattle.enc_edit_list.specs.declared.edit.EditList.{EditList}
use Rattle.enc_rules.specs.Rules.{id_is_taken, heaps_are_full, there_are_too_many, heap_passes, row_is_edited_twice, owner_is_missing, table_is_closed, token_is_missing, body_is_broken, field_is_out_of_layout, method_has_no_slot, member_has_twin, signature_is_bad, locals_are_bad, points_are_bad}

-- the first place below n that passes a test
abbrev pub first_such : (ℕ → Bool) → ℕ → Option ℕ
first_such test n = first_below (λ k. if test k then Some k else None) n

-- a rule of a whole list, and one of the edit at a place, from 0
abbrev pub ListRule : Type 0
ListRule = Chain → EditList → Bool

abbrev pub EditRule : Type 0
EditRule = Chain → EditList → ℕ → Bool

-- the rules of the list as a whole with their numbers, in the order in which they are asked
abbrev pub list_rules : List (ℕ × ListRule)
list_rules = (4, id_is_taken) ∷ (5, heaps_are_full) ∷ (24, there_are_too_many) ∷ []

-- and those of each edit
abbrev pub edit_rules : List (ℕ × EditRule)
edit_rules =
    (5, heap_passes)
    ∷ (6, row_is_edited_twice)
    ∷ (10, owner_is_missing)
    ∷ (12, table_is_closed)
    ∷ (13, token_is_missing)
    ∷ (16, body_is_broken)
    ∷ (18, field_is_out_of_layout)
    ∷ (19, method_has_no_slot)
    ∷ (20, member_has_twin)
    ∷ (21, signature_is_bad)
    ∷ (23, locals_are_bad)
    ∷ (22, points_are_bad)
    ∷ []

-- the first of some rules that the list as a whole breaks, told as edit 0
abbrev pub first_of_list : List (ℕ × ListRule) → Chain → EditList → Option (ℕ × ℕ)
first_of_list [] c l = None
first_of_list (r ∷ rs) c l = if r.1 c l then Some (r.0, 0) else first_of_list rs c l

-- the first of some rules that an edit breaks; edits are counted from 1
abbrev pub first_at : List (ℕ × EditRule) → Chain → EditList → ℕ → Option (ℕ × ℕ)
first_at [] c l k = None
first_at (r ∷ rs) c l k = if r.1 c l k then Some (r.0, k + 1) else first_at rs c l k

-- the first edit that breaks a rule, with the first rule that it breaks; the list as a whole is judged before
unfoldable pub first_edit : Chain → EditList → Option (ℕ × ℕ)
first_edit c l = or_else (first_of_list list_rules c l) (first_below (first_at edit_rules c l) (length l.edits))
