-- For the contracts of private functions: what is known of an edit and its row.
use Rattle.std.specs.Prelude.{ℕ, Bool, true, false, ◌&&◌, ◌==◌, Option, Some, None, nat_le, if◌then◌else◌}
use Rattle.enc_base.specs.Token.{is_token, nil}
use Rattle.enc_base.specs.declared.token.Token.{Token}
use Rattle.enc_base.specs.declared.refusal.Place.{Place}
use Rattle.enc_base.specs.declared.refusal.Place.TheVariants.{Row}
use Rattle.enc_plain.specs.Apply.{Attached}
use Rattle.enc_plain.specs.Chain.{Chain}
use Rattle.enc_delta.specs.Changes.{asked_of}
use Rattle.enc_delta.specs.Twins.{has_twin}
use Rattle.enc_edit_list.specs.declared.edit.Edit.{Edit}
use Rattle.enc_edit_list.specs.declared.edit.Edit.TheVariants.{Add, Body as Replace}
use Rattle.enc_edit_list.specs.declared.edit.EditList.{EditList}
use Rattle.enc_rules.specs.Edited.{attached_in}
use Rattle.enc_rules.specs.Listed.{rows_listed}
use Rattle.enc_rules.specs.Rules.{at_edit, of_child}

-- an added row is one of its table
abbrev pub is_about : Edit → Token → Bool
is_about (Add table owner cells code points) t = t.table == table
is_about (Replace method code points) t = true

-- the edit adds this row
abbrev pub adds_row : Token → Edit → Token → Bool
adds_row child (Add table owner cells code points) t = is_token t child
adds_row child (Replace method code points) t = false

unfoldable pub adds_child : Token → Chain → EditList → ℕ → Bool
adds_child child c l k = at_edit (adds_row child) c l k

-- a member of a table has a twin
abbrev pub is_twin_in : ℕ → Chain → EditList → Attached → Bool
is_twin_in table c l a = a.child.table == table
    && has_twin (asked_of (rows_listed c l.edits)) c.plain (attached_in c.plain l.edits) a

unfoldable pub has_twin_in : ℕ → Chain → EditList → ℕ → Bool
has_twin_in table c l k = at_edit (of_child (is_twin_in table c l)) c l k

-- the lesser of two places that may not be there
abbrev pub earlier : Option ℕ → Option ℕ → Option ℕ
earlier None b = b
earlier (Some m) None = Some m
earlier (Some m) (Some n) = Some (if nat_le m n then m else n)

-- the row at a place
abbrev pub row_of_place : Place → Token
row_of_place (Row t) = t
row_of_place _ = nil
