-- For the contracts of private functions: EncLog, as far as it is written.
use Rattle.std.specs.Prelude.{ℕ, Bool, true, false, not, List, [], map, take, Option, Some, nat_lt, slice_get}
use Rattle.enc_base.specs.declared.token.Token.{Token}
use Rattle.enc_plain.specs.Chain.{Chain}
use Rattle.enc_delta.specs.declared.log_entry.LogEntry.{LogEntry}
use Rattle.enc_edit_list.specs.declared.edit.Edit.{Edit}
use Rattle.enc_edit_list.specs.declared.edit.EditList.{EditList}
use Rattle.enc_rules.specs.Edited.{rows_edited, attached_by}
use Rattle.enc_list_delta.specs.Delta.{add_entry, adds_reference, entries_for, entries_if, entries_behind}

-- the edit is one of those that add references, or one of all others
abbrev pub is_asked : Bool → Edit → Bool
is_asked true e = adds_reference e
is_asked false e = not (adds_reference e)

-- the entries of all such edits, and of those among the first so many edits
abbrev pub entries_logged : Bool → Chain → EditList → List LogEntry
entries_logged references c l = entries_behind (is_asked references) c.plain [] l.edits

abbrev pub entries_upto : Bool → Chain → EditList → ℕ → List LogEntry
entries_upto references c l n = entries_behind (is_asked references) c.plain [] (take n l.edits)

-- those of the edit at a place, if it is such an edit
abbrev pub entries_given : Bool → Option Edit → Option Token → List LogEntry
entries_given references (Some e) (Some row) = entries_if (is_asked references e) (entries_for e row)
entries_given references _ _ = []

abbrev pub entries_at : Bool → Chain → EditList → ℕ → List LogEntry
entries_at references c l k = entries_given references (slice_get l.edits k) (slice_get (rows_edited c.plain l.edits) k)

-- the row of an entry's token fits three bytes (ECMA-335 II.22)
abbrev pub has_number : LogEntry → Bool
has_number e = nat_lt e.token.row 0x1000000

-- the entries of an edit that give its row to an owner
abbrev pub owner_entries : Edit → Token → List LogEntry
owner_entries e row = map add_entry (attached_by e row)
