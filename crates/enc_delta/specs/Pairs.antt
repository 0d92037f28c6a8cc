-- The children that a delta's log gives to their owners (ECMA-335 EncLog).
use Rattle.std.specs.Prelude.{List, [], ◌∷◌, if◌then◌else◌}
use Rattle.enc_rows.specs.Source.{Source}
use Rattle.enc_plain.specs.Apply.{Attached}
use Rattle.enc_delta.specs.declared.log_entry.LogEntry.{LogEntry}
use Rattle.enc_delta.specs.Delta.{log_in}
use Rattle.enc_delta.specs.Rules.{is_add, counted}

-- the children of the Add entries: each entry names the owner, and the entry behind it the child
abbrev pub pairs_in : List LogEntry → List Attached
pairs_in [] = []
pairs_in (e ∷ []) = []
pairs_in (e ∷ f ∷ es) = if is_add e.operation then record { owner = e.token; child = f.token } ∷ pairs_in (f ∷ es)
    else pairs_in (f ∷ es)

-- the Add entries of EncLog; those of the Module's token are passed over
unfoldable pub attached_of : Source → List Attached
attached_of s = pairs_in (counted (log_in s))
