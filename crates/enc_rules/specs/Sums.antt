-- For the contracts of private functions: sums that stop at a limit.
use Rattle.std.specs.Prelude.{ℕ, ◌^◌, Bool, not, ◌&&◌, ◌||◌, nat_lt, is_ok}
use Rattle.std.specs.List.{list_all}
use Rattle.enc_seqpoints.specs.Spelling.{blob_of}
use Rattle.enc_edit_list.specs.declared.edit.Edit.{Edit}
use Rattle.enc_rules.specs.Listed.{points_given}
use Rattle.enc_rules.specs.Rules.{has_points, has_document}

-- sums aren't told past this one
abbrev pub most_room : ℕ
most_room = 2 ^ 40

-- an edit has points that can't be spelled, or that name none of so many documents, or with which the PDB takes so
-- much room
abbrev pub points_break : ℕ → ℕ → Edit → Bool
points_break documents room e =
    has_points e
    && (not (is_ok (blob_of 0 0 (points_given e)))
    || not (list_all (has_document documents) (points_given e))
    || nat_lt (2 ^ 29) room)
