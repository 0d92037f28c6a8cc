-- The points of an edit, by sums up to the limit.
use Rattle.std.proofs.Common.{◌≡◌, ℕ, ◌+◌, ◌<◌, List, length, take, get_or, sym, ap, ◌∙◌, lit<}
use Rattle.std.specs.Prelude.{◌^◌, ◌&&◌, ◌||◌, not, min, sum_by, nat_lt, is_ok}
use Rattle.std.specs.List.{list_all}
use Rattle.enc_seqpoints.specs.Spelling.{blob_of}
use Rattle.enc_plain.specs.Chain.{Chain}
use Rattle.enc_edit_list.specs.declared.edit.DocumentValue.{DocumentValue}
use Rattle.enc_edit_list.specs.declared.edit.Edit.{Edit}
use Rattle.enc_edit_list.specs.declared.edit.EditList.{EditList}
use Rattle.enc_rules.specs.Listed.{points_given}
use Rattle.enc_rules.specs.Rules.{has_points, has_document, room_of_points, room_of_document, points_are_bad}
use Rattle.enc_rules.specs.Sums.{most_room, points_break}
use Rattle.enc_rules.proofs.Capped.{passed_alike}
use Rattle.enc_rules.proofs.EditAt.{judged_alone}

pub points_judged : (c : Chain) (l : EditList) (edits : List Edit) (documents : List DocumentValue) (k : ℕ) (e : Edit) (names sum : ℕ) → edits ≡ l.edits → documents ≡ l.documents → k < length edits → e ≡ get_or edits k e
    → names ≡ min most_room (sum_by room_of_document documents) → sum ≡ min most_room (sum_by room_of_points (take (k + 1) edits)) → points_are_bad c l k ≡ points_break (length documents) (0x10000 + sum + names) e
unfolding points_are_bad
points_judged c l edits documents k e names sum are docs low there named summed =
    let room = sum_by room_of_points (take (k + 1) l.edits) in
    let rest = sum_by room_of_document l.documents in
    let tail : nat_lt (2 ^ 29) (0x10000 + sum + names) ≡ nat_lt (2 ^ 29) (0x10000 + room + rest) = passed_alike 0x10000 room rest sum names (2 ^ 29) (lit< tt) (rw are at summed) (rw docs at named) in
    judged_alone (points_break (length l.documents) (0x10000 + room + rest)) c l edits k e are low there
    ∙ ap (λ n. points_break n (0x10000 + room + rest) e) (ap length (sym docs))
    ∙ ap (λ b. has_points e && (not (is_ok (blob_of 0 0 (points_given e))) || not (list_all (has_document (length documents)) (points_given e)) || b)) (sym tail)
