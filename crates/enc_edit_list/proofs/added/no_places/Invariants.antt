use Rattle.std.proofs.Common.{◌≡◌, [], replicate}
use Rattle.enc_edit_list.proofs.added.no_places.Given as goal

abbrev pub invariant-loop-table : goal.invariant-loop-table
invariant-loop-table l = l.places.items ≡ replicate l.table []
