use Rattle.std.proofs.Common.{take}
use Rattle.enc_edit_list.specs.Added.{KnowsAdded}
use Rattle.enc_edit_list.proofs.added.placed.Given as goal

abbrev pub invariant-loop-at : goal.invariant-loop-at
invariant-loop-at l = KnowsAdded l.places.items l.ranks.items (take l.at l.edits)
