use Rattle.std.proofs.Common.{◌≡◌, ◌≤◌, take}
use Rattle.std.specs.Prelude.{min, sum_by}
use Rattle.enc_rules.specs.Rules.{room_of_document}
use Rattle.enc_rules.specs.Sums.{most_room}
use Rattle.enc_rules.proofs.points.room_of_documents.Given as goal

abbrev pub invariant-loop-k : goal.invariant-loop-k
invariant-loop-k l = record { sum : l.sum ≡ min most_room (sum_by room_of_document (take l.k l.documents)); few : l.sum ≤ most_room }
