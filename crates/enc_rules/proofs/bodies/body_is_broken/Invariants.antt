use Rattle.std.proofs.Common.{◌≡◌, ◌≤◌, None, take}
use Rattle.std.specs.Prelude.{min, sum_by}
use Rattle.enc_rules.specs.First.{first_such}
use Rattle.enc_rules.specs.Rules.{room_of_edit, body_is_broken}
use Rattle.enc_rules.specs.Sums.{most_room}
use Rattle.enc_rules.proofs.bodies.body_is_broken.Given as goal

abbrev pub invariant-loop-k : goal.invariant-loop-k
invariant-loop-k g l = record {
  none : first_such (body_is_broken l.context.chain l.context.list) l.k ≡ None;
  sum : l.sum ≡ min most_room (sum_by room_of_edit (take l.k l.edits));
  few : l.sum ≤ most_room;
}
