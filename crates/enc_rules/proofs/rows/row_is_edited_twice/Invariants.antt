use Rattle.std.proofs.Common.{◌≡◌, None, take}
use Rattle.enc_rules.specs.First.{first_such}
use Rattle.enc_rules.specs.Rules.{row_is_edited_twice}
use Rattle.enc_rules.proofs.SameRow.{AreRows}
use Rattle.enc_rules.proofs.rows.row_is_edited_twice.Given as goal

abbrev pub invariant-loop-k : goal.invariant-loop-k
invariant-loop-k g l = record {
  none : first_such (row_is_edited_twice l.context.chain l.context.list) l.k ≡ None;
  known : AreRows l.known (take l.k l.rows);
}
