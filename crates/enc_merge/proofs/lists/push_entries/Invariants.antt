use Rattle.std.proofs.Common.{◌≡◌, ◌++◌, map, take}
use Rattle.enc_rows.specs.Written.{rows_at}
use Rattle.enc_base.specs.Tables.{enc_log}
use Rattle.enc_delta.specs.Rules.{counted}
use Rattle.enc_list_delta.specs.Holds.{entry_numbers}
use Rattle.enc_merge.specs.Writing.{StayBut}
use Rattle.enc_merge.proofs.lists.push_entries.Given as goal

abbrev pub invariant-loop-k : goal.invariant-loop-k
invariant-loop-k l = record {
  says : rows_at l.tables enc_log ≡ rows_at l.fn.tables enc_log ++ map entry_numbers (counted (take l.k l.log.items));
  others : StayBut enc_log l.fn.tables l.tables;
}
