use Rattle.std.proofs.Common.{◌≡◌, ◌++◌, map}
use Rattle.enc_rows.specs.Written.{rows_at}
use Rattle.enc_base.specs.Tables.{enc_log}
use Rattle.enc_list_delta.specs.Holds.{entry_numbers}
use Rattle.enc_writer.specs.Writing.{OthersStay}
use Rattle.enc_writer.specs.LogWriting.{entries_upto}
use Rattle.enc_writer.proofs.log.push_edits.Given as goal

abbrev pub invariant-loop-k : goal.invariant-loop-k
invariant-loop-k g l = record {
  says : rows_at l.tables enc_log ≡ rows_at l.fn.tables enc_log ++ map entry_numbers (entries_upto l.references l.context.chain l.context.list l.k);
  others : OthersStay enc_log l.fn.tables l.tables;
}
