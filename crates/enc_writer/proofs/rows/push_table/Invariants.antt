use Rattle.std.proofs.Common.{◌≡◌}
use Rattle.enc_rows.specs.Written.{rows_at}
use Rattle.enc_writer.specs.Writing.{OthersStay}
use Rattle.enc_writer.specs.RowsWriting.{RowsWritten}
use Rattle.enc_writer.proofs.rows.push_table.Given as goal

abbrev pub invariant-loop-n : goal.invariant-loop-n
invariant-loop-n g l = record {
  says : RowsWritten l.context.chain l.context.list l.bodies.il.items l.table l.n (rows_at l.tables l.table);
  others : OthersStay l.table l.fn.tables l.tables;
  same : l.heaps ≡ l.fn.heaps;
}
