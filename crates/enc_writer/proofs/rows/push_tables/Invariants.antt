use Rattle.std.proofs.Common.{◌≡◌}
use Rattle.enc_writer.specs.Writing.{AreTablesWritten}
use Rattle.enc_writer.specs.RowsWriting.{joined_with}
use Rattle.enc_writer.proofs.rows.push_tables.Given as goal

abbrev pub invariant-loop-table : goal.invariant-loop-table
invariant-loop-table g l = record {
  says : AreTablesWritten l.context.chain l.context.list (joined_with l.context.chain l.context.list) l.bodies.il.items l.table l.tables;
  same : l.heaps ≡ l.fn.heaps;
}
