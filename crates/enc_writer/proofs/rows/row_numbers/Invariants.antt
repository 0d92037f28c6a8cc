use Rattle.std.proofs.Common.{◌≡◌}
use Rattle.enc_writer.specs.RowsWriting.{DeltaFrontSays}
use Rattle.enc_writer.proofs.rows.row_numbers.Given as goal

abbrev pub invariant-loop-i : goal.invariant-loop-i
invariant-loop-i g l = record {
  says : DeltaFrontSays l.context.chain l.context.list l.bodies.il.items l.row l.i l.numbers.items;
  same : l.heaps ≡ l.fn.heaps;
}
