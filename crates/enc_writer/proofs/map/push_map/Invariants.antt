use Rattle.enc_rows.specs.Written.{rows_at}
use Rattle.enc_base.specs.Tables.{enc_map}
use Rattle.enc_writer.specs.Writing.{OthersStay}
use Rattle.enc_writer.specs.MapWriting.{TablesMapped}
use Rattle.enc_writer.proofs.map.push_map.Given as goal

abbrev pub invariant-loop-table : goal.invariant-loop-table
invariant-loop-table g l = record {
  says : TablesMapped l.context.chain l.context.list l.table (rows_at l.tables enc_map);
  others : OthersStay enc_map l.fn.tables l.tables;
}
