use Rattle.enc_rows.specs.Written.{rows_at}
use Rattle.enc_base.specs.Tables.{enc_map}
use Rattle.enc_writer.specs.Writing.{OthersStay}
use Rattle.enc_writer.specs.MapWriting.{RowsMapped}
use Rattle.enc_writer.proofs.map.push_tokens.Given as goal

abbrev pub invariant-loop-n : goal.invariant-loop-n
invariant-loop-n g l = record {
  says : RowsMapped l.context.chain l.context.list l.table l.n (rows_at l.tables enc_map);
  others : OthersStay enc_map l.fn.tables l.tables;
}
