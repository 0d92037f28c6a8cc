use Rattle.std.proofs.Common.{◌≡◌, ◌++◌, take}
use Rattle.enc_rows.specs.Written.{rows_at}
use Rattle.enc_base.specs.Tables.{enc_map}
use Rattle.enc_merge.specs.Writing.{StayBut}
use Rattle.enc_merge.proofs.ListRows.{mapped}
use Rattle.enc_merge.proofs.lists.push_map.Given as goal

abbrev pub invariant-loop-k : goal.invariant-loop-k
invariant-loop-k l = record {
  says : rows_at l.tables enc_map ≡ rows_at l.fn.tables enc_map ++ mapped (take l.k l.numbers);
  others : StayBut enc_map l.fn.tables l.tables;
}
