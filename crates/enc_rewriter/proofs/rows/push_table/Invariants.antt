use Rattle.std.proofs.Common.{◌≡◌}
use Rattle.enc_meta.specs.Built.{heaps_built}
use Rattle.enc_rows.specs.Written.{rows_at}
use Rattle.enc_rewriter.specs.Numbers.{RowsSay, KeepOthers}
use Rattle.enc_rewriter.proofs.rows.push_table.Given as goal

abbrev pub invariant-loop-n : goal.invariant-loop-n
invariant-loop-n g l = record {
  says : RowsSay (g.V.ModuleView.meaning l.by.view.now) (heaps_built l.fn.heaps) l.by.placed.now l.table l.n (rows_at l.tables l.table);
  others : KeepOthers l.table l.fn.tables l.tables;
  same : l.heaps ≡ l.fn.heaps;
}
