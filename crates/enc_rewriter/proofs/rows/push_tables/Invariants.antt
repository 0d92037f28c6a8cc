use Rattle.std.proofs.Common.{◌≡◌}
use Rattle.enc_meta.specs.Built.{heaps_built}
use Rattle.enc_rewriter.specs.Numbers.{TablesSay}
use Rattle.enc_rewriter.proofs.rows.push_tables.Given as goal

abbrev pub invariant-loop-table : goal.invariant-loop-table
invariant-loop-table g l = record {
  says : TablesSay (g.V.ModuleView.meaning l.by.view.now) (heaps_built l.fn.heaps) l.by.placed.now l.table l.tables;
  same : l.heaps ≡ l.fn.heaps;
}
