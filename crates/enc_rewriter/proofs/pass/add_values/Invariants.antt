use Rattle.std.proofs.Common.{◌≡◌}
use Rattle.std.specs.Prelude.{flat_map}
use Rattle.enc_rows.specs.Sums.{below}
use Rattle.enc_rewriter.specs.Standing.{AreGathered}
use Rattle.enc_rewriter.specs.Values.{values_of_table, with_all}
use Rattle.enc_rewriter.proofs.pass.add_values.Given as goal

abbrev pub invariant-loop-table : goal.invariant-loop-table
invariant-loop-table g l = (l.heaps ≡ with_all l.pass l.fn.heaps (flat_map (values_of_table l.pass (g.V.ModuleView.meaning l.view)) (below l.table)))
    × AreGathered (g.V.ModuleView.places l.view) l.heaps l.seen
