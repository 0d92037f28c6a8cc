use Rattle.std.proofs.Common.{◌≡◌}
use Rattle.std.specs.Prelude.{flat_map}
use Rattle.enc_rows.specs.Sums.{below}
use Rattle.enc_rewriter.specs.Standing.{AreGathered}
use Rattle.enc_rewriter.specs.Values.{values_at, with_all}
use Rattle.enc_rewriter.proofs.pass.add_row.Given as goal

abbrev pub invariant-loop-i : goal.invariant-loop-i
invariant-loop-i g l = (l.heaps ≡ with_all l.pass l.fn.heaps (flat_map (values_at l.pass (g.V.ModuleView.meaning l.view) l.row) (below l.i)))
    × AreGathered (g.V.ModuleView.places l.view) l.heaps l.seen
