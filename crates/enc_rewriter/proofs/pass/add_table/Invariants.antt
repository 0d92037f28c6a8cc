use Rattle.std.proofs.Common.{◌≡◌}
use Rattle.std.specs.Prelude.{flat_map}
use Rattle.enc_base.specs.Token.{nth_row}
use Rattle.enc_rows.specs.Sums.{below}
use Rattle.enc_rewriter.specs.Standing.{AreGathered}
use Rattle.enc_rewriter.specs.Values.{values_of_row, with_all}
use Rattle.enc_rewriter.proofs.pass.add_table.Given as goal

abbrev pub invariant-loop-n : goal.invariant-loop-n
invariant-loop-n g l = (l.heaps ≡ with_all l.pass l.fn.heaps (flat_map (λ n. values_of_row l.pass (g.V.ModuleView.meaning l.view) (nth_row l.table n)) (below l.n)))
    × AreGathered (g.V.ModuleView.places l.view) l.heaps l.seen
