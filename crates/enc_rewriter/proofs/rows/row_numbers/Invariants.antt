use Rattle.std.proofs.Common.{◌≡◌}
use Rattle.enc_meta.specs.Built.{heaps_built}
use Rattle.enc_rewriter.specs.Numbers.{FrontSays}
use Rattle.enc_rewriter.proofs.rows.row_numbers.Given as goal

abbrev pub invariant-loop-i : goal.invariant-loop-i
invariant-loop-i g l = record {
  says : FrontSays (g.V.ModuleView.meaning l.by.view.now) (heaps_built l.fn.heaps) l.by.placed.now l.row l.i l.cells.items;
  same : l.heaps ≡ l.fn.heaps;
}
