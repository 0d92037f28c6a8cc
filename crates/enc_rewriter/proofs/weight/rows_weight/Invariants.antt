use Rattle.std.proofs.Common.{◌≡◌, ◌*◌, ◌^◌, ◌≤◌}
use Rattle.enc_rewriter.specs.Standing.{row_weights_before}
use Rattle.enc_rewriter.proofs.weight.rows_weight.Given as goal

abbrev pub invariant-loop-table : goal.invariant-loop-table
invariant-loop-table g l = (l.sum ≡ row_weights_before (g.V.ModuleView.meaning l.view) l.table) × (l.sum ≤ 2 ^ 30 * l.table)
