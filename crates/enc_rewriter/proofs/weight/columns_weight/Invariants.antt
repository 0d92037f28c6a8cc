use Rattle.std.proofs.Common.{◌≡◌, ◌*◌, ◌≤◌, take}
use Rattle.std.specs.Prelude.{sum_by}
use Rattle.enc_rewriter.specs.Weight.{column_weight}
use Rattle.enc_rewriter.proofs.weight.columns_weight.Given as goal

abbrev pub invariant-loop-column : goal.invariant-loop-column
invariant-loop-column l = (l.sum ≡ sum_by column_weight (take l.column-index l.columns)) × (l.sum ≤ 4 * l.column-index)
