use Rattle.std.proofs.Common.{◌≡◌, map}
use Rattle.enc_rows.specs.Sums.{below}
use Rattle.enc_schema.specs.Schema.{list_at}
use Rattle.enc_row_order.specs.Stages.{stage_of}
use Rattle.enc_row_order.proofs.stage.staged.Given as goal

abbrev pub invariant-loop-table : goal.invariant-loop-table
invariant-loop-table g l = l.tables.items ≡ map (stage_of l.stage (g.V.ModuleView.meaning l.view) (list_at l.fn.before)) (below l.table)
