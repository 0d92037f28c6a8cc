use Rattle.std.proofs.Common.{◌≡◌, None}
use Rattle.enc_base.specs.Order.{first_below}
use Rattle.enc_delta.specs.Rules.{table_fault}
use Rattle.enc_delta.specs.Cells.{speaks}
use Rattle.enc_delta.proofs.cells.first_fault.Given as goal

abbrev pub invariant-loop-table : goal.invariant-loop-table
invariant-loop-table g l = first_below (table_fault l.context.chain l.context.delta (speaks l.rule)) l.table ≡ None
