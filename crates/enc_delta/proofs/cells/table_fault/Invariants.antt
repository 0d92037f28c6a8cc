use Rattle.std.proofs.Common.{◌≡◌, None, drop}
use Rattle.enc_base.specs.Order.{first_below}
use Rattle.enc_delta.specs.Delta.{of_table, listed}
use Rattle.enc_delta.specs.Rules.{row_fault}
use Rattle.enc_delta.specs.Cells.{speaks}
use Rattle.enc_delta.proofs.cells.table_fault.Given as goal

abbrev pub invariant-loop-r : goal.invariant-loop-r
invariant-loop-r g l = record { none : first_below (row_fault l.context.chain l.context.delta (speaks l.rule) l.table) l.r ≡ None; rest : of_table l.table l.rest ≡ drop l.r (of_table l.table (listed l.context.delta)) }
