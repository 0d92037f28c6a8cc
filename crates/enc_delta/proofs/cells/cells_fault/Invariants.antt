use Rattle.std.proofs.Common.{◌≡◌, None}
use Rattle.enc_base.specs.Order.{first_below}
use Rattle.enc_delta.specs.Rules.{cell_fault}
use Rattle.enc_delta.specs.Cells.{speaks}
use Rattle.enc_delta.proofs.cells.cells_fault.Given as goal

abbrev pub invariant-loop-i : goal.invariant-loop-i
invariant-loop-i g l = first_below (cell_fault l.context.chain l.context.delta (speaks l.rule) l.token l.row) l.i ≡ None
