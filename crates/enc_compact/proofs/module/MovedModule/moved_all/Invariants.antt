use Rattle.std.proofs.Common.{◌≡◌, take}
use Rattle.enc_compact.specs.Moved.{children_moved}
use Rattle.enc_row_order.specs.Orders.{new_of}
use Rattle.enc_compact.proofs.module.MovedModule.moved_all.Given as goal

abbrev pub invariant-loop-i : goal.invariant-loop-i
invariant-loop-i g l = l.moved.items ≡ children_moved (new_of (g.V.ModuleView.meaning l.self)) l.table (take l.i l.rows)
