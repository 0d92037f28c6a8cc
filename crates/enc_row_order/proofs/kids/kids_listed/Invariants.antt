use Rattle.std.proofs.Common.{◌≡◌, take}
use Rattle.enc_row_order.specs.Orders.{kids_listed}
use Rattle.enc_row_order.proofs.kids.kids_listed.Given as goal

abbrev pub invariant-loop-i : goal.invariant-loop-i
invariant-loop-i g l = l.kids.items ≡ kids_listed (g.V.ModuleView.meaning l.view) (take l.i l.owners) l.child
