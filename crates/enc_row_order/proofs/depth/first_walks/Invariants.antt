use Rattle.enc_row_order.specs.Walks.{AreFirst}
use Rattle.enc_row_order.proofs.depth.first_walks.Given as goal

abbrev pub invariant-loop-k : goal.invariant-loop-k
invariant-loop-k g l = AreFirst (g.V.ModuleView.meaning l.view) l.k l.walks.items
