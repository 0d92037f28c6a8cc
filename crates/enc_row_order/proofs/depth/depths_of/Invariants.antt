use Rattle.std.proofs.Common.{◌≡◌, map, take}
use Rattle.std.specs.Prelude.{min}
use Rattle.enc_row_order.specs.declared.depth.Walk.{Walk}
use Rattle.enc_row_order.proofs.depth.depths_of.Given as goal

abbrev pub invariant-loop-i : goal.invariant-loop-i
invariant-loop-i l = l.depths.items ≡ map (λ (w : Walk). min w.depth l.most) (take l.i l.walks)
