use Rattle.std.proofs.Common.{◌≡◌, map, take}
use Rattle.enc_row_order.specs.Walks.{doubled}
use Rattle.enc_row_order.proofs.depth.all_doubled.Given as goal

abbrev pub invariant-loop-i : goal.invariant-loop-i
invariant-loop-i l = l.twice.items ≡ map (doubled l.walks) (take l.i l.walks)
