use Rattle.std.proofs.Common.{◌≡◌, ◌+◌, drop}
use Rattle.enc_rewriter.specs.Numbers.{in_order_from}
use Rattle.enc_rewriter.proofs.ptrs.is_in_row_order.Given as goal

abbrev pub invariant-loop-i : goal.invariant-loop-i
invariant-loop-i l = in_order_from (l.i + 1) (drop l.i l.kids) ≡ in_order_from 1 l.kids
