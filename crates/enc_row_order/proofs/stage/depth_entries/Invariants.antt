use Rattle.std.proofs.Common.{◌≡◌}
use Rattle.enc_row_order.proofs.Staged.{front_entries}
use Rattle.enc_row_order.proofs.stage.depth_entries.Given as goal

abbrev pub invariant-loop-i : goal.invariant-loop-i
invariant-loop-i l = l.entries.items ≡ front_entries l.depths l.i
