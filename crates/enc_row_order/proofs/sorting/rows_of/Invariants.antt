use Rattle.std.proofs.Common.{◌≡◌, map, take}
use Rattle.enc_row_order.specs.Keyed.{entry_row}
use Rattle.enc_row_order.proofs.sorting.rows_of.Given as goal

abbrev pub invariant-loop-i : goal.invariant-loop-i
invariant-loop-i l = l.rows.items ≡ map entry_row (take l.i l.entries)
