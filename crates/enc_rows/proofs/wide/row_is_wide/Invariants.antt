use Rattle.std.proofs.Common.{◌≡◌, drop}
use Rattle.enc_rows.specs.Written.{row_is_wide}
use Rattle.enc_rows.proofs.wide.row_is_wide.Given as goal

abbrev pub invariant-loop-i : goal.invariant-loop-i
invariant-loop-i l = row_is_wide l.bit (drop l.i l.columns) (drop l.i l.cells) ≡ row_is_wide l.bit l.columns l.cells
