use Rattle.std.proofs.Common.{◌≡◌, ◌++◌, drop}
use Rattle.enc_rows.specs.Written.{row_bytes}
use Rattle.enc_rows.proofs.written.push_row.Given as goal

abbrev pub invariant-loop-i : goal.invariant-loop-i
invariant-loop-i l = l.out.items ++ row_bytes l.widths (drop l.i l.columns) (drop l.i l.cells) ≡ l.fn.out.items ++ row_bytes l.widths l.columns l.cells
