use Rattle.std.proofs.Common.{◌≡◌, ◌++◌}
use Rattle.enc_text.specs.RowText.{joined_below, cell_text}
use Rattle.enc_text.proofs.rows.push_cells.Given as goal

-- the columns so far are appended
abbrev pub invariant-loop-i : goal.invariant-loop-i
invariant-loop-i g l = l.out.items ≡ l.fn.out.items ++ joined_below (cell_text (g.V.ModuleView.meaning l.view) l.token) l.i
