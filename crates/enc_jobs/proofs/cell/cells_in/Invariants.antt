use Rattle.std.proofs.Common.{◌≡◌, length, map, drop}
use Rattle.std.specs.Prelude.{filter}
use Rattle.serde_json.specs.View.{view}
use Rattle.enc_edit_list.specs.Form.{is_stated}
use Rattle.enc_jobs.specs.Cell.{cells_said}
use Rattle.enc_jobs.proofs.Loops.{behind}
use Rattle.enc_jobs.proofs.cell.cells_in.Given as goal

-- the cells so far, and those of the columns that are left
abbrev pub invariant-loop-i : goal.invariant-loop-i
invariant-loop-i l = behind l.cells (cells_said (filter is_stated (drop l.i l.columns)) (map view (drop (length l.cells) l.items))) ≡ cells_said (filter is_stated l.fn.columns) (map view l.fn.items)
