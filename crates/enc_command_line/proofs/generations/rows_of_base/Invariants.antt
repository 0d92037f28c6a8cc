use Rattle.std.proofs.Common.{◌≡◌, ◌*◌, ◌≤◌, List, length, take}
use Rattle.std.specs.Prelude.{sum_by}
use Rattle.enc_plain.specs.Module.{Row}
use Rattle.enc_image.specs.Base.{module_in}
use Rattle.enc_command_line.proofs.generations.rows_of_base.Given as goal

-- the rows of the tables so far
abbrev pub invariant-loop-table : goal.invariant-loop-table
invariant-loop-table l = (l.rows ≡ sum_by (λ (rows : List Row). length rows) (take l.table (module_in l.agg.base).tables)) × (l.rows ≤ l.table * 4294967296)
