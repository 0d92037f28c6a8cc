use Rattle.std.proofs.Common.{◌≡◌, ◌^◌, ◌%◌, take}
use Rattle.enc_base.specs.Tables.{method_def}
use Rattle.enc_plain.specs.Module.{rows_in}
use Rattle.enc_command_line.proofs.Sums.{rows_loaded}
use Rattle.enc_command_line.proofs.loaded.sum_loaded.Given as goal

-- what the methods so far load
abbrev pub invariant-loop-n : goal.invariant-loop-n
invariant-loop-n g l = l.sum ≡ rows_loaded (take l.n (rows_in (g.V.ModuleView.meaning l.view) method_def)) % 2 ^ 64
