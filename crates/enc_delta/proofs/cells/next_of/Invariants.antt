use Rattle.std.proofs.Common.{◌≡◌, length}
use Rattle.enc_delta.specs.Delta.{of_table}
use Rattle.enc_delta.proofs.cells.next_of.Given as goal

abbrev pub invariant-loop-rest : goal.invariant-loop-rest
invariant-loop-rest l = of_table l.table l.rest ≡ of_table l.table l.tokens

abbrev pub decreases-loop-rest : goal.decreases-loop-rest
decreases-loop-rest l = length l.rest
