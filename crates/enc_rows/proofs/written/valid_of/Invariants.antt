use Rattle.std.proofs.Common.{◌≡◌, ◌^◌, ◌<◌}
use Rattle.enc_rows.specs.Sums.{sum_below}
use Rattle.enc_rows.specs.Written.{bit_of}
use Rattle.enc_rows.proofs.written.valid_of.Given as goal

abbrev pub invariant-loop-table : goal.invariant-loop-table
invariant-loop-table l = (l.valid ≡ sum_below (bit_of l.tables) l.table) × (l.valid < 2 ^ l.table)
