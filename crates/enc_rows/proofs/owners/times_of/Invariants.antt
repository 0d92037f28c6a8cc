use Rattle.std.proofs.Common.{◌≡◌, ℕ, ◌+◌, ◌<◌, length, get_or}
use Rattle.enc_rows.specs.Layout.{rows_of}
use Rattle.enc_rows.specs.Runs.{table_stream}
use Rattle.enc_rows.specs.Owners.{times_from, few}
use Rattle.enc_rows.proofs.owners.times_of.Given as goal

-- the rows are counted in the Ptr rows so far
abbrev pub invariant-loop-p : goal.invariant-loop-p
invariant-loop-p l = (length l.times.items ≡ rows_of l.tables l.child) × ((n : ℕ) → n < rows_of l.tables l.child → get_or l.times.items n 0 ≡ few (times_from (table_stream l.bytes l.tables) l.child l.first l.p (n + 1)))
