use Rattle.std.proofs.Common.{◌≡◌, ◌+◌, ◌≤◌, length}
use Rattle.enc_rows.specs.Runs.{table_stream, rows_named}
use Rattle.enc_rows.proofs.children.count_pointed.Given as goal

-- the children so far, and those that the places left name
abbrev pub invariant-loop-p : goal.invariant-loop-p
invariant-loop-p l = (length (rows_named (table_stream l.bytes l.tables) l.child l.fn.run.first l.fn.run.end) ≡ l.count + length (rows_named (table_stream l.bytes l.tables) l.child l.p l.fn.run.end)) × (l.count ≤ l.p)
