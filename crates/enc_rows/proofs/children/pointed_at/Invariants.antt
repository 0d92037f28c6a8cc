use Rattle.std.proofs.Common.{◌≡◌, ◌-◌, ◌≤◌}
use Rattle.std.specs.Prelude.{slice_get}
use Rattle.enc_rows.specs.Runs.{table_stream, rows_named}
use Rattle.enc_rows.proofs.children.pointed_at.Given as goal

-- the child stands among those that the places left name
abbrev pub invariant-loop-p : goal.invariant-loop-p
invariant-loop-p l = (slice_get (rows_named (table_stream l.bytes l.tables) l.child l.fn.run.first l.fn.run.end) l.i ≡ slice_get (rows_named (table_stream l.bytes l.tables) l.child l.p l.fn.run.end) (l.i - l.before)) × (l.before ≤ l.i)
