use Rattle.std.proofs.Common.{◌≡◌, ℕ}
use Rattle.std.specs.Prelude.{◌==◌}
use Rattle.std.specs.List.{list_any}
use Rattle.enc_rows.specs.Runs.{table_stream, rows_named}
use Rattle.enc_rows.proofs.children.is_pointed.Given as goal

-- the places left name the child where all do
abbrev pub invariant-loop-p : goal.invariant-loop-p
invariant-loop-p l = list_any (λ (k : ℕ). k == l.fn.row) (rows_named (table_stream l.bytes l.tables) l.child l.fn.run.first l.fn.run.end) ≡ list_any (λ (k : ℕ). k == l.fn.row) (rows_named (table_stream l.bytes l.tables) l.child l.p l.fn.run.end)
