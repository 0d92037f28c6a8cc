use Rattle.std.proofs.Common.{◌≡◌, ◌++◌}
use Rattle.enc_rows.specs.Runs.{table_stream, rows_named}
use Rattle.enc_rows.proofs.children.push_pointed.Given as goal

-- with the children that the places left name, those so far are all
abbrev pub invariant-loop-p : goal.invariant-loop-p
invariant-loop-p l = l.fn.out.items ++ rows_named (table_stream l.bytes l.tables) l.child l.fn.run.first l.fn.run.end ≡ l.out.items ++ rows_named (table_stream l.bytes l.tables) l.child l.p l.fn.run.end
