use Rattle.std.proofs.Common.{◌≡◌, ◌++◌, map, take}
use Rattle.enc_delta.specs.Members.{row_beside}
use Rattle.enc_delta.proofs.siblings.add_rows.Given as goal

abbrev pub invariant-loop-k : goal.invariant-loop-k
invariant-loop-k l = l.all.items ≡ l.fn.all.items ++ map (row_beside l.pair) (take l.k l.rows)
