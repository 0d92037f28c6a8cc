use Rattle.std.proofs.Common.{◌≡◌, ◌++◌, take}
use Rattle.std.specs.Prelude.{flat_map}
use Rattle.enc_il.specs.Written.{clause_bytes}
use Rattle.enc_il.proofs.write.push_clauses.Given as goal

abbrev pub invariant-loop-clause : goal.invariant-loop-clause
invariant-loop-clause l = l.out.items ≡ l.fn.out.items ++ flat_map clause_bytes (take l.clause-index l.clauses)
