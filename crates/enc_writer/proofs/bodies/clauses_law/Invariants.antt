use Rattle.std.proofs.Common.{◌≡◌, true, take}
use Rattle.std.specs.List.{list_all}
use Rattle.enc_il.specs.Written.{clause_fits}
use Rattle.enc_writer.proofs.bodies.clauses_law.Given as goal

abbrev pub invariant-loop-clause : goal.invariant-loop-clause
invariant-loop-clause l = list_all clause_fits (take l.clause-index l.clauses) ≡ true
