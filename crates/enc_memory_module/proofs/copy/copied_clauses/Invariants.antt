use Rattle.std.proofs.Common.{◌≡◌, true, take}
use Rattle.std.specs.List.{list_all}
use Rattle.enc_il.specs.Written.{clause_fits}
use Rattle.enc_memory_module.proofs.copy.copied_clauses.Given as goal

abbrev pub invariant-loop-k : goal.invariant-loop-k
invariant-loop-k l = record { same : l.out ≡ take l.k l.clauses; fit : list_all clause_fits (take l.k l.clauses) ≡ true }
