use Rattle.std.proofs.Common.{◌≡◌, take}
use Rattle.enc_memory_module.proofs.copy.copied_tables.Given as goal

abbrev pub invariant-loop-k : goal.invariant-loop-k
invariant-loop-k l = l.out.items ≡ take l.k l.tables
