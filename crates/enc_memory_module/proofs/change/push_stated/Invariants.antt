use Rattle.std.proofs.Common.{◌≡◌, ◌++◌, take, map}
use Rattle.enc_rules.specs.Edited.{cell_stated}
use Rattle.enc_memory_module.proofs.change.push_stated.Given as goal

abbrev pub invariant-loop-k : goal.invariant-loop-k
invariant-loop-k l = l.out.items ≡ l.fn.out.items ++ map cell_stated (take l.k l.values)
