use Rattle.std.proofs.Common.{◌≡◌, true, take}
use Rattle.enc_memory_module.specs.Standing.{code_is_held}
use Rattle.enc_memory_module.proofs.copy.copied_code.Given as goal

abbrev pub invariant-loop-k : goal.invariant-loop-k
invariant-loop-k l = record { same : l.out ≡ take l.k l.code; held : code_is_held (take l.k l.code) ≡ true }
