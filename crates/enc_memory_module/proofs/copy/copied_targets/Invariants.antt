use Rattle.std.proofs.Common.{◌≡◌, take}
use Rattle.enc_memory_module.proofs.copy.copied_targets.Given as goal

abbrev pub invariant-loop-target : goal.invariant-loop-target
invariant-loop-target l = l.out ≡ take l.target-index l.targets
