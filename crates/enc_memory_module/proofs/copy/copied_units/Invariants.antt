use Rattle.std.proofs.Common.{◌≡◌, take}
use Rattle.enc_memory_module.proofs.copy.copied_units.Given as goal

abbrev pub invariant-loop-unit : goal.invariant-loop-unit
invariant-loop-unit l = l.out ≡ take l.unit-index l.units
