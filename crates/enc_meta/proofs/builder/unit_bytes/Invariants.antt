use Rattle.std.proofs.Common.{◌≡◌, take}
use Rattle.enc_meta.specs.Built.{unit_bytes}
use Rattle.enc_meta.proofs.builder.unit_bytes.Given as goal

abbrev pub invariant-loop-unit : goal.invariant-loop-unit
invariant-loop-unit l = l.out.items ≡ unit_bytes (take l.unit-index l.units)
