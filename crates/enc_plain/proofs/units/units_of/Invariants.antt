use Rattle.std.proofs.Common.{◌≡◌, ◌++◌, length}
use Rattle.enc_base.specs.Units.{units_of}
use Rattle.enc_plain.proofs.units.units_of.Given as goal

-- the units so far, and those of the bytes that are left
abbrev pub invariant-loop-rest : goal.invariant-loop-rest
invariant-loop-rest l = l.units.items ++ units_of l.rest ≡ units_of l.bytes

abbrev pub decreases-loop-rest : goal.decreases-loop-rest
decreases-loop-rest l = length l.rest
