-- Numbers that are cut to kinds.
use Rattle.std.proofs.Common.{pos, negsuc, refl, arith}
use Rattle.enc_objects.specs.declared.kind.Kind.TheVariants as kind
use Rattle.enc_objects.specs.Values.{cut, is_of}
use Rattle.enc_objects.specs.Laws.{CutsAreOfKinds, NumbersOfKindsStay}

pub cuts_are_of_kinds : CutsAreOfKinds
unfolding cut is_of
cuts_are_of_kinds kind.I1 (pos n) h = grind arith
cuts_are_of_kinds kind.I1 (negsuc n) h = grind arith
cuts_are_of_kinds kind.U1 (pos n) h = grind arith
cuts_are_of_kinds kind.U1 (negsuc n) h = grind arith
cuts_are_of_kinds kind.I2 (pos n) h = grind arith
cuts_are_of_kinds kind.I2 (negsuc n) h = grind arith
cuts_are_of_kinds kind.U2 (pos n) h = grind arith
cuts_are_of_kinds kind.U2 (negsuc n) h = grind arith
cuts_are_of_kinds kind.I4 (pos n) h = grind arith
cuts_are_of_kinds kind.I4 (negsuc n) h = grind arith
cuts_are_of_kinds kind.U4 (pos n) h = grind arith
cuts_are_of_kinds kind.U4 (negsuc n) h = grind arith
cuts_are_of_kinds kind.I8 (pos n) h = grind arith
cuts_are_of_kinds kind.I8 (negsuc n) h = grind arith
cuts_are_of_kinds kind.U8 (pos n) h = grind arith
cuts_are_of_kinds kind.U8 (negsuc n) h = grind arith
cuts_are_of_kinds kind.Ref z h = absurd cc

pub numbers_of_kinds_stay : NumbersOfKindsStay
unfolding cut is_of
numbers_of_kinds_stay kind.I1 (pos n) h = grind (arith, h)
numbers_of_kinds_stay kind.I1 (negsuc n) h = grind (arith, h)
numbers_of_kinds_stay kind.U1 (pos n) h = grind (arith, h)
numbers_of_kinds_stay kind.U1 (negsuc n) h = grind (arith, h)
numbers_of_kinds_stay kind.I2 (pos n) h = grind (arith, h)
numbers_of_kinds_stay kind.I2 (negsuc n) h = grind (arith, h)
numbers_of_kinds_stay kind.U2 (pos n) h = grind (arith, h)
numbers_of_kinds_stay kind.U2 (negsuc n) h = grind (arith, h)
numbers_of_kinds_stay kind.I4 (pos n) h = grind (arith, h)
numbers_of_kinds_stay kind.I4 (negsuc n) h = grind (arith, h)
numbers_of_kinds_stay kind.U4 (pos n) h = grind (arith, h)
numbers_of_kinds_stay kind.U4 (negsuc n) h = grind (arith, h)
numbers_of_kinds_stay kind.I8 (pos n) h = grind (arith, h)
numbers_of_kinds_stay kind.I8 (negsuc n) h = grind (arith, h)
numbers_of_kinds_stay kind.U8 (pos n) h = grind (arith, h)
numbers_of_kinds_stay kind.U8 (negsuc n) h = grind (arith, h)
numbers_of_kinds_stay kind.Ref z h = refl
