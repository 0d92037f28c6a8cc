-- The instructions' names, by computing.
use Rattle.std.proofs.Common.{refl}
use Rattle.enc_opcodes.specs.Opcodes.{op_named, first_named}
use Rattle.enc_objects.specs.Instructions.{in_run, binary_at, unary_at}
use Rattle.enc_objects.specs.Laws.{BinaryAreNamed, UnaryAreNamed}

pub binary_are_named : BinaryAreNamed
unfolding op_named first_named in_run binary_at
binary_are_named = refl

pub unary_are_named : UnaryAreNamed
unfolding op_named first_named in_run unary_at
unary_are_named = refl
