-- What the table of instructions means as a whole, and what a target is.
use Rattle.std.specs.Prelude.{◌≡◌, ◌<◌, ◌^◌, ◌+ℤ◌, ℕ, List, Some, IsTrue, MatchOption, pos}
use Rattle.std.specs.Int.{w32, cast_signed, FitsUnsigned}
use Rattle.enc_opcodes.specs.Instruction.{target_at}
use Rattle.enc_opcodes.specs.declared.op.Op.{Op}
use Rattle.enc_opcodes.specs.Opcodes.{op_with, name_of, is_op, op_named}

-- an instruction is the one with its code
abbrev pub CodesTell : Type 0
CodesTell = (o : Op) → IsTrue (is_op o) → op_with o.byte ≡ Some o

-- each instruction is found by its name
abbrev pub NamesTell : Type 0
NamesTell = (o : Op) → IsTrue (is_op o) → op_named (name_of o.byte) ≡ Some o

-- what is found by a name is an instruction, and that is its name
abbrev pub NamedAreFound : Type 0
NamedAreFound = (name : List ℕ) (o : Op) → op_named name ≡ Some o → IsTrue (is_op o) × (name_of o.byte ≡ name)

-- the target at a distance is its signed sum with the offset, and there is none where that isn't a number of four bytes
abbrev pub TargetsAreSums : Type 0
TargetsAreSums = (end distance : ℕ) → end < 2 ^ 32 → distance < 2 ^ 32
    → MatchOption (target_at end distance) (¬ FitsUnsigned w32 (pos end +ℤ cast_signed w32 distance))
    (λ t. pos t ≡ pos end +ℤ cast_signed w32 distance)
