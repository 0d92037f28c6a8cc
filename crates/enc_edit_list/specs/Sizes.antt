-- Where the instructions of a stated body stand: one behind the other (ECMA-335 III.1.2).
use Rattle.std.specs.Prelude.{ℕ, ◌+◌, List, [], ◌∷◌}
use Rattle.enc_opcodes.specs.Instruction.{Argument, nothing, number, target, targets, token, text, raw, Instruction}
use Rattle.enc_opcodes.specs.Sound.{instruction_size}
use Rattle.enc_edit_list.specs.declared.body.ArgValue.{ArgValue}
use Rattle.enc_edit_list.specs.declared.body.ArgValue.TheVariants as arg
use Rattle.enc_edit_list.specs.declared.body.InstrValue.{InstrValue}

-- what an argument says, with a user text by its units
abbrev pub arg_meant : ArgValue → Argument (List ℕ)
arg_meant arg.None = nothing
arg_meant (arg.Num n) = number n
arg_meant (arg.Target t) = target t
arg_meant (arg.Targets ts) = targets ts
arg_meant (arg.Token t) = token t
arg_meant (arg.User units) = text units
arg_meant (arg.Raw bytes) = raw bytes

abbrev pub instr_meant : InstrValue → Instruction (List ℕ)
instr_meant i = record { op = i.op; arg = arg_meant i.arg }

-- the bytes of some instructions
unfoldable pub length_of_code : List InstrValue → ℕ
length_of_code [] = 0
length_of_code (i ∷ rest) = instruction_size (instr_meant i) + length_of_code rest

-- the instructions, each with the offset where it begins, the first at a place
unfoldable pub placed : ℕ → List InstrValue → List (ℕ × Instruction (List ℕ))
placed at [] = []
placed at (i ∷ rest) = (at, instr_meant i) ∷ placed (at + instruction_size (instr_meant i)) rest
