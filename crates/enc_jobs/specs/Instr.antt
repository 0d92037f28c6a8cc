-- What an instruction of a stated body says: its name, and its operand, if it has one.
use Rattle.std.specs.Prelude.{ℕ, List, [], ◌∷◌, Option, Some, None, option_map, flat_map, if◌then◌else◌}
use Rattle.std.specs.Str.{chars}
use Rattle.std.specs.Char.Escape.{encode_utf16}
use Rattle.serde_json.specs.Data.{Data}
use Rattle.serde_json.specs.Find.{as_str, as_number, as_i64}
use Rattle.enc_opcodes.specs.declared.op.Operand.{Operand}
use Rattle.enc_opcodes.specs.declared.op.Operand.TheVariants as operand
use Rattle.enc_opcodes.specs.Opcodes.{op_named}
use Rattle.enc_opcodes.specs.Instruction.{◌>>=◌}
use Rattle.enc_edit_list.specs.declared.body.ArgValue.{ArgValue}
use Rattle.enc_edit_list.specs.declared.body.ArgValue.TheVariants as arg
use Rattle.enc_edit_list.specs.declared.body.InstrValue.{InstrValue}
use Rattle.enc_edit_list.specs.Form.{lies_in}
use Rattle.enc_jobs.specs.Json.{elements_of, word_said, bytes_said, token_said}
use Rattle.enc_jobs.specs.Lists.{every}

-- a whole number, at most so far below zero and so far above
unfoldable pub whole_said : ℕ → ℕ → Data → Option ArgValue
whole_said below above d = do
  kept ← as_number d
  n ← as_i64 kept
  if lies_in n below above then Some (arg.Num n) else None

-- the UTF-16 units of a text
unfoldable pub units_said : Data → Option (List ℕ)
units_said d = option_map (λ t. flat_map encode_utf16 (chars t)) (as_str d)

-- a branch names its target by the index of an instruction, from 0
unfoldable pub operand_said : Operand → Data → Option ArgValue
operand_said operand.None d = None
operand_said operand.I8 d = whole_said 0x80 0x7F d
operand_said operand.U8 d = whole_said 0 0xFF d
operand_said operand.U16 d = whole_said 0 0xFFFF d
operand_said operand.I32 d = whole_said 0x80000000 0x7FFFFFFF d
operand_said operand.I64 d = whole_said 0x8000000000000000 0x7FFFFFFFFFFFFFFF d
operand_said operand.R4 d = option_map arg.Raw (bytes_said 4 d)
operand_said operand.R8 d = option_map arg.Raw (bytes_said 8 d)
operand_said operand.Branch8 d = option_map arg.Target (word_said d)
operand_said operand.Branch32 d = option_map arg.Target (word_said d)
operand_said operand.Switch d = option_map arg.Targets (elements_of d >>= every word_said)
operand_said operand.Token d = option_map arg.Token (token_said d)
operand_said operand.User d = option_map arg.User (units_said d)

-- an instruction that has no operand
abbrev pub no_operand : Operand → Option ArgValue
no_operand operand.None = Some arg.None
no_operand _ = None

-- what stands behind an instruction's name: its operand, or nothing
unfoldable pub argument_said : Operand → List Data → Option ArgValue
argument_said o [] = no_operand o
argument_said o (d ∷ []) = operand_said o d
argument_said o (d ∷ e ∷ rest) = None

-- an instruction by its name and what stands behind it
abbrev pub named_said : List Data → Option InstrValue
named_said [] = None
named_said (name ∷ rest) = do
  t ← as_str name
  op ← op_named t
  a ← argument_said op.operand rest
  Some (record { op = op; arg = a })

-- an array that states an instruction, its targets by their indices
unfoldable pub instr_said : Data → Option InstrValue
instr_said d = elements_of d >>= named_said
