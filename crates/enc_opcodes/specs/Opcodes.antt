-- Which code means which instruction (ECMA-335 III.1.2.1).
use Rattle.std.specs.Prelude.{ℕ, ◌+◌, ◌-◌, Bool, false, List, [], ◌∷◌, Option, Some, None, option_map, option_and_then, slice_get, nat_lt, ◌==◌, bytes_eq, if◌then◌else◌}
use Rattle.enc_base.specs.Order.{or_else}
use Rattle.enc_opcodes.specs.declared.op.Op.{Op}
use Rattle.enc_opcodes.specs.declared.op.Operand.{Operand}
use Rattle.enc_opcodes.specs.declared.op.Operand.TheVariants.{None as Bare, I8, U8, U16, I32, I64, R4, R8, Branch8, Branch32, Switch, Token, User}
use Rattle.enc_opcodes.specs.Table.{Entry, one_byte_opcodes, two_byte_opcodes}

-- what stands at a place, nothing past the end
abbrev pub opcode_entry : List (Option Entry) → ℕ → Option Entry
opcode_entry table i = option_and_then (λ (o : Option Entry). o) (slice_get table i)

-- the name and operand of the instruction with this code: its byte, or FE00 plus the byte behind FE
unfoldable pub entry_of : ℕ → Option Entry
entry_of code = if nat_lt code 0xFE00 then opcode_entry one_byte_opcodes code
    else opcode_entry two_byte_opcodes (code - 0xFE00)

-- the instruction with this code
abbrev pub with_code : ℕ → Entry → Op
with_code code e = record { byte = code; operand = e.1 }

abbrev pub op_with : ℕ → Option Op
op_with code = option_map (with_code code) (entry_of code)

-- the code that two bytes begin with: the second is of the code only behind FE
abbrev pub code_of : ℕ → ℕ → ℕ
code_of b0 b1 = if b0 == 0xFE then 0xFE00 + b1 else b0

-- the instruction that two bytes begin with, and its operand
unfoldable pub op_at : ℕ → ℕ → Option Op
op_at b0 b1 = op_with (code_of b0 b1)

abbrev pub operand_at : ℕ → ℕ → Option Operand
operand_at b0 b1 = option_map (λ (o : Op). o.operand) (op_at b0 b1)

abbrev pub name_in : Option Entry → List ℕ
name_in None = []
name_in (Some e) = e.0

-- the name of the instruction with this code
unfoldable pub name_of : ℕ → List ℕ
name_of code = name_in (entry_of code)

-- the kinds of operands, numbered
abbrev pub operand_kind : Operand → ℕ
operand_kind Bare = 0
operand_kind I8 = 1
operand_kind U8 = 2
operand_kind U16 = 3
operand_kind I32 = 4
operand_kind I64 = 5
operand_kind R4 = 6
operand_kind R8 = 7
operand_kind Branch8 = 8
operand_kind Branch32 = 9
operand_kind Switch = 10
operand_kind Token = 11
operand_kind User = 12

abbrev pub has_operand : Operand → Option Entry → Bool
has_operand of None = false
has_operand of (Some e) = operand_kind of == operand_kind e.1

-- whether this is an instruction: there is one with its code, and it has its operand
unfoldable pub is_op : Op → Bool
is_op o = has_operand o.operand (entry_of o.byte)

-- the first instruction of this name in a table, whose first place has this code
unfoldable pub first_named : List ℕ → ℕ → List (Option Entry) → Option Op
first_named name code [] = None
first_named name code (None ∷ rest) = first_named name (code + 1) rest
first_named name code (Some e ∷ rest) =
    if bytes_eq e.0 name then Some (with_code code e) else first_named name (code + 1) rest

-- the instruction of this name
unfoldable pub op_named : List ℕ → Option Op
op_named name = or_else (first_named name 0 one_byte_opcodes) (first_named name 0xFE00 two_byte_opcodes)
