-- The code of stated instructions: each spelled behind the one before it (ECMA-335 III.1.2, III.1.9).
use Rattle.std.specs.Prelude.{◌≡◌, ℕ, ◌+◌, ◌-◌, ◌%◌, ◌^◌, ◌<◌, true, Bool, List, [], ◌∷◌, ◌++◌, length, flat_map, nat_le, nat_lt, ◌&&◌, if◌then◌else◌}
use Rattle.std.specs.List.{list_all}
use Rattle.std.specs.Int.{w8, w16, w32, w64, to_le_bytes, cast_unsigned}
use Rattle.enc_base.specs.Token.{number_of}
use Rattle.enc_base.specs.declared.token.Token.{Token}
use Rattle.enc_meta.specs.Built.{Built, is_kept, unit_bytes}
use Rattle.enc_opcodes.specs.declared.op.Op.{Op}
use Rattle.enc_opcodes.specs.declared.op.Operand.{Operand}
use Rattle.enc_opcodes.specs.declared.op.Operand.TheVariants as operand
use Rattle.enc_opcodes.specs.Instruction.{Argument, nothing, number, target, targets, token, text, raw, Instruction, instructions_of, end_of}
use Rattle.enc_opcodes.specs.Sound.{instruction_size}
use Rattle.enc_edit_list.specs.declared.body.ArgValue.{ArgValue}
use Rattle.enc_edit_list.specs.declared.body.ArgValue.TheVariants as arg
use Rattle.enc_edit_list.specs.declared.body.InstrValue.{InstrValue}
use Rattle.enc_edit_list.specs.Form.{instr_fits}
use Rattle.enc_edit_list.specs.Sizes.{instr_meant, length_of_code}
use Rattle.enc_edit_list.specs.Reach.{branches_reach}

-- the code of an instruction: one byte, or FE and another
abbrev pub op_bytes : Op → List ℕ
op_bytes op = if nat_le 0xFE00 op.byte then 0xFE ∷ (op.byte - 0xFE00) ∷ [] else op.byte ∷ []

-- the signed distance from the end of an instruction to a target, in four bytes
abbrev pub distance : ℕ → ℕ → ℕ
distance end t = (t + (2 ^ 32 - end)) % 2 ^ 32

-- the distances of a `switch`, behind their count (III.3.66)
abbrev pub switch_bytes : ℕ → List ℕ → List ℕ
switch_bytes end ts = to_le_bytes w32 (length ts) ++ flat_map (λ t. to_le_bytes w32 (distance end t)) ts

-- the operand of an instruction that ends at a place; a user text is named by a token of table 70 with its offset
-- (III.1.9)
unfoldable pub arg_bytes : (List ℕ → ℕ) → ℕ → Operand → ArgValue → List ℕ
arg_bytes offset end operand.I8 (arg.Num n) = to_le_bytes w8 (cast_unsigned w8 n)
arg_bytes offset end operand.U8 (arg.Num n) = to_le_bytes w8 (cast_unsigned w8 n)
arg_bytes offset end operand.U16 (arg.Num n) = to_le_bytes w16 (cast_unsigned w16 n)
arg_bytes offset end operand.I32 (arg.Num n) = to_le_bytes w32 (cast_unsigned w32 n)
arg_bytes offset end operand.I64 (arg.Num n) = to_le_bytes w64 (cast_unsigned w64 n)
arg_bytes offset end operand.R4 (arg.Raw bytes) = bytes
arg_bytes offset end operand.R8 (arg.Raw bytes) = bytes
arg_bytes offset end operand.Branch8 (arg.Target t) = to_le_bytes w8 (distance end t % 0x100)
arg_bytes offset end operand.Branch32 (arg.Target t) = to_le_bytes w32 (distance end t)
arg_bytes offset end operand.Switch (arg.Targets ts) = switch_bytes end ts
arg_bytes offset end operand.Token (arg.Token t) = to_le_bytes w32 (number_of t)
arg_bytes offset end operand.User (arg.User units) = to_le_bytes w32 (0x70000000 + offset (unit_bytes units))
arg_bytes offset end _ _ = []

unfoldable pub instr_bytes : (List ℕ → ℕ) → ℕ → InstrValue → List ℕ
instr_bytes offset end i = op_bytes i.op ++ arg_bytes offset end i.op.operand i.arg

-- the instructions one behind the other, the first at a place
unfoldable pub code_bytes : (List ℕ → ℕ) → ℕ → List InstrValue → List ℕ
code_bytes offset at [] = []
code_bytes offset at (i ∷ rest) =
    instr_bytes offset (at + instruction_size (instr_meant i)) i ++ code_bytes offset
    (at + instruction_size (instr_meant i)) rest

-- what the code says, with user texts by their offsets
abbrev pub arg_named : (List ℕ → ℕ) → ArgValue → Argument ℕ
arg_named offset arg.None = nothing
arg_named offset (arg.Num n) = number n
arg_named offset (arg.Target t) = target t
arg_named offset (arg.Targets ts) = targets ts
arg_named offset (arg.Token t) = token t
arg_named offset (arg.User units) = text (offset (unit_bytes units))
arg_named offset (arg.Raw bytes) = raw bytes

abbrev pub instr_named : (List ℕ → ℕ) → InstrValue → Instruction ℕ
instr_named offset i = record { op = i.op; arg = arg_named offset i.arg }

unfoldable pub placed_named : (List ℕ → ℕ) → ℕ → List InstrValue → List (ℕ × Instruction ℕ)
placed_named offset at [] = []
placed_named offset at (i ∷ rest) =
    (at, instr_named offset i) ∷ placed_named offset (at + instruction_size (instr_meant i)) rest

-- the numbers of an argument fit the bytes that they have: targets four, tokens one for the table and three for the
-- row, offsets of user texts three
abbrev pub token_is_small : Token → Bool
token_is_small t = nat_lt t.table 0x100 && nat_lt t.row 0x1000000

abbrev pub arg_is_small : (List ℕ → ℕ) → ArgValue → Bool
arg_is_small offset (arg.Num n) = true
arg_is_small offset (arg.Target t) = nat_lt t (2 ^ 32)
arg_is_small offset (arg.Targets ts) = list_all (λ t. nat_lt t (2 ^ 32)) ts
arg_is_small offset (arg.Token t) = token_is_small t
arg_is_small offset (arg.User units) = nat_lt (offset (unit_bytes units)) 0x1000000
arg_is_small offset _ = true

abbrev pub are_small : (List ℕ → ℕ) → List InstrValue → Bool
are_small offset code = list_all (λ (i : InstrValue). arg_is_small offset i.arg) code

-- code that was assembled is read as its instructions, and ends with the last
abbrev pub AssembledIsRead : Type 0
AssembledIsRead = (offset : List ℕ → ℕ) (code : List InstrValue)
    → list_all instr_fits code ≡ true → branches_reach 0 code ≡ true → are_small offset code ≡ true
    → length_of_code code < 2 ^ 32
    → (instructions_of (code_bytes offset 0 code) ≡ placed_named offset 0 code)
    × (end_of (code_bytes offset 0 code) 0 ≡ length_of_code code)
    × (length (code_bytes offset 0 code) ≡ length_of_code code)

-- the user text that an argument names has a place in the heaps
abbrev pub text_is_kept : Built → ArgValue → Bool
text_is_kept heaps (arg.User units) = is_kept heaps.users (unit_bytes units)
text_is_kept heaps _ = true
