-- When a body is good wherever it stands: by its instructions, its clauses and the numbers of rows alone (ECMA-335
-- II.25.4.6, III.1.7).
use Rattle.std.specs.Prelude.{ℕ, ◌+◌, ◌*◌, Bool, true, not, ◌&&◌, List, [], ◌∷◌, length, nat_le, ◌==◌, if◌then◌else◌}
use Rattle.std.specs.List.{list_all, list_any}
use Rattle.enc_opcodes.specs.declared.op.Operand.{Operand}
use Rattle.enc_opcodes.specs.declared.op.Operand.TheVariants as operand
use Rattle.enc_opcodes.specs.Instruction.{Argument, target, targets, token, Instruction}
use Rattle.enc_opcodes.specs.Body.{Body, Handler, HandlerKind, catching, filtering, finishing, faulting, is_user, is_named, range_is_good, locals_are_good}

-- how many targets a `switch` has
abbrev pub target_count : {T : Type 0} → Argument T → ℕ
target_count (targets ts) = length ts
target_count _ = 0

-- the bytes of an operand; those of a `switch` are a count and a distance for each target (III.1.2, III.3.66)
abbrev pub operand_size : {T : Type 0} → Operand → Argument T → ℕ
operand_size operand.None a = 0
operand_size operand.I8 a = 1
operand_size operand.U8 a = 1
operand_size operand.U16 a = 2
operand_size operand.I32 a = 4
operand_size operand.I64 a = 8
operand_size operand.R4 a = 4
operand_size operand.R8 a = 8
operand_size operand.Branch8 a = 1
operand_size operand.Branch32 a = 4
operand_size operand.Switch a = 4 + 4 * target_count a
operand_size operand.Token a = 4
operand_size operand.User a = 4

-- the bytes of an instruction: its code is one byte, or FE and another
unfoldable pub instruction_size : {T : Type 0} → Instruction T → ℕ
instruction_size i = (if nat_le 0xFE00 i.op.byte then 2 else 1) + operand_size i.op.operand i.arg

-- the instructions stand one behind the other from a place on, and the last ends at the size
unfoldable pub are_whole : {T : Type 0} → ℕ → ℕ → List (ℕ × Instruction T) → Bool
are_whole size at [] = at == size
are_whole size at (x ∷ rest) = x.0 == at && are_whole size (at + instruction_size x.1) rest

-- an instruction begins at the offset
abbrev pub begins_at : {T : Type 0} → List (ℕ × Instruction T) → ℕ → Bool
begins_at {T} code t = list_any (λ (x : ℕ × Instruction T). x.0 == t) code

-- targets are instructions' offsets, tokens are rows; a user text is what it is
abbrev pub argument_is_sound : {T : Type 0} → (ℕ → ℕ) → (ℕ → Bool) → Operand → Argument T → Bool
argument_is_sound count begins o (target t) = begins t
argument_is_sound count begins o (targets ts) = list_all begins ts
argument_is_sound count begins o (token t) = not (is_user o) && is_named count t
argument_is_sound count begins o _ = true

unfoldable pub instruction_is_sound : {T : Type 0} → (ℕ → ℕ) → (ℕ → Bool) → ℕ × Instruction T → Bool
instruction_is_sound count begins x = argument_is_sound count begins x.1.op.operand x.1.arg

-- a class is a row, and a filter begins at an instruction
abbrev pub handler_kind_is_sound : (ℕ → ℕ) → (ℕ → Bool) → HandlerKind → Bool
handler_kind_is_sound count begins (catching t) = is_named count t
handler_kind_is_sound count begins (filtering offset) = begins offset
handler_kind_is_sound count begins finishing = true
handler_kind_is_sound count begins faulting = true

unfoldable pub handler_is_sound : (ℕ → ℕ) → (ℕ → Bool) → ℕ → Handler → Bool
handler_is_sound count begins size h = range_is_good begins size h.tries && range_is_good begins size h.handler
    && handler_kind_is_sound count begins h.kind

-- a body is sound, by the numbers of rows
unfoldable pub body_is_sound : (ℕ → ℕ) → Body → Bool
body_is_sound count b =
    are_whole b.size 0 b.code
    && list_all (instruction_is_sound count (begins_at b.code)) b.code
    && list_all (handler_is_sound count (begins_at b.code) b.size) b.handlers
    && locals_are_good count b.locals
