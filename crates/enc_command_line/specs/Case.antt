-- The line of a generated case: how many methods a module has, and the sum of what they load.
use Rattle.std.specs.Prelude.{ℕ, ◌%◌, ◌^◌, ◌==◌, List, [], ◌∷◌, ◌++◌, sum_by, Option, Some, codes, decimal, slice_get, if◌then◌else◌}
use Rattle.std.specs.Int.{w64, cast_unsigned}
use Rattle.enc_base.specs.Tables as tables
use Rattle.enc_opcodes.specs.Instruction.{Argument, number, Instruction}
use Rattle.enc_plain.specs.Cell.{Cell, body}
use Rattle.enc_plain.specs.Module.{Module, Row, rows_in}
use Rattle.enc_plain.specs.Sound.{row_count}

-- a number as one of 64 bits without a sign
abbrev pub number_loaded : {T : Type 0} → Argument T → ℕ
number_loaded (number n) = cast_unsigned w64 n
number_loaded _ = 0

-- what an instruction loads, if it is `ldc.i4` with an operand
abbrev pub loaded_by : {T : Type 0} → Instruction T → ℕ
loaded_by i = if i.op.byte == 0x20 then number_loaded i.arg else 0

-- and all instructions of a method
abbrev pub loaded_in_body : Option Cell → ℕ
loaded_in_body (Some (body (Some b))) = sum_by (λ (x : ℕ × Instruction (List ℕ)). loaded_by x.1) b.code
loaded_in_body _ = 0

-- and of all methods, modulo 2^64
unfoldable pub sum_loaded : Module → ℕ
sum_loaded m = sum_by (λ (r : Row). loaded_in_body (slice_get r.cells 0)) (rows_in m tables.method_def) % 2 ^ 64

-- the line of a case, with its words as they were given
unfoldable pub case_line : List ℕ → List ℕ → Module → List ℕ
case_line start count m =
    codes "gen " ++ start ++ 0x20 ∷ count ++ codes " methods " ++ decimal (row_count m tables.method_def)
    ++ codes " sum " ++ decimal (sum_loaded m)
    ++ 0x0a ∷ []
