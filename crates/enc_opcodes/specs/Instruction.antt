-- The instructions of a method's code: one at an offset, and the whole list (ECMA-335 III.1.2, III.1.9).
use Rattle.std.specs.Prelude.{◌≡◌, ℕ, zero, suc, ◌+◌, ◌-◌, ◌*◌, ◌/◌, ◌%◌, ◌^◌, ℤ, pos, List, [], ◌∷◌, length, take, drop, Bool, true, ◌&&◌, Option, Some, None, option_map, option_and_then, nat_lt, nat_le, ◌==◌, if◌then◌else◌}
use Rattle.std.specs.Int.{w8, w16, w32, w64, from_le_bytes, cast_signed}
use Rattle.enc_base.specs.Numbers.{little_endian_at}
use Rattle.enc_base.specs.Token.{token_of}
use Rattle.enc_base.specs.declared.token.Token.{Token}
use Rattle.enc_opcodes.specs.declared.op.Op.{Op}
use Rattle.enc_opcodes.specs.declared.op.Operand.{Operand}
use Rattle.enc_opcodes.specs.declared.op.Operand.TheVariants as operand
use Rattle.enc_opcodes.specs.Opcodes.{op_at}

-- what an operand says: nothing, a number, a branch's target, those of a `switch`, a token, a user text (by its
-- offset, or by its units), a float's bytes
pub data Argument (T : Type 0) : Type 0 where
  nothing : Argument T
  number : ℤ → Argument T
  target : ℕ → Argument T
  targets : List ℕ → Argument T
  token : Token → Argument T
  text : T → Argument T
  raw : List ℕ → Argument T

pub record Instruction (T : Type 0) : Type 0 where
  pub op : Op
  pub arg : Argument T

-- one reading after the other, as far as there is one
infixl 10 ◌>>=◌
abbrev pub ◌>>=◌ : {A B : Type 0} → Option A → (A → Option B) → Option B
o >>= f = option_and_then f o

-- so many bytes at a place, where they stand whole there
unfoldable pub range_at : List ℕ → ℕ → ℕ → Option (List ℕ)
range_at bytes at n = if nat_le (at + n) (length bytes) then Some (take n (drop at bytes)) else None

-- a signed byte as the distance of four bytes that is equal to it
abbrev pub widened : ℕ → ℕ
widened n = if nat_lt n 0x80 then n else n + 0xFFFFFF00

-- the sum of an offset and a signed distance of four bytes lies from 0 to 2^32 - 1
abbrev pub is_reached : ℕ → ℕ → Bool
is_reached end distance = if nat_lt distance 0x80000000 then nat_lt (end + distance) (2 ^ 32)
    else nat_le (2 ^ 32) (end + distance)

-- and is this, in four bytes
abbrev pub reached : ℕ → ℕ → ℕ
reached end distance = (end + distance) % 2 ^ 32

-- the offset at a signed distance from the end of an instruction, where there is one
abbrev pub target_at : ℕ → ℕ → Option ℕ
target_at end distance = if is_reached end distance then Some (reached end distance) else None

-- the offsets at distances of four bytes each
unfoldable pub all_reached : ℕ → List ℕ → List ℕ
all_reached end (a ∷ b ∷ c ∷ d ∷ rest) = reached end (from_le_bytes w32 (a ∷ b ∷ c ∷ d ∷ [])) ∷ all_reached end rest
all_reached end _ = []

-- there is an offset at each of them
unfoldable pub are_reached : ℕ → List ℕ → Bool
are_reached end (a ∷ b ∷ c ∷ d ∷ rest) = is_reached end (from_le_bytes w32 (a ∷ b ∷ c ∷ d ∷ [])) && are_reached end rest
are_reached end _ = true

abbrev pub targets_at : ℕ → List ℕ → Option (List ℕ)
targets_at end distances = if are_reached end distances then Some (all_reached end distances) else None

-- a user text's token is of table 70, its row the offset; another token is what it is
abbrev pub text_or_token : ℕ → Argument ℕ
text_or_token n = if n / 0x1000000 == 0x70 then text (n % 0x1000000) else token (token_of n)

-- the targets of a `switch`, whose distances stand behind their count, and the place behind them
unfoldable pub switch_in : List ℕ → ℕ → Option (Argument ℕ × ℕ)
switch_in code at = do
  count ← little_endian_at w32 code at
  distances ← range_at code (at + 4) (4 * count)
  offsets ← targets_at (at + 4 + 4 * count) distances
  Some (targets offsets, at + 4 + 4 * count)

-- the operand at a place, and the place behind it, where it stands whole there
unfoldable pub arg_in : Operand → List ℕ → ℕ → Option (Argument ℕ × ℕ)
arg_in operand.None code at = Some (nothing, at)
arg_in operand.I8 code at = option_map (λ n. (number (cast_signed w8 n), at + 1)) (little_endian_at w8 code at)
arg_in operand.U8 code at = option_map (λ n. (number (pos n), at + 1)) (little_endian_at w8 code at)
arg_in operand.U16 code at = option_map (λ n. (number (pos n), at + 2)) (little_endian_at w16 code at)
arg_in operand.I32 code at = option_map (λ n. (number (cast_signed w32 n), at + 4)) (little_endian_at w32 code at)
arg_in operand.I64 code at = option_map (λ n. (number (cast_signed w64 n), at + 8)) (little_endian_at w64 code at)
arg_in operand.R4 code at = option_map (λ bytes. (raw bytes, at + 4)) (range_at code at 4)
arg_in operand.R8 code at = option_map (λ bytes. (raw bytes, at + 8)) (range_at code at 8)
arg_in operand.Branch8 code at =
    option_map (λ t. (target t, at + 1)) (little_endian_at w8 code at >>= λ n. target_at (at + 1) (widened n))
arg_in operand.Branch32 code at =
    option_map (λ t. (target t, at + 4)) (little_endian_at w32 code at >>= target_at (at + 4))
arg_in operand.Switch code at = switch_in code at
arg_in operand.Token code at = option_map (λ n. (token (token_of n), at + 4)) (little_endian_at w32 code at)
arg_in operand.User code at = option_map (λ n. (text_or_token n, at + 4)) (little_endian_at w32 code at)

-- the instruction's code at a place, of one byte or of two, and the place behind it
unfoldable pub op_in : List ℕ → ℕ → Option (Op × ℕ)
op_in code at = do
  first ← little_endian_at w8 code at
  if first == 0xFE then option_and_then (λ second. option_map (λ op. (op, at + 2)) (op_at first second))
      (little_endian_at w8 code (at + 1))
      else option_map (λ op. (op, at + 1)) (op_at first 0)

-- the instruction at an offset, and the offset behind it, where one stands whole there
unfoldable pub instr_in : List ℕ → ℕ → Option (Instruction ℕ × ℕ)
instr_in code at = do
  head ← op_in code at
  rest ← arg_in head.0.operand code head.1
  Some (record { op = head.0; arg = rest.0 }, rest.1)

-- what stands one behind the other from a place on, each with its own place, at most so many, until nothing stands
-- there
abbrev pub chain_on : {A : Type 0} → ℕ → Option (A × ℕ) → (ℕ → List (ℕ × A)) → List (ℕ × A)
chain_on at None next = []
chain_on at (Some x) next = (at, x.0) ∷ next x.1

unfoldable pub chain : {A : Type 0} → (ℕ → Option (A × ℕ)) → ℕ → ℕ → List (ℕ × A)
chain step zero at = []
chain step (suc n) at = chain_on at (step at) (chain step n)

-- where that ends
abbrev pub end_on : {A : Type 0} → ℕ → Option (A × ℕ) → (ℕ → ℕ) → ℕ
end_on at None next = at
end_on at (Some x) next = next x.1

unfoldable pub chain_end : {A : Type 0} → (ℕ → Option (A × ℕ)) → ℕ → ℕ → ℕ
chain_end step zero at = at
chain_end step (suc n) at = end_on at (step at) (chain_end step n)

-- these stand one behind the other from a place on, and the last ends at the size
unfoldable pub IsChain : {A : Type 0} → (ℕ → Option (A × ℕ)) → ℕ → ℕ → List (ℕ × A) → Type 0
IsChain step size at [] = at ≡ size
IsChain step size at (x ∷ xs) = (n : ℕ) × (x.0 ≡ at) × (step at ≡ Some (x.1, n)) × IsChain step size n xs

-- the instructions of the code from an offset on
unfoldable pub rest_of : List ℕ → ℕ → List (ℕ × Instruction ℕ)
rest_of code at = chain (instr_in code) (length code - at) at

-- where they end
unfoldable pub end_of : List ℕ → ℕ → ℕ
end_of code at = chain_end (instr_in code) (length code - at) at

-- all instructions of the code, each with its offset
abbrev pub instructions_of : List ℕ → List (ℕ × Instruction ℕ)
instructions_of code = rest_of code 0
