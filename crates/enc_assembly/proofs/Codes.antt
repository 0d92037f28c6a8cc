-- The codes of instructions fit one byte, or one behind FE.
use Rattle.std.proofs.Common.{◌≡◌, ℕ, ◌-◌, ◌<◌, Bool, true, false, List, length, Option, Some, None, refl, arith}
use Rattle.std.specs.Prelude.{option_and_then, slice_get, nat_lt, nat_le, ◌==◌, if◌then◌else◌}
use Rattle.std.proofs.lemmas.Option.{slice_get_within}
use Rattle.std.proofs.lemmas.Bool.Decides.{nat_tests}
use Rattle.enc_opcodes.specs.declared.op.Op.{Op}
use Rattle.enc_opcodes.specs.declared.op.Operand.{Operand}
use Rattle.enc_opcodes.specs.Table.{Entry, one_byte_opcodes, two_byte_opcodes}
use Rattle.enc_opcodes.specs.Opcodes.{opcode_entry, entry_of, has_operand, is_op}

-- an entry stands within its table
within : (table : List (Option Entry)) (i : ℕ) (o : Option (Option Entry)) (of : Operand) → slice_get table i ≡ o → has_operand of (option_and_then (λ (e : Option Entry). e) o) ≡ true → i < length table
within table i None of e h = absurd cc
within table i (Some x) of e h = slice_get_within table i x e

in_one : (of : Operand) (code : ℕ) → has_operand of (opcode_entry one_byte_opcodes code) ≡ true → code < 225
in_one of code h =
    let many : length one_byte_opcodes ≡ 225 = refl in
    let low = within one_byte_opcodes code (slice_get one_byte_opcodes code) of refl h in
    omega (arith, many, low)

in_two : (of : Operand) (code : ℕ) → has_operand of (opcode_entry two_byte_opcodes code) ≡ true → code < 31
in_two of code h =
    let many : length two_byte_opcodes ≡ 31 = refl in
    let low = within two_byte_opcodes code (slice_get two_byte_opcodes code) of refl h in
    omega (arith, many, low)

by_table : (of : Operand) (code : ℕ) (b : Bool) → has_operand of (if b then opcode_entry one_byte_opcodes code else opcode_entry two_byte_opcodes (code - 0xFE00)) ≡ true → (b ≡ true → code < 225) × (b ≡ false → code - 0xFE00 < 31)
by_table of code true h = (λ e. in_one of code h, λ e. absurd cc)
by_table of code false h = (λ e. absurd cc, λ e. in_two of (code - 0xFE00) h)

codes : (o : Op) → is_op o ≡ true → (nat_lt o.byte 0xFE00 ≡ true → o.byte < 225) × (nat_lt o.byte 0xFE00 ≡ false → o.byte - 0xFE00 < 31)
unfolding is_op entry_of
codes o h = by_table o.operand o.byte (nat_lt o.byte 0xFE00) h

-- a code below FE00 is one byte
pub one_byte : (o : Op) → is_op o ≡ true → nat_le 0xFE00 o.byte ≡ false → o.byte < 0x100
one_byte o h e =
    let low : nat_lt o.byte 0xFE00 ≡ true = grind (arith, nat_tests, e) in
    let few = (codes o h).0 low in
    omega (arith, few)

-- another is FE and a byte
pub two_bytes : (o : Op) → is_op o ≡ true → nat_le 0xFE00 o.byte ≡ true → o.byte - 0xFE00 < 0x100
two_bytes o h e =
    let high : nat_lt o.byte 0xFE00 ≡ false = grind (arith, nat_tests, e) in
    let few = (codes o h).1 high in
    omega (arith, few)

-- and it isn't FE
pub below_fe : (o : Op) → is_op o ≡ true → nat_le 0xFE00 o.byte ≡ false → (o.byte == 0xFE) ≡ false
below_fe o h e =
    let low : nat_lt o.byte 0xFE00 ≡ true = grind (arith, nat_tests, e) in
    let few = (codes o h).0 low in
    grind (arith, nat_tests, few)
