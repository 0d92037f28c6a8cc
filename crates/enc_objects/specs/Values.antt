-- The integers of the interpreter as numbers, and what operations on values give (ECMA-335 III.1.1, III.1.5, III.3).
use Rattle.std.specs.Prelude.{ℕ, ◌+◌, ◌/◌, ◌%◌, ◌^◌, ℤ, pos, negsuc, ◌+ℤ◌, ◌-ℤ◌, ◌*ℤ◌, neg_ℤ, Bool, true, false, ◌&&◌, Result, Ok, Err, nat_lt, ◌==◌, bit_and, bit_or, bit_xor, unsigned_abs, int_lt, int_le, int_div, int_rem, if◌then◌else◌}
use Rattle.std.specs.Ordering.{int_eq}
use Rattle.std.specs.Int.{w8, w16, w32, w64, cast_signed, int_rem_euclid, int_shr}
use Rattle.enc_objects.specs.declared.value.Value.{Value}
use Rattle.enc_objects.specs.declared.value.Value.TheVariants.{I4, I8, Null, Obj}
use Rattle.enc_objects.specs.declared.kind.Kind.{Kind}
use Rattle.enc_objects.specs.declared.kind.Kind.TheVariants as kind
use Rattle.enc_objects.specs.declared.trap.Trap.{Trap}
use Rattle.enc_objects.specs.declared.trap.Trap.TheVariants.{X4, X6, X7}
use Rattle.enc_objects.specs.declared.operation.Size.{Size}
use Rattle.enc_objects.specs.declared.operation.Size.TheVariants.{Four, Eight}
use Rattle.enc_objects.specs.declared.operation.Arithmetic.{Arithmetic}
use Rattle.enc_objects.specs.declared.operation.Arithmetic.TheVariants as arithmetic
use Rattle.enc_objects.specs.declared.operation.Shift.{Shift}
use Rattle.enc_objects.specs.declared.operation.Shift.TheVariants as shift
use Rattle.enc_objects.specs.declared.operation.Comparison.{Comparison}
use Rattle.enc_objects.specs.declared.operation.Comparison.TheVariants as comparison
use Rattle.enc_objects.specs.declared.operation.Binary.{Binary}
use Rattle.enc_objects.specs.declared.operation.Binary.TheVariants.{Calculates, Shifts, Compares}
use Rattle.enc_objects.specs.declared.operation.Unary.{Unary}
use Rattle.enc_objects.specs.declared.operation.Unary.TheVariants as unary

-- the number from 0 to 2^n - 1 that is equal to z modulo 2^n
abbrev pub modulo : ℕ → ℤ → ℕ
modulo n z = unsigned_abs (int_rem_euclid z (pos (2 ^ n)))

-- the number of a kind that has the low bits of z (III.1.1.1)
unfoldable pub cut : Kind → ℤ → ℤ
cut kind.I1 z = cast_signed w8 (modulo 8 z)
cut kind.U1 z = pos (modulo 8 z)
cut kind.I2 z = cast_signed w16 (modulo 16 z)
cut kind.U2 z = pos (modulo 16 z)
cut kind.I4 z = cast_signed w32 (modulo 32 z)
cut kind.U4 z = pos (modulo 32 z)
cut kind.I8 z = cast_signed w64 (modulo 64 z)
cut kind.U8 z = pos (modulo 64 z)
cut kind.Ref z = z

-- the integer on the stack whose bits are those of a kind's number
unfoldable pub held : Kind → ℤ → Value
held kind.I1 z = I4 (cast_signed w32 (modulo 32 z))
held kind.U1 z = I4 (cast_signed w32 (modulo 32 z))
held kind.I2 z = I4 (cast_signed w32 (modulo 32 z))
held kind.U2 z = I4 (cast_signed w32 (modulo 32 z))
held kind.I4 z = I4 (cast_signed w32 (modulo 32 z))
held kind.U4 z = I4 (cast_signed w32 (modulo 32 z))
held kind.I8 z = I8 (cast_signed w64 (modulo 64 z))
held kind.U8 z = I8 (cast_signed w64 (modulo 64 z))
held kind.Ref z = I4 (cast_signed w32 (modulo 32 z))

-- what a place of the kind holds before anything is stored there
unfoldable pub default_of : Kind → Value
default_of kind.I1 = I4 (pos 0)
default_of kind.U1 = I4 (pos 0)
default_of kind.I2 = I4 (pos 0)
default_of kind.U2 = I4 (pos 0)
default_of kind.I4 = I4 (pos 0)
default_of kind.U4 = I4 (pos 0)
default_of kind.I8 = I8 (pos 0)
default_of kind.U8 = I8 (pos 0)
default_of kind.Ref = Null

-- the number is the kind's: it lies from the least to the greatest
unfoldable pub is_of : Kind → ℤ → Bool
is_of kind.I1 z = int_le (negsuc 0x7F) z && int_le z (pos 0x7F)
is_of kind.U1 z = int_le (pos 0) z && int_le z (pos 0xFF)
is_of kind.I2 z = int_le (negsuc 0x7FFF) z && int_le z (pos 0x7FFF)
is_of kind.U2 z = int_le (pos 0) z && int_le z (pos 0xFFFF)
is_of kind.I4 z = int_le (negsuc 0x7FFFFFFF) z && int_le z (pos 0x7FFFFFFF)
is_of kind.U4 z = int_le (pos 0) z && int_le z (pos 0xFFFFFFFF)
is_of kind.I8 z = int_le (negsuc 0x7FFFFFFFFFFFFFFF) z && int_le z (pos 0x7FFFFFFFFFFFFFFF)
is_of kind.U8 z = int_le (pos 0) z && int_le z (pos 0xFFFFFFFFFFFFFFFF)
is_of kind.Ref z = false

-- the number where it is the kind's, and else an overflow
abbrev pub checked : Kind → ℤ → Result Value Trap
checked k z = if is_of k z then Ok (held k z) else Err X7

-- the kinds of integers on the stack, with a sign and without
abbrev pub signed_kind : Size → Kind
signed_kind Four = kind.I4
signed_kind Eight = kind.I8

abbrev pub unsigned_kind : Size → Kind
unsigned_kind Four = kind.U4
unsigned_kind Eight = kind.U8

-- the number that an integer is without its sign
abbrev pub without_sign : Size → ℤ → ℕ
without_sign Four z = modulo 32 z
without_sign Eight z = modulo 64 z

-- a quotient or remainder with a sign: none by zero, and none where the quotient isn't of the size, that of the
-- least integer by -1 (III.3.31, III.3.55)
abbrev pub divided : Size → ℤ → ℤ → ℤ → Result Value Trap
divided s x y z = if int_eq y (pos 0) then Err X6 else if is_of (signed_kind s) (int_div x y)
    then Ok (held (signed_kind s) z) else Err X7

-- and without a sign: none by zero
abbrev pub divided_unsigned : Size → ℕ → ℕ → Result Value Trap
divided_unsigned s y n = if y == 0 then Err X6 else Ok (held (unsigned_kind s) (pos n))

-- what two integers of one size give (III.3)
unfoldable pub calculated : Arithmetic → Size → ℤ → ℤ → Result Value Trap
calculated arithmetic.Add s x y = Ok (held (signed_kind s) (x +ℤ y))
calculated arithmetic.Sub s x y = Ok (held (signed_kind s) (x -ℤ y))
calculated arithmetic.Mul s x y = Ok (held (signed_kind s) (x *ℤ y))
calculated arithmetic.Div s x y = divided s x y (int_div x y)
calculated arithmetic.DivUn s x y = divided_unsigned s (without_sign s y) (without_sign s x / without_sign s y)
calculated arithmetic.Rem s x y = divided s x y (int_rem x y)
calculated arithmetic.RemUn s x y = divided_unsigned s (without_sign s y) (without_sign s x % without_sign s y)
calculated arithmetic.And s x y = Ok (held (unsigned_kind s) (pos (bit_and (without_sign s x) (without_sign s y))))
calculated arithmetic.Or s x y = Ok (held (unsigned_kind s) (pos (bit_or (without_sign s x) (without_sign s y))))
calculated arithmetic.Xor s x y = Ok (held (unsigned_kind s) (pos (bit_xor (without_sign s x) (without_sign s y))))
calculated arithmetic.AddOvf s x y = checked (signed_kind s) (x +ℤ y)
calculated arithmetic.AddOvfUn s x y = checked (unsigned_kind s) (pos (without_sign s x) +ℤ pos (without_sign s y))
calculated arithmetic.MulOvf s x y = checked (signed_kind s) (x *ℤ y)
calculated arithmetic.MulOvfUn s x y = checked (unsigned_kind s) (pos (without_sign s x) *ℤ pos (without_sign s y))
calculated arithmetic.SubOvf s x y = checked (signed_kind s) (x -ℤ y)
calculated arithmetic.SubOvfUn s x y = checked (unsigned_kind s) (pos (without_sign s x) -ℤ pos (without_sign s y))

-- an integer whose bits moved by so many places: to the left, to the right with its sign (rounded down), to the
-- right with zeros (III.3.58 to III.3.60)
unfoldable pub shifted : Shift → Size → ℤ → ℕ → Value
shifted shift.Shl s x n = held (signed_kind s) (x *ℤ pos (2 ^ n))
shifted shift.Shr s x n = held (signed_kind s) (int_shr x n)
shifted shift.ShrUn s x n = held (unsigned_kind s) (pos (without_sign s x / 2 ^ n))

-- what a comparison says of two integers of one size (III.3.21 to III.3.26)
unfoldable pub compares : Comparison → Size → ℤ → ℤ → Bool
compares comparison.Ceq s x y = int_eq x y
compares comparison.Cgt s x y = int_lt y x
compares comparison.CgtUn s x y = nat_lt (without_sign s y) (without_sign s x)
compares comparison.Clt s x y = int_lt x y
compares comparison.CltUn s x y = nat_lt (without_sign s x) (without_sign s y)

-- true is 1, false is 0
abbrev pub truth : Bool → Value
truth true = I4 (pos 1)
truth false = I4 (pos 0)

-- what a comparison says of two references, which stand in an order: ceq and cgt.un alone take references
unfoldable pub compared_references : Comparison → ℕ → ℕ → Result Value Trap
compared_references comparison.Ceq m n = Ok (truth (m == n))
compared_references comparison.Cgt m n = Err X4
compared_references comparison.CgtUn m n = Ok (truth (nat_lt n m))
compared_references comparison.Clt m n = Err X4
compared_references comparison.CltUn m n = Err X4

-- null is the least reference, and objects go by their numbers
unfoldable pub compared : Comparison → Value → Value → Result Value Trap
compared c (I4 x) (I4 y) = Ok (truth (compares c Four x y))
compared c (I8 x) (I8 y) = Ok (truth (compares c Eight x y))
compared c Null Null = compared_references c 0 0
compared c Null (Obj n) = compared_references c 0 (n + 1)
compared c (Obj m) Null = compared_references c (m + 1) 0
compared c (Obj m) (Obj n) = compared_references c (m + 1) (n + 1)
compared c _ _ = Err X4

-- what an operation gives for two values. A shift counts the low 5 or 6 bits of its places
unfoldable pub binary_of : Binary → Value → Value → Result Value Trap
binary_of (Calculates o) (I4 x) (I4 y) = calculated o Four x y
binary_of (Calculates o) (I8 x) (I8 y) = calculated o Eight x y
binary_of (Calculates o) _ _ = Err X4
binary_of (Shifts o) (I4 x) (I4 n) = Ok (shifted o Four x (without_sign Four n % 32))
binary_of (Shifts o) (I8 x) (I4 n) = Ok (shifted o Eight x (without_sign Four n % 64))
binary_of (Shifts o) _ _ = Err X4
binary_of (Compares o) a b = compared o a b

-- an integer as a kind's number: by its sign, or without one for a kind without one
abbrev pub read_as : Kind → Size → ℤ → ℤ
read_as kind.I1 s x = x
read_as kind.U1 s x = pos (without_sign s x)
read_as kind.I2 s x = x
read_as kind.U2 s x = pos (without_sign s x)
read_as kind.I4 s x = x
read_as kind.U4 s x = pos (without_sign s x)
read_as kind.I8 s x = x
read_as kind.U8 s x = pos (without_sign s x)
read_as kind.Ref s x = x

-- what an operation gives for an integer (III.3.27 to III.3.29, III.3.50, III.3.52)
unfoldable pub unary_on : Unary → Size → ℤ → Result Value Trap
unary_on unary.Neg s x = Ok (held (signed_kind s) (neg_ℤ x))
unary_on unary.Not s x = Ok (held (signed_kind s) (neg_ℤ x -ℤ pos 1))
unary_on (unary.Conv k) s x = Ok (held k (cut k (read_as k s x)))
unary_on (unary.ConvOvf k) s x = checked k x
unary_on (unary.ConvOvfUn k) s x = checked k (pos (without_sign s x))

-- and for a value
abbrev pub unary_of : Unary → Value → Result Value Trap
unary_of o (I4 x) = unary_on o Four x
unary_of o (I8 x) = unary_on o Eight x
unary_of o _ = Err X4
