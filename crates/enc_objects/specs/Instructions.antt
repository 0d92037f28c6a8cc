-- Which instructions work on values alone (ECMA-335 III.1.2.1, III.3).
use Rattle.std.specs.Prelude.{ℕ, ◌-◌, Bool, true, false, List, [], ◌∷◌, Option, Some, None, Result, Err, slice_get, nat_le, if◌then◌else◌}
use Rattle.enc_base.specs.Order.{or_else}
use Rattle.enc_opcodes.specs.declared.op.Op.{Op}
use Rattle.enc_opcodes.specs.declared.op.Operand.{Operand}
use Rattle.enc_opcodes.specs.declared.op.Operand.TheVariants as operand
use Rattle.enc_objects.specs.declared.value.Value.{Value}
use Rattle.enc_objects.specs.declared.kind.Kind.TheVariants as kind
use Rattle.enc_objects.specs.declared.trap.Trap.{Trap}
use Rattle.enc_objects.specs.declared.trap.Trap.TheVariants.{X2}
use Rattle.enc_objects.specs.declared.operation.Arithmetic.TheVariants.{Add, Sub, Mul, Div, DivUn, Rem, RemUn, And, Or, Xor, AddOvf, AddOvfUn, MulOvf, MulOvfUn, SubOvf, SubOvfUn}
use Rattle.enc_objects.specs.declared.operation.Shift.TheVariants.{Shl, Shr, ShrUn}
use Rattle.enc_objects.specs.declared.operation.Comparison.TheVariants.{Ceq, Cgt, CgtUn, Clt, CltUn}
use Rattle.enc_objects.specs.declared.operation.Binary.{Binary}
use Rattle.enc_objects.specs.declared.operation.Binary.TheVariants.{Calculates, Shifts, Compares}
use Rattle.enc_objects.specs.declared.operation.Unary.{Unary}
use Rattle.enc_objects.specs.declared.operation.Unary.TheVariants.{Neg, Not, Conv, ConvOvf, ConvOvfUn}
use Rattle.enc_objects.specs.Values.{binary_of, unary_of}

-- the instructions from `add` on, in the order of their codes
abbrev pub from_add : List Binary
from_add =
    Calculates Add ∷ Calculates Sub ∷ Calculates Mul ∷ Calculates Div ∷ Calculates DivUn ∷ Calculates Rem
    ∷ Calculates RemUn ∷ Calculates And ∷
    Calculates Or ∷ Calculates Xor
    ∷ Shifts Shl ∷ Shifts Shr ∷ Shifts ShrUn ∷ []

-- from `add.ovf` on
abbrev pub from_add_ovf : List Binary
from_add_ovf = Calculates AddOvf ∷ Calculates AddOvfUn ∷ Calculates MulOvf ∷ Calculates MulOvfUn ∷ Calculates SubOvf
    ∷ Calculates SubOvfUn ∷ []

-- from `ceq` on
abbrev pub from_ceq : List Binary
from_ceq = Compares Ceq ∷ Compares Cgt ∷ Compares CgtUn ∷ Compares Clt ∷ Compares CltUn ∷ []

-- from `neg` to `conv.i8`
abbrev pub from_neg : List Unary
from_neg = Neg ∷ Not ∷ Conv kind.I1 ∷ Conv kind.I2 ∷ Conv kind.I4 ∷ Conv kind.I8 ∷ []

-- `conv.u4` and `conv.u8`
abbrev pub from_conv_u4 : List Unary
from_conv_u4 = Conv kind.U4 ∷ Conv kind.U8 ∷ []

-- from `conv.ovf.i1.un` to `conv.ovf.u8.un`
abbrev pub from_conv_ovf_i1_un : List Unary
from_conv_ovf_i1_un =
    ConvOvfUn kind.I1 ∷ ConvOvfUn kind.I2 ∷ ConvOvfUn kind.I4 ∷ ConvOvfUn kind.I8 ∷ ConvOvfUn kind.U1
    ∷ ConvOvfUn kind.U2 ∷ ConvOvfUn kind.U4 ∷
    ConvOvfUn kind.U8 ∷ []

-- from `conv.ovf.i1` to `conv.ovf.u8`
abbrev pub from_conv_ovf_i1 : List Unary
from_conv_ovf_i1 =
    ConvOvf kind.I1 ∷ ConvOvf kind.U1 ∷ ConvOvf kind.I2 ∷ ConvOvf kind.U2 ∷ ConvOvf kind.I4 ∷ ConvOvf kind.U4
    ∷ ConvOvf kind.I8 ∷ ConvOvf kind.U8 ∷ []

-- `conv.u2` and `conv.u1`
abbrev pub from_conv_u2 : List Unary
from_conv_u2 = Conv kind.U2 ∷ Conv kind.U1 ∷ []

-- what stands at a code, in a run that begins at the first code
unfoldable pub in_run : {A : Type 0} → ℕ → List A → ℕ → Option A
in_run first run code = if nat_le first code then slice_get run (code - first) else None

-- the operation on two values with this code
unfoldable pub binary_at : ℕ → Option Binary
binary_at code = or_else (in_run 0x58 from_add code)
    (or_else (in_run 0xD6 from_add_ovf code) (in_run 0xFE01 from_ceq code))

-- the operation on one value with this code
unfoldable pub unary_at : ℕ → Option Unary
unary_at code =
    or_else (in_run 0x65 from_neg code)
    (or_else (in_run 0x6D from_conv_u4 code)
    (or_else (in_run 0x82 from_conv_ovf_i1_un code)
    (or_else (in_run 0xB3 from_conv_ovf_i1 code) (in_run 0xD1 from_conv_u2 code))))

-- nothing stands behind the instruction's code
abbrev pub stands_alone : Operand → Bool
stands_alone operand.None = true
stands_alone _ = false

-- what an instruction does with two values, and with one
abbrev pub binary_in : Op → Option Binary
binary_in op = if stands_alone op.operand then binary_at op.byte else None

abbrev pub unary_in : Op → Option Unary
unary_in op = if stands_alone op.operand then unary_at op.byte else None

-- what an instruction gives for two values: X2 where it isn't one on two values, and else its operation's answer
abbrev pub operated : Option Binary → Value → Value → Result Value Trap
operated None a b = Err X2
operated (Some o) a b = binary_of o a b

unfoldable pub on_two : Op → Value → Value → Result Value Trap
on_two op a b = operated (binary_in op) a b

-- and for one value
abbrev pub converted : Option Unary → Value → Result Value Trap
converted None a = Err X2
converted (Some o) a = unary_of o a

unfoldable pub on_one : Op → Value → Result Value Trap
on_one op a = converted (unary_in op) a
