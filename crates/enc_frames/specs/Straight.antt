-- Instructions on a frame's own values: arguments, local variables, constants, the stack, branches, arithmetic
-- (ECMA-335 III.3).
use Rattle.std.specs.Prelude.{ℕ, drop, Bool, not, List, ◌∷◌, length, Option, None, option_and_then, unwrap_or, slice_get, slice_set, Result, Ok, Err, nat_lt, ◌==◌, if◌then◌else◌}
use Rattle.enc_base.specs.declared.token.Token.{Token}
use Rattle.enc_machine_types.specs.Elements.{CallShape}
use Rattle.enc_machine_types.specs.Members.{call_shape, local_kinds}
use Rattle.enc_objects.specs.Instructions.{on_two, on_one}
use Rattle.enc_objects.specs.Values.{modulo}
use Rattle.enc_objects.specs.declared.kind.Kind.{Kind}
use Rattle.enc_objects.specs.declared.kind.Kind.TheVariants as kind
use Rattle.enc_objects.specs.declared.trap.Trap.{Trap}
use Rattle.enc_objects.specs.declared.trap.Trap.TheVariants.{X2}
use Rattle.enc_objects.specs.declared.value.Value.{Value}
use Rattle.enc_opcodes.specs.declared.op.Op.{Op}
use Rattle.enc_plain.specs.Module.{Module}
use Rattle.enc_base.specs.Tables as tables
use Rattle.enc_frames.specs.Machine.{Frame}
use Rattle.enc_frames.specs.Results.{◌>>=◌, or_trap}
use Rattle.enc_frames.specs.Values.{fit, upper, upper_two, pushed, word_of_value, is_set, tested}
use Rattle.enc_frames.specs.declared.act.Test.{Test}

-- what an instruction makes of the frame, by itself
abbrev pub Framed : Type 0 → Type 0
Framed C = Result (Frame C) Trap

-- the frame at another offset, with another stack
abbrev pub moved_on : {C : Type 0} → ℕ → List Value → Frame C → Frame C
moved_on offset stack f = record f { offset = offset; stack = stack }

-- the kinds of what a method is called with: the object first, where it has one
abbrev pub argument_kinds : CallShape → List Kind
argument_kinds s = if s.this then kind.Ref ∷ s.takes else s.takes

-- the kind of an argument, by the signature of the frame's method; of a local variable, by that of its code
unfoldable pub argument_kind : {C : Type 0} → Module → Frame C → ℕ → Option Kind
argument_kind m f n = if nat_lt n (length f.args)
    then option_and_then (λ (s : CallShape). slice_get (argument_kinds s) n) (call_shape m f.method) else None

unfoldable pub local_kind : {C : Type 0} → Module → Token → Frame C → ℕ → Option Kind
local_kind m locals f n = if nat_lt n (length f.locals)
    then option_and_then (λ (ks : List Kind). slice_get ks n) (local_kinds m locals) else None

-- the method that an instruction names
unfoldable pub named_method : Module → Token → Result CallShape Trap
named_method m t = if t.table == tables.method_def then or_trap X2 (call_shape m t) else Err X2

-- a value goes on the stack, and the frame on behind the instruction (III.3.38, III.3.40, III.3.43, III.3.45)
unfoldable pub load : {C : Type 0} → ℕ → ℕ → Value → Frame C → Framed C
load max next v f = pushed max v (moved_on next f.stack f)

-- ldarg, ldloc; max is how many values the stack may hold, next where the following instruction begins
unfoldable pub load_argument : {C : Type 0} → ℕ → ℕ → ℕ → Frame C → Framed C
load_argument max next n f = or_trap X2 (slice_get f.args n) >>= λ v. load max next v f

unfoldable pub load_local : {C : Type 0} → ℕ → ℕ → ℕ → Frame C → Framed C
load_local max next n f = or_trap X2 (slice_get f.locals n) >>= λ v. load max next v f

-- starg, stloc, by the kind of what is stored to (III.3.61, III.3.63)
unfoldable pub store_argument : {C : Type 0} → Option Kind → ℕ → ℕ → Frame C → Framed C
store_argument kind next n f =
    or_trap X2 kind >>= λ k. upper f.stack >>= λ p. fit k p >>= λ v. Ok
    (record (moved_on next (drop 1 f.stack) f) { args = slice_set f.args n v })

unfoldable pub store_local : {C : Type 0} → Option Kind → ℕ → ℕ → Frame C → Framed C
store_local kind next n f =
    or_trap X2 kind >>= λ k. upper f.stack >>= λ p. fit k p >>= λ v. Ok
    (record (moved_on next (drop 1 f.stack) f) { locals = slice_set f.locals n v })

-- dup, pop (III.3.34, III.3.54)
unfoldable pub duplicate : {C : Type 0} → ℕ → ℕ → Frame C → Framed C
duplicate max next f = upper f.stack >>= λ p. load max next p f

unfoldable pub discard : {C : Type 0} → ℕ → Frame C → Framed C
discard next f = upper f.stack >>= λ p. Ok (moved_on next (drop 1 f.stack) f)

-- brtrue where wanted is true, brfalse where it is false (III.3.17, III.3.18)
unfoldable pub branch_if : {C : Type 0} → Bool → ℕ → ℕ → Frame C → Framed C
branch_if wanted goal next f =
    upper f.stack >>= λ p. Ok (moved_on (if (if wanted then is_set p else not (is_set p)) then goal else next)
    (drop 1 f.stack) f)

-- a branch by a comparison (III.3.5 to III.3.14)
unfoldable pub branch_by : {C : Type 0} → Test → ℕ → ℕ → Frame C → Framed C
branch_by t goal next f =
    upper_two f.stack >>= λ p. tested t p.0 p.1 >>= λ (holds : Bool). Ok
    (moved_on (if holds then goal else next) (drop 2 f.stack) f)

-- switch: the number counts without a sign (III.3.66)
unfoldable pub switch_to : {C : Type 0} → List ℕ → ℕ → Frame C → Framed C
switch_to goals next f =
    upper f.stack >>= λ p. word_of_value p >>= λ n. Ok
    (moved_on (unwrap_or (slice_get goals (modulo 32 n)) next) (drop 1 f.stack) f)

-- an instruction on two values, and on one
unfoldable pub on_upper_two : {C : Type 0} → Op → ℕ → Frame C → Framed C
on_upper_two op next f = upper_two f.stack >>= λ p. on_two op p.0 p.1 >>= λ v. Ok
    (moved_on next (v ∷ (drop 2 f.stack)) f)

unfoldable pub on_top : {C : Type 0} → Op → ℕ → Frame C → Framed C
on_top op next f = upper f.stack >>= λ p. on_one op p >>= λ v. Ok (moved_on next (v ∷ (drop 1 f.stack)) f)
