-- Values as they are stored, loaded and compared (ECMA-335 III.1.1, III.1.6).
use Rattle.std.specs.Prelude.{ℕ, ℤ, pos, Bool, true, false, not, List, [], ◌∷◌, length, reverse, take, Option, Some, None, Result, Ok, Err, nat_le, nat_lt, if◌then◌else◌}
use Rattle.std.specs.Ordering.{int_eq}
use Rattle.enc_objects.specs.declared.kind.Kind.{Kind}
use Rattle.enc_objects.specs.Instructions.{on_two}
use Rattle.enc_opcodes.specs.declared.op.Op.{Op}
use Rattle.enc_opcodes.specs.declared.op.Operand.TheVariants as operand
use Rattle.enc_objects.specs.declared.trap.Trap.{Trap}
use Rattle.enc_objects.specs.declared.trap.Trap.TheVariants.{X3, X4, X13}
use Rattle.enc_objects.specs.declared.value.Value.{Value}
use Rattle.enc_objects.specs.declared.value.Value.TheVariants.{I4, I8, Null, Obj}
use Rattle.enc_objects.specs.Places.{stored_as}
use Rattle.enc_frames.specs.Machine.{Frame}
use Rattle.enc_frames.specs.Results.{◌>>=◌, or_trap}
use Rattle.enc_frames.specs.declared.act.Test.{Test}
use Rattle.enc_frames.specs.declared.act.Test.TheVariants as test

-- a value as a place of a kind holds it; a trap where it is of a wrong kind
abbrev pub fit : Kind → Value → Result Value Trap
fit k v = or_trap X4 (stored_as k v)

-- values as places of these kinds hold them, one for each
unfoldable pub fit_all : List Kind → List Value → Result (List Value) Trap
fit_all [] vs = Ok []
fit_all (k ∷ ks) [] = Err X3
fit_all (k ∷ ks) (v ∷ vs) = fit k v >>= λ w. fit_all ks vs >>= λ ws. Ok (w ∷ ws)

-- the value on the top of a stack
abbrev pub upper : List Value → Result Value Trap
upper [] = Err X3
upper (v ∷ rest) = Ok v

-- the two upper ones, the top last
abbrev pub upper_two : List Value → Result (Value × Value) Trap
upper_two (b ∷ a ∷ rest) = Ok (a, b)
upper_two _ = Err X3

-- the three upper ones, the top last
abbrev pub upper_three : List Value → Result (Value × Value × Value) Trap
upper_three (c ∷ b ∷ a ∷ rest) = Ok (a, b, c)
upper_three _ = Err X3

-- one value more on a frame's stack, where there may be more
abbrev pub pushed : {C : Type 0} → ℕ → Value → Frame C → Result (Frame C) Trap
pushed max v f = if nat_lt (length f.stack) max then Ok (record f { stack = v ∷ f.stack }) else Err X13

-- a value by the reference that it is: null, or the number of an object
abbrev pub reference_in : Value → Option (Option ℕ)
reference_in Null = Some None
reference_in (Obj id) = Some (Some id)
reference_in _ = None

abbrev pub reference : Value → Result (Option ℕ) Trap
reference v = or_trap X4 (reference_in v)

-- an integer of 32 bits
abbrev pub word_in : Value → Option ℤ
word_in (I4 n) = Some n
word_in _ = None

abbrev pub word_of_value : Value → Result ℤ Trap
word_of_value v = or_trap X4 (word_in v)

-- a value that isn't zero and isn't null
abbrev pub is_set : Value → Bool
is_set (I4 n) = not (int_eq n (pos 0))
is_set (I8 n) = not (int_eq n (pos 0))
is_set Null = false
is_set (Obj id) = true

-- an integer
abbrev pub is_integer_value : Value → Bool
is_integer_value (I4 n) = true
is_integer_value (I8 n) = true
is_integer_value _ = false

-- what the comparison with this code says of two values (III.3.21 to III.3.26)
abbrev pub comparison : ℕ → Op
comparison code = record { byte = code; operand = operand.None }

abbrev pub compare_says : ℕ → Value → Value → Result Bool Trap
compare_says code a b = on_two (comparison code) a b >>= λ v. Ok (is_set v)

abbrev pub fails : ℕ → Value → Value → Result Bool Trap
fails code a b = compare_says code a b >>= λ h. Ok (not h)

-- of two integers alone
abbrev pub of_integers : (Value → Value → Result Bool Trap) → Value → Value → Result Bool Trap
of_integers test a b = if is_integer_value a then test a b else Err X4

-- what a branch asks of two values, by ceq, cgt, cgt.un, clt, clt.un; the last of these take integers alone
unfoldable pub tested : Test → Value → Value → Result Bool Trap
tested test.Eq a b = compare_says 0xFE01 a b
tested test.Ge a b = fails 0xFE04 a b
tested test.Gt a b = compare_says 0xFE02 a b
tested test.Le a b = fails 0xFE02 a b
tested test.Lt a b = compare_says 0xFE04 a b
tested test.NeUn a b = fails 0xFE01 a b
tested test.GeUn a b = fails 0xFE05 a b
tested test.GtUn a b = of_integers (compare_says 0xFE03) a b
tested test.LeUn a b = of_integers (fails 0xFE03) a b
tested test.LtUn a b = compare_says 0xFE05 a b

-- so many arguments from the top of a stack, in the order in which they were put there
unfoldable pub arguments : ℕ → List Value → Result (List Value) Trap
arguments n stack = if nat_le n (length stack) then Ok (reverse (take n stack)) else Err X3

-- what a method gives: nothing, or the value on the top, which isn't cut
abbrev pub value_given : Option Kind → List Value → Result (Option Value) Trap
value_given None stack = Ok None
value_given (Some k) stack = upper stack >>= λ p. or_trap X4 (stored_as k p) >>= λ _. Ok (Some p)
