-- Members outside of the module: each is one step.
use Rattle.std.specs.Prelude.{ℕ, drop, ◌%◌, ◌^◌, ℤ, pos, Bool, true, false, not, ◌||◌, List, [], ◌∷◌, ◌++◌, length, Option, Some, None, option_map, unwrap_or, slice_get, Result, Ok, Err, bytes_eq, int_lt, unsigned_abs, is_some, decimal, if◌then◌else◌}
use Rattle.std.specs.Int.{w32, cast_signed}
use Rattle.enc_base.specs.declared.token.Token.{Token}
use Rattle.enc_machine_types.specs.Outside.{outside_of}
use Rattle.enc_machine_types.specs.declared.outside.Outside.{Outside}
use Rattle.enc_machine_types.specs.declared.outside.Outside.TheVariants as outside
use Rattle.enc_objects.specs.Objects.{Store, units_held}
use Rattle.enc_objects.specs.Values.{truth}
use Rattle.enc_objects.specs.declared.object.Content.TheVariants.{Instance, Text}
use Rattle.enc_objects.specs.declared.trap.Trap.{Trap}
use Rattle.enc_objects.specs.declared.trap.Trap.TheVariants.{X2, X4, X5, X8}
use Rattle.enc_objects.specs.declared.value.Value.{Value}
use Rattle.enc_objects.specs.declared.value.Value.TheVariants.{I4, Null, Obj}
use Rattle.enc_plain.specs.Rows.{token_at}
use Rattle.enc_plain.specs.Module.{cells_of}
use Rattle.enc_schema.specs.Columns as columns
use Rattle.enc_frames.specs.Machine.{World, Thread, Shared}
use Rattle.enc_frames.specs.Memory.{new_in}
use Rattle.enc_frames.specs.Results.{◌>>=◌, or_trap, ask, Shown, nothing_shown, Made, made_with}
use Rattle.enc_frames.specs.Straight.{moved_on, load}
use Rattle.enc_frames.specs.Values.{upper, upper_two, upper_three, reference, word_of_value}

-- a text by its units, None within of null; none where another object stands there
abbrev pub text_in : Store → Value → Option (Option (List ℕ))
text_in s Null = Some None
text_in s (Obj id) = option_map Some (units_held s id)
text_in s _ = None

abbrev pub text : Store → Value → Result (Option (List ℕ)) Trap
text s v = or_trap X4 (text_in s v)

-- null is a text without units
abbrev pub or_empty : Option (List ℕ) → List ℕ
or_empty o = unwrap_or o []

-- the decimal digits of a number, with a sign where it is negative
unfoldable pub digits_of_number : ℤ → List ℕ
digits_of_number n = if int_lt n (pos 0) then 0x2D ∷ decimal (unsigned_abs n) else decimal (unsigned_abs n)

-- what a member writes
abbrev pub writing : List ℕ → Shown
writing units = record nothing_shown { wrote = Some units }

abbrev pub line_end : List ℕ
line_end = 0x0A ∷ []

-- a new text goes on the stack in place of what was taken
abbrev pub put_text : {C : Type 0} → ℕ → List ℕ → List Value → Shared → Thread C → Result (Made C) Trap
put_text next units rest s t =
    new_in (Text units) (length units) s.store >>= λ n. Ok
    (made_with (record s { store = n.0 }) t (moved_on next (Obj n.1 ∷ rest) t.top) nothing_shown)

abbrev pub value_put : {C : Type 0} → ℕ → Value → List Value → Shared → Thread C → Made C
value_put next v rest s t = made_with s t (moved_on next (v ∷ rest) t.top) nothing_shown

-- two texts are equal: both null, or of the same units
abbrev pub texts_equal : Option (List ℕ) → Option (List ℕ) → Bool
texts_equal None None = true
texts_equal (Some a) (Some b) = bytes_eq a b
texts_equal _ _ = false

-- the unit of a text at an index
abbrev pub unit_at : List ℕ → ℤ → Result ℕ Trap
unit_at units n = if int_lt n (pos 0) then Err X8 else or_trap X8 (slice_get units (unsigned_abs n))

-- a constructor outside does nothing with its object
abbrev pub run_constructor : {C : Type 0} → Bool → ℕ → Shared → Thread C → Result (Made C) Trap
run_constructor asked next s t =
    upper t.top.stack >>= λ p. reference p >>= λ r. ask X5 (not asked || is_some r) >>= λ _.
    Ok (made_with s t (moved_on next (drop 1 t.top.stack) t.top) nothing_shown)

-- a call of each; asked says that the object may not be null
unfoldable pub run_outside : {C : Type 0} → Outside → Bool → ℕ → Shared → Thread C → Result (Made C) Trap
run_outside outside.NewObject asked next s t = run_constructor asked next s t
run_outside outside.NewException asked next s t = run_constructor asked next s t
run_outside outside.WriteLine asked next s t = Ok (made_with s t (moved_on next t.top.stack t.top) (writing line_end))
run_outside outside.WriteLineText asked next s t =
    upper t.top.stack >>= λ p. text s.store p >>= λ o. Ok
    (made_with s t (moved_on next (drop 1 t.top.stack) t.top) (writing (or_empty o ++ line_end)))
run_outside outside.WriteLineNumber asked next s t =
    upper t.top.stack >>= λ p. word_of_value p >>= λ n. Ok
    (made_with s t (moved_on next (drop 1 t.top.stack) t.top) (writing (digits_of_number n ++ line_end)))
run_outside outside.WriteText asked next s t =
    upper t.top.stack >>= λ p. text s.store p >>= λ o. Ok
    (made_with s t (moved_on next (drop 1 t.top.stack) t.top) (writing (or_empty o)))
run_outside outside.ConcatTwo asked next s t =
    upper_two t.top.stack >>= λ p. text s.store p.0 >>= λ a. text s.store p.1 >>= λ b. put_text next
    (or_empty a ++ or_empty b) (drop 2 t.top.stack) s t
run_outside outside.ConcatThree asked next s t =
    upper_three t.top.stack >>= λ p. text s.store p.0 >>= λ a. text s.store p.1 >>= λ b. text s.store p.2 >>= λ c.
    put_text next (or_empty a ++ or_empty b ++ or_empty c) (drop 3 t.top.stack) s t
run_outside outside.AreEqual asked next s t =
    upper_two t.top.stack >>= λ p. text s.store p.0 >>= λ a. text s.store p.1 >>= λ b. Ok
    (value_put next (truth (texts_equal a b)) (drop 2 t.top.stack) s t)
run_outside outside.TextLength asked next s t =
    upper t.top.stack >>= λ p. text s.store p >>= λ o. or_trap X5 o >>= λ units.
    Ok (value_put next (I4 (cast_signed w32 (length units % 2 ^ 32))) (drop 1 t.top.stack) s t)
run_outside outside.TextUnit asked next s t =
    upper_two t.top.stack >>= λ p. text s.store p.0 >>= λ o. word_of_value p.1 >>= λ n. or_trap X5 o >>= λ units.
    unit_at units n >>= λ u.
    Ok (value_put next (I4 (pos u)) (drop 2 t.top.stack) s t)

-- call, callvirt of a member outside
unfoldable pub call_outside : {C : Type 0} → World C → Bool → ℕ → Token → Shared → Thread C → Result (Made C) Trap
call_outside w asked next member s t = or_trap X2 (outside_of w.plain member) >>= λ o. run_outside o asked next s t

-- newobj of one: an object of the type that the member is of
abbrev pub is_outside_constructor : Outside → Bool
is_outside_constructor outside.NewObject = true
is_outside_constructor outside.NewException = true
is_outside_constructor _ = false

unfoldable pub new_outside : {C : Type 0} → World C → ℕ → Token → Shared → Thread C → Result (Made C) Trap
new_outside w next member s t =
    or_trap X2 (outside_of w.plain member) >>= λ o. ask X2 (is_outside_constructor o) >>= λ _.
    new_in (Instance (token_at (cells_of w.plain) member columns.member_ref_class)) 0 s.store >>= λ n.
    load ((w.body t.top.code).stack) next (Obj n.1) t.top >>= λ f. Ok
    (made_with (record s { store = n.0 }) t f nothing_shown)
