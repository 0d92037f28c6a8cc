-- What each instruction is for, by its code and its argument (ECMA-335 III.1.2.1); instructions that the interpreter
-- doesn't run are for nothing.
use Rattle.std.specs.Prelude.{ℕ, ◌-◌, ℤ, pos, ◌-ℤ◌, Bool, true, false, ◌&&◌, ◌||◌, Option, Some, None, option_map, nat_le, nat_lt, ◌==◌, if◌then◌else◌}
use Rattle.std.specs.Int.{w32, cast_signed}
use Rattle.enc_base.specs.declared.token.Token.{Token}
use Rattle.enc_objects.specs.declared.kind.Kind.{Kind}
use Rattle.enc_objects.specs.declared.kind.Kind.TheVariants as kind
use Rattle.enc_objects.specs.declared.value.Value.TheVariants.{I4, I8, Null}
use Rattle.enc_objects.specs.Values.{modulo}
use Rattle.enc_frames.specs.declared.act.Act.{Act}
use Rattle.enc_frames.specs.declared.act.Act.TheVariants as act
use Rattle.enc_frames.specs.declared.act.FrameAct.TheVariants as frame
use Rattle.enc_frames.specs.declared.act.ObjectAct.TheVariants as object
use Rattle.enc_frames.specs.declared.act.Test.{Test}
use Rattle.enc_frames.specs.declared.act.Test.TheVariants as test

-- a code lies in a run of codes
abbrev pub is_from : ℕ → ℕ → ℕ → Bool
is_from first last code = nat_le first code && nat_le code last

-- the kind of an element by the instruction that loads it (III.4.8)
unfoldable pub loaded_kind : ℕ → Option Kind
loaded_kind code =
    if code == 0x90 then Some kind.I1
    else if code == 0x91 then Some kind.U1
    else if code == 0x92 then Some kind.I2
    else if code == 0x93 then Some kind.U2
    else if code == 0x94 then Some kind.I4
    else if code == 0x95 then Some kind.U4
    else if code == 0x96 then Some kind.I8
    else if code == 0x9A then Some kind.Ref
    else None

-- and by the one that stores it (III.4.26)
unfoldable pub stored_kind : ℕ → Option Kind
stored_kind code =
    if code == 0x9C then Some kind.I1
    else if code == 0x9D then Some kind.I2
    else if code == 0x9E then Some kind.I4
    else if code == 0x9F then Some kind.I8
    else if code == 0xA2 then Some kind.Ref
    else None

-- instructions on the elements of arrays
abbrev pub element_act : ℕ → Option Act
element_act code =
    if nat_lt code 0x9B then option_map (λ k. act.Object (object.LoadElement k)) (loaded_kind code)
    else option_map (λ k. act.Object (object.StoreElement k)) (stored_kind code)

-- those that stand alone
unfoldable pub bare_act : ℕ → Option Act
bare_act code =
    if nat_le code 0x01 then Some (act.Frame frame.Nothing)
    else if is_from 0x02 0x05 code then Some (act.Frame (frame.LoadArg (code - 0x02)))
    else if is_from 0x06 0x09 code then Some (act.Frame (frame.LoadLocal (code - 0x06)))
    else if is_from 0x0A 0x0D code then Some (act.Frame (frame.StoreLocal (code - 0x0A)))
    else if code == 0x14 then Some (act.Frame (frame.Constant Null))
    else if is_from 0x15 0x1E code then Some (act.Frame (frame.Constant (I4 (pos code -ℤ pos 0x16))))
    else if code == 0x25 then Some (act.Frame frame.Duplicate)
    else if code == 0x26 then Some (act.Frame frame.Discard)
    else if code == 0x2A then Some act.Return
    else if code == 0x7A then Some act.Throw
    else if code == 0x8E then Some (act.Object object.Length)
    else if code == 0xDC then Some act.EndFinally
    else element_act code

-- those with a number: of an argument, of a local variable, or the number that is loaded, as four bytes or eight
-- hold it
-- (III.3.37 to III.3.43, III.3.61 to III.3.63)
unfoldable pub numbered_act : ℕ → ℤ → Option Act
numbered_act code n =
    if code == 0x0E || code == 0xFE09 then Some (act.Frame (frame.LoadArg (modulo 32 n)))
    else if code == 0x10 || code == 0xFE0B then Some (act.Frame (frame.StoreArg (modulo 32 n)))
    else if code == 0x11 || code == 0xFE0C then Some (act.Frame (frame.LoadLocal (modulo 32 n)))
    else if code == 0x13 || code == 0xFE0E then Some (act.Frame (frame.StoreLocal (modulo 32 n)))
    else if code == 0x1F || code == 0x20 then Some (act.Frame (frame.Constant (I4 (cast_signed w32 (modulo 32 n)))))
    else if code == 0x21 then Some (act.Frame (frame.Constant (I8 n)))
    else None

-- branches by a comparison: short ones, and ten codes on the long ones
unfoldable pub test_at : ℕ → Option Test
test_at code =
    if code == 0x2E || code == 0x3B then Some test.Eq
    else if code == 0x2F || code == 0x3C then Some test.Ge
    else if code == 0x30 || code == 0x3D then Some test.Gt
    else if code == 0x31 || code == 0x3E then Some test.Le
    else if code == 0x32 || code == 0x3F then Some test.Lt
    else if code == 0x33 || code == 0x40 then Some test.NeUn
    else if code == 0x34 || code == 0x41 then Some test.GeUn
    else if code == 0x35 || code == 0x42 then Some test.GtUn
    else if code == 0x36 || code == 0x43 then Some test.LeUn
    else if code == 0x37 || code == 0x44 then Some test.LtUn
    else None

-- those that go to an offset
unfoldable pub branch_act : ℕ → ℕ → Option Act
branch_act code goal =
    if code == 0x2B || code == 0x38 then Some (act.Frame (frame.Branch goal))
    else if code == 0x2C || code == 0x39 then Some (act.Frame (frame.BranchIf false goal))
    else if code == 0x2D || code == 0x3A then Some (act.Frame (frame.BranchIf true goal))
    else if code == 0xDD || code == 0xDE then Some (act.Frame (frame.Leave goal))
    else option_map (λ t. act.Frame (frame.BranchBy t goal)) (test_at code)

-- those that name a member or a type
unfoldable pub token_act : ℕ → Token → Option Act
token_act code t =
    if code == 0x28 then Some (act.Call t)
    else if code == 0x6F then Some (act.CallVirtual t)
    else if code == 0x73 then Some (act.NewObject t)
    else if code == 0x74 then Some (act.Object (object.Cast t))
    else if code == 0x75 then Some (act.Object (object.IsInstance t))
    else if code == 0x7B then Some (act.Object (object.LoadField t))
    else if code == 0x7D then Some (act.Object (object.StoreField t))
    else if code == 0x7E then Some (act.LoadStatic t)
    else if code == 0x80 then Some (act.StoreStatic t)
    else if code == 0x8D then Some (act.Object (object.NewArray t))
    else if code == 0xA3 then Some (act.Object (object.LoadElementOf t))
    else if code == 0xA4 then Some (act.Object (object.StoreElementOf t))
    else None
