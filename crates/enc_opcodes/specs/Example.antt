-- A body of forty bytes read by the definitions: a fat header, four instructions, and a small section with one clause.
use Rattle.std.specs.Prelude.{◌≡◌, ℕ, List, [], ◌∷◌, Option, Some, None, option_map, true, ◌==◌, if◌then◌else◌}
use Rattle.enc_base.specs.Token.{token_of}
use Rattle.enc_opcodes.specs.declared.op.Operand.TheVariants.{None as Bare, Branch8, User}
use Rattle.enc_opcodes.specs.Instruction.{nothing, target, text}
use Rattle.enc_opcodes.specs.Body.{Body, catching, body_at, body_of}

-- flags 301b, two values, nine bytes of code, locals 11000001; ldstr 70000001, leave.s to the end, pop, ret; a
-- section of one clause, of class 01000001
abbrev pub body_example : List ℕ
body_example =
    0x1b ∷ 0x30 ∷ 0x02 ∷ 0x00 ∷ 0x09 ∷ 0x00 ∷ 0x00 ∷ 0x00 ∷ 0x01 ∷ 0x00 ∷ 0x00 ∷ 0x11 ∷
    0x72 ∷ 0x01 ∷ 0x00 ∷ 0x00 ∷ 0x70 ∷ 0xde ∷ 0x01 ∷ 0x26 ∷ 0x2a ∷ 0x00 ∷ 0x00 ∷ 0x00 ∷
    0x01 ∷ 0x10 ∷ 0x00 ∷ 0x00 ∷
    0x00 ∷ 0x00 ∷ 0x00 ∷ 0x00 ∷ 0x07 ∷ 0x07 ∷ 0x00 ∷ 0x01 ∷ 0x01 ∷ 0x00 ∷ 0x00 ∷ 0x01 ∷ []

-- the user text at offset 1, by the bytes of its units
abbrev pub example_texts : ℕ → Option (List ℕ)
example_texts offset = if offset == 1 then Some (0x68 ∷ 0x00 ∷ 0x69 ∷ 0x00 ∷ []) else None

-- what it means
abbrev pub example_means : Body
example_means = record {
  stack = 2;
  init = true;
  locals = token_of 0x11000001;
  size = 9;
  code =
      (0, record { op = record { byte = 0x72; operand = User }; arg = text (0x68 ∷ 0x69 ∷ []) }) ∷
      (5, record { op = record { byte = 0xDE; operand = Branch8 }; arg = target 8 }) ∷
      (7, record { op = record { byte = 0x26; operand = Bare }; arg = nothing }) ∷
      (8, record { op = record { byte = 0x2A; operand = Bare }; arg = nothing }) ∷ [];
  handlers = record { kind = catching (token_of 0x01000001); tries = (0, 7); handler = (7, 8) } ∷ [];
}

abbrev pub ExampleIsRead : Type 0
ExampleIsRead = option_map (body_of example_texts) (body_at body_example 0 0x2050) ≡ Some example_means
