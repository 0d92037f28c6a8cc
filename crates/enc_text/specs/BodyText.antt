-- The printed body of a method.
use Rattle.std.specs.Prelude.{ℕ, List, [], ◌∷◌, ◌++◌, flat_map, Bool, true, false, nat_lt, decimal, codes, if◌then◌else◌}
use Rattle.std.specs.Fmt.{signed_decimal}
use Rattle.std.specs.Char.Utf16.{utf16_lossy_chars}
use Rattle.std.specs.Str.{encode_utf8_all}
use Rattle.hex.specs.Hex.{encode_lower}
use Rattle.enc_base.specs.declared.token.Token.{Token}
use Rattle.enc_opcodes.specs.Opcodes.{name_of}
use Rattle.enc_opcodes.specs.Instruction.{Argument, nothing, number, target, targets, token, text, raw, Instruction}
use Rattle.enc_opcodes.specs.Body.{Body, Handler, HandlerKind, catching, filtering, finishing, faulting}
use Rattle.enc_text.specs.Text.{digits, token_text, quoted}

-- how many hexadecimal digits an offset is written with: four, or as many as it has
abbrev pub label_digits : ℕ → ℕ
label_digits n = if nat_lt n 0x10000 then 4 else if nat_lt n 0x100000 then 5 else if nat_lt n 0x1000000 then 6
    else if nat_lt n 0x10000000 then 7 else 8

-- an offset in the code
unfoldable pub label : ℕ → List ℕ
label n = codes "IL_" ++ digits (label_digits n) n

-- further offsets, a comma before each
abbrev pub more_labels : List ℕ → List ℕ
more_labels ts = flat_map (λ (t : ℕ). 0x2c ∷ label t) ts

-- a space and offsets with commas between them, nothing where there are none
abbrev pub labels : List ℕ → List ℕ
labels [] = []
labels (t ∷ ts) = 0x20 ∷ label t ++ more_labels ts

-- a user text in UTF-8, with U+FFFD for each surrogate that has no partner
unfoldable pub utf8_of : List ℕ → List ℕ
utf8_of units = encode_utf8_all (utf16_lossy_chars units)

-- a space and the operand, where there is one
abbrev pub argument_text : Argument (List ℕ) → List ℕ
argument_text nothing = []
argument_text (number n) = 0x20 ∷ signed_decimal n
argument_text (target t) = 0x20 ∷ label t
argument_text (targets ts) = labels ts
argument_text (token t) = 0x20 ∷ token_text t
argument_text (text units) = 0x20 ∷ quoted (utf8_of units)
argument_text (raw bytes) = 0x20 ∷ encode_lower bytes

-- the line of an instruction: its offset, its name and its operand
unfoldable pub instruction_text : ℕ × Instruction (List ℕ) → List ℕ
instruction_text x = 0x20 ∷ 0x20 ∷ label x.0 ++ 0x20 ∷ name_of x.1.op.byte ++ argument_text x.1.arg ++ 0x0a ∷ []

-- from the first byte to one past the last
unfoldable pub range_text : ℕ × ℕ → List ℕ
range_text r = label r.0 ++ 0x2d ∷ label r.1

-- what a clause is called
abbrev pub kind_text : HandlerKind → List ℕ
kind_text (catching t) = codes "catch"
kind_text (filtering f) = codes "filter"
kind_text finishing = codes "finally"
kind_text faulting = codes "fault"

-- a space and the class or the filter, where there is one
abbrev pub extra_text : HandlerKind → List ℕ
extra_text (catching t) = 0x20 ∷ token_text t
extra_text (filtering f) = 0x20 ∷ label f
extra_text finishing = []
extra_text faulting = []

-- the line of a clause: its kind, the protected code, the handler, and the class or the filter
unfoldable pub handler_text : Handler → List ℕ
handler_text h = 0x20 ∷ 0x20 ∷ kind_text h.kind ++ 0x20 ∷ range_text h.tries ++ 0x20 ∷ range_text h.handler
    ++ extra_text h.kind ++ 0x0a ∷ []

-- the most values on the stack, with which the line of a body's header begins
unfoldable pub stack_text : ℕ → List ℕ
stack_text n = codes "  body stack=" ++ decimal n

-- whether locals begin as zeros
unfoldable pub init_text : Bool → List ℕ
init_text true = codes " init=1"
init_text false = codes " init=0"

-- the local signature, with which it ends
unfoldable pub locals_text : Token → List ℕ
locals_text t = codes " locals=" ++ token_text t ++ 0x0a ∷ []

-- the line of a body's header
unfoldable pub header_text : ℕ → Bool → Token → List ℕ
header_text stack init locals = stack_text stack ++ init_text init ++ locals_text locals

-- the lines of a body: its header, its instructions, and its clauses
unfoldable pub body_text : Body → List ℕ
body_text b = header_text b.stack b.init b.locals ++ flat_map instruction_text b.code
    ++ flat_map handler_text b.handlers
