-- A method's body: where its parts stand, what it means, and when it is good (ECMA-335 II.25.4, III.1.7).
use Rattle.std.specs.Prelude.{◌≡◌, ℕ, ◌+◌, ◌-◌, ◌/◌, ◌%◌, ◌^◌, Bool, true, false, not, ◌&&◌, ◌||◌, List, [], ◌∷◌, length, map, take, drop, Option, Some, None, option_map, option_and_then, unwrap_or, is_some, nat_le, nat_lt, ◌==◌, if◌then◌else◌}
use Rattle.std.specs.List.{list_any, list_all}
use Rattle.std.specs.Int.{w8, w16, w32}
use Rattle.enc_base.specs.Numbers.{little_endian_at, padded, has_flag}
use Rattle.enc_base.specs.Token.{token_of, nil}
use Rattle.enc_base.specs.Units.{units_of}
use Rattle.enc_base.specs.declared.token.Token.{Token}
use Rattle.enc_base.specs.Tables.{type_ref, type_def, field, method_def, member_ref, stand_alone_sig, type_spec, method_spec}
use Rattle.enc_opcodes.specs.declared.op.Operand.{Operand}
use Rattle.enc_opcodes.specs.declared.op.Operand.TheVariants as operand
use Rattle.enc_opcodes.specs.declared.code.Clause.{Clause}
use Rattle.enc_opcodes.specs.declared.code.CodeRef.{CodeRef}
use Rattle.enc_opcodes.specs.Instruction.{Argument, nothing, number, target, targets, token, text, raw, Instruction, ◌>>=◌, range_at, instructions_of, end_of}
use Rattle.enc_opcodes.specs.Clause.{Section, sections_in, clauses_of}

-- the parts of a body as they stand in a file: the most values on the stack, the init flag, the local signature, the
-- code, the data sections
pub record Code : Type 0 where
  pub max : ℕ
  pub init : Bool
  pub locals : Token
  pub code : List ℕ
  pub sections : List ℕ

abbrev pub code_seen : CodeRef → Code
code_seen c = record { max = c.max; init = c.init; locals = c.locals; code = c.code.now; sections = c.sections.now }

-- a token of row 0 names nothing
abbrev pub nil_or : Token → Token
nil_or t = if t.row == 0 then nil else t

-- a tiny header: the code's size in its upper six bits
abbrev pub tiny_at : List ℕ → ℕ → ℕ → Option Code
tiny_at bytes at size =
    option_map (λ (code : List ℕ). record { max = 8; init = false; locals = nil; code = code; sections = [] })
    (range_at bytes (at + 1) size)

-- the bytes of the sections at the front, up to the end of the last
unfoldable pub sections_at : List ℕ → Option (List ℕ)
sections_at bytes = option_map (λ (x : List Section × List ℕ). take (length bytes - length x.1) bytes)
    (sections_in (length bytes) bytes)

-- sections of fewer than 2^32 bytes, as code has by its size of four bytes; longer ones are none
abbrev pub if_short : List ℕ → Option (List ℕ)
if_short sections = if nat_lt (length sections) (2 ^ 32) then Some sections else None

-- the sections behind the code, where a flag says that there are any
abbrev pub sections_behind : List ℕ → ℕ → Bool → Option (List ℕ)
sections_behind bytes at more = if more then option_and_then if_short (sections_at (drop at bytes)) else Some []

-- a fat header of twelve bytes: flags and in their top four bits its size in fours, the most values on the stack,
-- the code's size, the local signature
unfoldable pub fat_at : List ℕ → ℕ → Option Code
fat_at bytes at = do
  flags ← little_endian_at w16 bytes at
  max ← little_endian_at w16 bytes (at + 2)
  size ← little_endian_at w32 bytes (at + 4)
  locals ← little_endian_at w32 bytes (at + 8)
  code ← range_at bytes (at + 12) size
  sections ← sections_behind bytes (at + 12 + padded size) (has_flag 8 flags)
  if flags / 0x1000 == 3 then Some (record {
    max = max;
    init = has_flag 0x10 flags;
    locals = nil_or (token_of locals);
    code = code;
    sections = sections;
  })
      else None

-- the body whose header stands at a place of the bytes, which is this place of the image or of the delta's code: a
-- multiple of four for a fat one
unfoldable pub body_at : List ℕ → ℕ → ℕ → Option Code
body_at bytes at place = do
  first ← little_endian_at w8 bytes at
  if first % 4 == 2 then tiny_at bytes at (first / 4) else if first % 4 == 3 && place % 4 == 0 then fat_at bytes at
      else None

-- what a clause is for: exceptions of a class, those that a filter takes, the end of the protected code in any case,
-- or by an exception
pub data HandlerKind : Type 0 where
  catching : Token → HandlerKind
  filtering : ℕ → HandlerKind
  finishing : HandlerKind
  faulting : HandlerKind

-- a clause: its kind, the protected code and the handler, each from its first byte to one past its last
pub record Handler : Type 0 where
  pub kind : HandlerKind
  pub tries : ℕ × ℕ
  pub handler : ℕ × ℕ

-- a body: the most values on the stack, the init flag, the local signature, the code's size, the instructions with
-- their offsets, and the clauses
pub record Body : Type 0 where
  pub stack : ℕ
  pub init : Bool
  pub locals : Token
  pub size : ℕ
  pub code : List (ℕ × Instruction (List ℕ))
  pub handlers : List Handler

abbrev pub kind_meant : ℕ → ℕ → HandlerKind
kind_meant kind extra = if kind == 4 then faulting else if kind == 2 then finishing else if kind == 1
    then filtering extra else catching (token_of extra)

abbrev pub handler_meant : Clause → Handler
handler_meant c = record { kind = kind_meant c.kind c.extra; tries = c.tries; handler = c.handler }

-- the argument with each user text by its units, none where there is no such text; texts are told by the bytes of
-- their units
abbrev pub told : (ℕ → Option (List ℕ)) → Argument ℕ → Argument (List ℕ)
told texts nothing = nothing
told texts (number n) = number n
told texts (target t) = target t
told texts (targets ts) = targets ts
told texts (token t) = token t
told texts (text offset) = text (units_of (unwrap_or (texts offset) []))
told texts (raw bytes) = raw bytes

abbrev pub instruction_told : (ℕ → Option (List ℕ)) → ℕ × Instruction ℕ → ℕ × Instruction (List ℕ)
instruction_told texts x = (x.0, record { op = x.1.op; arg = told texts x.1.arg })

-- the body that its parts mean, with these user texts
unfoldable pub body_of : (ℕ → Option (List ℕ)) → Code → Body
body_of texts c = record {
  stack = c.max;
  init = c.init;
  locals = c.locals;
  size = length c.code;
  code = map (instruction_told texts) (instructions_of c.code);
  handlers = map handler_meant (clauses_of c.sections);
}

-- the tables whose rows an instruction may name
abbrev pub may_name : ℕ → Bool
may_name table = list_any (λ t. t == table)
    (type_ref ∷ type_def ∷ field ∷ method_def ∷ member_ref ∷ stand_alone_sig ∷ type_spec ∷ method_spec ∷ [])

-- a row of such a table, by the number of rows of each table
unfoldable pub is_named : (ℕ → ℕ) → Token → Bool
is_named count t = may_name t.table && nat_le 1 t.row && nat_le t.row (count t.table)

-- an instruction begins at the offset
unfoldable pub is_instruction_start : List (ℕ × Instruction ℕ) → ℕ → Bool
is_instruction_start all t = list_any (λ (x : ℕ × Instruction ℕ). x.0 == t) all

abbrev pub is_user : Operand → Bool
is_user operand.User = true
is_user _ = false

-- targets are instructions' offsets, tokens are rows, and that of a user text is one
abbrev pub arg_is_good : (ℕ → ℕ) → (ℕ → Bool) → Operand → Argument ℕ → Bool
arg_is_good count starts o (target t) = starts t
arg_is_good count starts o (targets ts) = list_all starts ts
arg_is_good count starts o (token t) = not (is_user o) && is_named count t
arg_is_good count starts o _ = true

unfoldable pub instruction_is_good : (ℕ → ℕ) → (ℕ → Bool) → ℕ × Instruction ℕ → Bool
instruction_is_good count starts x = arg_is_good count starts x.1.op.operand x.1.arg

-- a range begins at an instruction, and ends at one or with the code, and not before it begins
abbrev pub range_is_good : (ℕ → Bool) → ℕ → ℕ × ℕ → Bool
range_is_good starts size r = starts r.0 && nat_le r.0 r.1 && (starts r.1 || r.1 == size)

abbrev pub extra_is_good : (ℕ → ℕ) → (ℕ → Bool) → ℕ → ℕ → Bool
extra_is_good count starts kind extra =
    if kind == 0 then is_named count (token_of extra) else if kind == 1 then starts extra else kind == 2 || kind == 4

unfoldable pub clause_is_good : (ℕ → ℕ) → (ℕ → Bool) → ℕ → Clause → Bool
clause_is_good count starts size c = range_is_good starts size c.tries && range_is_good starts size c.handler
    && extra_is_good count starts c.kind c.extra

-- the local signature is nil or a row of StandAloneSig
unfoldable pub locals_are_good : (ℕ → ℕ) → Token → Bool
locals_are_good count t = t.row == 0 || t.table == stand_alone_sig && nat_le t.row (count stand_alone_sig)

-- a body is good, by the numbers of rows and apart from heaps: its code is whole instructions, and each of them,
-- each clause and the local signature are good
unfoldable pub is_good : (ℕ → ℕ) → Code → Bool
is_good count c =
    end_of c.code 0 == length c.code
    && list_all (instruction_is_good count (is_instruction_start (instructions_of c.code))) (instructions_of c.code)
    && list_all (clause_is_good count (is_instruction_start (instructions_of c.code)) (length c.code))
    (clauses_of c.sections)
    && locals_are_good count c.locals

-- the user text that an argument names is there
abbrev pub text_is_there : (ℕ → Option (List ℕ)) → Argument ℕ → Bool
text_is_there texts (text offset) = is_some (texts offset)
text_is_there texts _ = true

-- texts that are there stay there
abbrev pub KeepsTexts : (ℕ → Option (List ℕ)) → (ℕ → Option (List ℕ)) → Type 0
KeepsTexts texts more = (offset : ℕ) (units : List ℕ) → texts offset ≡ Some units → more offset ≡ Some units

-- each user text that the code names is there
unfoldable pub texts_are_there : (ℕ → Option (List ℕ)) → List ℕ → Bool
texts_are_there texts code = list_all (λ (x : ℕ × Instruction ℕ). text_is_there texts x.1.arg) (instructions_of code)

-- a local signature begins with the byte 07 (II.23.2.6)
abbrev pub begins_locals : List ℕ → Bool
begins_locals [] = false
begins_locals (b ∷ rest) = b == 0x07
