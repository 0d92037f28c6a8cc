-- What the values of bodies, sections and instructions stand for.
use Rattle.std.specs.Prelude.{ℕ, List, length, Option, Some, None, option_map, Result, Ok, Err}
use Rattle.std.specs.Borrow.{Bor}
use Rattle.enc_opcodes.specs.declared.code.Arg.{Arg}
use Rattle.enc_opcodes.specs.declared.code.Arg.TheVariants as arg
use Rattle.enc_opcodes.specs.declared.code.Instr.{Instr}
use Rattle.enc_opcodes.specs.declared.code.CodeRef.{CodeRef}
use Rattle.enc_opcodes.specs.Instruction.{Argument, nothing, number, target, targets, token, text, raw, Instruction, all_reached}
use Rattle.enc_opcodes.specs.Clause.{Section, sections_in}
use Rattle.enc_opcodes.specs.Body.{Code, code_seen}
use Rattle.enc_il.specs.declared.body.BodyFault.{BodyFault}
use Rattle.enc_il.specs.declared.section.SectionRef.{SectionRef}

-- the parts that were read, none where they were refused
abbrev pub body_seen : Result CodeRef BodyFault → Option Code
body_seen (Ok c) = Some (code_seen c)
body_seen (Err e) = None

-- a section and the bytes behind it
abbrev pub section_seen : SectionRef × Bor (List ℕ) → Section × List ℕ
section_seen x = (record { fat = x.0.fat; more = x.0.more; count = x.0.count; clauses = x.0.clauses.now }, x.1.now)

-- the sections at the front and the bytes behind the last, none where one of them isn't whole
abbrev pub all_sections : List ℕ → Option (List Section × List ℕ)
all_sections bytes = sections_in (length bytes) bytes

abbrev pub behind_all : List ℕ → Option (List ℕ)
behind_all bytes = option_map (λ (x : List Section × List ℕ). x.1) (all_sections bytes)

-- an argument by the end of its instruction, from which a `switch` counts
abbrev pub arg_seen : ℕ → Arg → Argument ℕ
arg_seen end arg.None = nothing
arg_seen end (arg.Num n) = number n
arg_seen end (arg.Target t) = target t
arg_seen end (arg.Targets distances) = targets (all_reached end distances.now)
arg_seen end (arg.Token t) = token t
arg_seen end (arg.User offset) = text offset
arg_seen end (arg.Raw bytes) = raw bytes.now

-- an operand and the place behind it
abbrev pub operand_seen : Arg × ℕ → Argument ℕ × ℕ
operand_seen x = (arg_seen x.1 x.0, x.1)

-- an instruction and the offset behind it
abbrev pub instr_seen : Instr × ℕ → Instruction ℕ × ℕ
instr_seen x = (record { op = x.0.op; arg = arg_seen x.1 x.0.arg }, x.1)
