-- What the code of a stated body says: its instructions, and where each of them begins.
use Rattle.std.specs.Prelude.{ℕ, ◌^◌, List, map, Option, Some, None, option_map, nat_lt, slice_get, if◌then◌else◌}
use Rattle.serde_json.specs.Data.{Data}
use Rattle.enc_opcodes.specs.Instruction.{◌>>=◌}
use Rattle.enc_edit_list.specs.declared.body.ArgValue.{ArgValue}
use Rattle.enc_edit_list.specs.declared.body.ArgValue.TheVariants as arg
use Rattle.enc_edit_list.specs.declared.body.InstrValue.{InstrValue}
use Rattle.enc_edit_list.specs.Sizes.{length_of_code, placed}
use Rattle.enc_jobs.specs.declared.code.Offsets.{Offsets}
use Rattle.enc_jobs.specs.declared.code.InstrCode.{InstrCode}
use Rattle.enc_jobs.specs.Json.{elements_of}
use Rattle.enc_jobs.specs.Lists.{every}
use Rattle.enc_jobs.specs.Instr.{instr_said}

-- an offset is at most 2^32 - 1
abbrev pub within_word : ℕ → Option ℕ
within_word n = if nat_lt n (2 ^ 32) then Some n else None

-- where the instructions begin, and where the last ends; where their targets are doesn't matter
unfoldable pub offsets_of : List InstrValue → Option Offsets
offsets_of code = option_map (λ size. record { starts = map (λ x. x.0) (placed 0 code); size = size })
    (within_word (length_of_code code))

-- an argument with the offsets of its targets for their indices
unfoldable pub arg_placed : List ℕ → ArgValue → Option ArgValue
arg_placed starts (arg.Target i) = option_map arg.Target (slice_get starts i)
arg_placed starts (arg.Targets is) = option_map arg.Targets (every (slice_get starts) is)
arg_placed starts a = Some a

-- an instruction with the offsets of its targets for their indices
unfoldable pub instr_placed : List ℕ → InstrValue → Option InstrValue
instr_placed starts i = option_map (λ a. record { op = i.op; arg = a }) (arg_placed starts i.arg)

-- the instructions with the offsets of their targets
unfoldable pub code_said : Data → Option InstrCode
code_said d = do
  items ← elements_of d
  stated ← every instr_said items
  offsets ← offsets_of stated
  instrs ← every (instr_placed offsets.starts) stated
  Some (record { offsets = offsets; instrs = instrs })
