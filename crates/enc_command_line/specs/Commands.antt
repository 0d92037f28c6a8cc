-- A command of the program as the job that it is.
use Rattle.std.specs.Prelude.{◌≡◌, ◌≤◌, ◌^◌, ℕ, Option, Some, None, length}
use Rattle.enc_command_line.specs.declared.command.Command.{Command}
use Rattle.enc_command_line.specs.declared.command.Number.{Number}
use Rattle.enc_command_line.specs.declared.command.Command.TheVariants.{Show, List, Check, Apply, Compact, Merge, Write, Run, Gen}
use Rattle.enc_command_line.specs.Words.{Numeral, Job, show, list, check, apply, compact, merge, write, run, gen, texts}

-- a number with its digits
abbrev pub numeral_seen : Number → Numeral
numeral_seen n = record { digits = n.digits.now; value = n.value }

abbrev pub job_seen : Command → Job
job_seen (Show base token deltas) = show base.now token (texts deltas.now)
job_seen (List base deltas) = list base.now (texts deltas.now)
job_seen (Check base deltas) = check base.now (texts deltas.now)
job_seen (Apply base out deltas) = apply base.now out.now (texts deltas.now)
job_seen (Compact base out deltas) = compact base.now out.now (texts deltas.now)
job_seen (Merge base out deltas) = merge base.now out.now (texts deltas.now)
job_seen (Write base edits out deltas) = write base.now edits.now out.now (texts deltas.now)
job_seen (Run base script) = run base.now script.now
job_seen (Gen start count out) = gen (numeral_seen start) (numeral_seen count) out.now

-- a generated case has at most 64 lists
abbrev pub HasFewLists : Command → Type 0
HasFewLists (Gen start count out) = count.value ≤ 64
HasFewLists _ = Unit {0}

-- at least two deltas are merged
abbrev pub HasTwoDeltas : Command → Type 0
HasTwoDeltas (Merge base out deltas) = 2 ≤ length deltas.now
HasTwoDeltas _ = Unit {0}

-- a number of 64 bits, none where it has more
abbrev pub IsValue : Option ℕ → ℕ → Type 0
IsValue (Some n) value = n ≡ value
IsValue None value = 2 ^ 64 ≤ value
