-- The lines of a step, by what happens.
use Rattle.std.specs.Prelude.{ℕ, List, [], ◌∷◌, ◌++◌, Option, Some, None, codes, decimal}
use Rattle.enc_objects.specs.declared.trap.Trap.{Trap}
use Rattle.enc_text.specs.Text.{quoted}
use Rattle.enc_text.specs.BodyText.{label, utf8_of}
use Rattle.enc_watch.specs.Watched.{trap_code_text}
use Rattle.enc_frames.specs.Machine.{Frame}
use Rattle.enc_vm.specs.Step.{Ending, ran, done, stopped}

-- a line of a task: its number, and what is said of it
unfoldable pub task_line : ℕ → List ℕ → List ℕ
task_line task said = codes "task " ++ decimal task ++ 0x20 ∷ said ++ 0x0a ∷ []

-- the line of what a step writes, none where it writes nothing
abbrev pub written_line : ℕ → Option (List ℕ) → List ℕ
written_line task None = []
written_line task (Some units) = task_line task (codes "writes " ++ quoted (utf8_of units))

-- the line of a trap, with the offset of the instruction that trapped
unfoldable pub trapped_line : ℕ → Trap → ℕ → List ℕ
trapped_line task x offset = task_line task (codes "trapped " ++ trap_code_text x ++ 0x20 ∷ label offset)

-- the line of how a step ended, none where the task goes on; a trap is told with where the innermost frame stands
abbrev pub ending_line : {C : Type 0} → ℕ → Ending → Option (Frame C) → List ℕ
ending_line task ran innermost = []
ending_line task done innermost = task_line task (codes "ended")
ending_line task (stopped x) None = []
ending_line task (stopped x) (Some f) = trapped_line task x f.offset
