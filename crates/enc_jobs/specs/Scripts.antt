-- Scripts: what a run does, command by command.
use Rattle.std.specs.Prelude.{ℕ, Bool, ◌&&◌, ◌||◌, ◌==◌, List, [], ◌∷◌, length, Option, Some, None, Result, Err, bytes_eq, codes, nat_le, nat_lt, if◌then◌else◌}
use Rattle.std.specs.List.{list_all}
use Rattle.serde_json.specs.Data.{Data}
use Rattle.serde_json.specs.Find.{get, as_str}
use Rattle.enc_opcodes.specs.Instruction.{◌>>=◌}
use Rattle.enc_watch.specs.declared.event.WatchKind.{WatchKind}
use Rattle.enc_watch.specs.declared.event.WatchKind.TheVariants as watch
use Rattle.enc_jobs.specs.declared.command.Command.{Command}
use Rattle.enc_jobs.specs.declared.command.Command.TheVariants.{Spawn, Step, Apply, Attach, Detach, Remap, State}
use Rattle.enc_jobs.specs.declared.fault.JobFault.{JobFault}
use Rattle.enc_jobs.specs.declared.fault.JobFault.TheVariants.{J1, J2, L3}
use Rattle.enc_jobs.specs.Edits.{json_value}
use Rattle.enc_jobs.specs.Json.{elements_of, has_only, pair_said, word_said, number_said, token_said}
use Rattle.enc_jobs.specs.Lists.{every, read_in_turn}

-- as many commands as a script has, and as many steps as one command makes
abbrev pub most_commands : ℕ
most_commands = 100000

abbrev pub most_steps : ℕ
most_steps = 1000000

-- as many pairs as a map has
abbrev pub most_pairs : ℕ
most_pairs = 65536

-- a task begins with a method
unfoldable pub spawn_said : Data → Option Command
spawn_said d = if has_only (codes "do" ∷ codes "method" ∷ []) d then (do
  method ← get (codes "method") d >>= token_said
  Some (Spawn method)) else None

-- so many steps of a task, one at least
abbrev pub step_of : ℕ → ℕ → Option Command
step_of task count = if nat_le 1 count then Some (Step task count) else None

unfoldable pub step_said : Data → Option Command
step_said d = if has_only (codes "do" ∷ codes "task" ∷ codes "count" ∷ []) d then (do
  task ← get (codes "task") d >>= word_said
  count ← get (codes "count") d >>= number_said most_steps
  step_of task count) else None

-- an ASCII letter, a digit, or one of _ - . /
abbrev pub is_name_byte : ℕ → Bool
is_name_byte b =
    (nat_le 0x61 b && nat_le b 0x7a) || (nat_le 0x41 b && nat_le b 0x5a) || (nat_le 0x30 b && nat_le b 0x39) ||
    b == 0x5f || b == 0x2d || b == 0x2e || b == 0x2f

-- 1 to 200 of these bytes
unfoldable pub is_name : List ℕ → Bool
is_name text = nat_le 1 (length text) && nat_le (length text) 200 && list_all is_name_byte text

-- a name
unfoldable pub name_said : Data → Option (List ℕ)
name_said d = do
  text ← as_str d
  if is_name text then Some text else None

-- a delta is applied
unfoldable pub apply_said : Data → Option Command
apply_said d = if has_only (codes "do" ∷ codes "delta" ∷ []) d then (do
  delta ← get (codes "delta") d >>= name_said
  Some (Apply delta)) else None

-- a kind of watcher, by its name
abbrev pub watcher_named : List ℕ → Option WatchKind
watcher_named name =
    if bytes_eq name (codes "trace") then Some watch.Trace
    else if bytes_eq name (codes "cover") then Some watch.Cover
    else if bytes_eq name (codes "failing") then Some watch.Failing
    else None

unfoldable pub watcher_said : Data → Option WatchKind
watcher_said d = as_str d >>= watcher_named

-- a watcher begins to hear
unfoldable pub attach_said : Data → Option Command
attach_said d = if has_only (codes "do" ∷ codes "watcher" ∷ []) d then (do
  kind ← get (codes "watcher") d >>= watcher_said
  Some (Attach kind)) else None

-- the watcher with a number hears no more
unfoldable pub detach_said : Data → Option Command
detach_said d = if has_only (codes "do" ∷ codes "number" ∷ []) d then (do
  n ← get (codes "number") d >>= word_said
  Some (Detach n)) else None

-- a map from offsets to offsets: pairs, in order
abbrev pub pairs_of_items : List Data → Option (List (ℕ × ℕ))
pairs_of_items items = if nat_lt most_pairs (length items) then None else every pair_said items

unfoldable pub map_said : Data → Option (List (ℕ × ℕ))
map_said d = elements_of d >>= pairs_of_items

-- the innermost frame of a task goes on in the newest body of its method
unfoldable pub remap_said : Data → Option Command
remap_said d = if has_only (codes "do" ∷ codes "task" ∷ codes "map" ∷ []) d then (do
  task ← get (codes "task") d >>= word_said
  pairs ← get (codes "map") d >>= map_said
  Some (Remap task pairs)) else None

-- the state is shown
unfoldable pub state_said : Data → Option Command
state_said d = if has_only (codes "do" ∷ []) d then Some State else None

-- a command of one of the kinds
abbrev pub command_of_kind : Data → List ℕ → Option Command
command_of_kind d kind =
    if bytes_eq kind (codes "spawn") then spawn_said d
    else if bytes_eq kind (codes "step") then step_said d
    else if bytes_eq kind (codes "apply") then apply_said d
    else if bytes_eq kind (codes "attach") then attach_said d
    else if bytes_eq kind (codes "detach") then detach_said d
    else if bytes_eq kind (codes "remap") then remap_said d
    else if bytes_eq kind (codes "state") then state_said d
    else None

-- a command, its kind by its name
unfoldable pub command_said : Data → Option Command
command_said d = (get (codes "do") d >>= as_str) >>= command_of_kind d

-- the commands of an array, of which there may not be too many
abbrev pub commands_of_items : Option (List Data) → Result (List Command) JobFault
commands_of_items None = Err (J2 0)
commands_of_items (Some items) =
    if nat_lt most_commands (length items) then Err L3 else read_in_turn command_said 1 items

-- a text that has no value is no JSON
abbrev pub commands_of_value : Option Data → Result (List Command) JobFault
commands_of_value None = Err J1
commands_of_value (Some d) = commands_of_items (elements_of d)

-- the script that a text says
unfoldable pub script_said : List ℕ → Result (List Command) JobFault
script_said text = commands_of_value (json_value text)
