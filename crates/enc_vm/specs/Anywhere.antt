-- Frames whose offsets are places of instructions, whatever the user texts are.
use Rattle.std.specs.Prelude.{ℕ, List, Option}
use Rattle.enc_plain.specs.Module.{Module}
use Rattle.enc_versions.specs.Version.{Version}
use Rattle.enc_frames.specs.Machine.{Task, version_world}
use Rattle.enc_vm.specs.Placed.{AreTasksPlaced}

abbrev pub ArePlacedAnywhere : List (Task Version) → Type 0
ArePlacedAnywhere tasks = (users : ℕ → Option (List ℕ)) (m : Module) (methods : List (Option Version))
    → AreTasksPlaced (version_world users m methods) tasks
