-- For the contracts of private functions: what a step stands on.
use Rattle.std.specs.Prelude.{ℕ, List, Option}
use Rattle.enc_dispatch.specs.Index.{StandsForModule}
use Rattle.enc_dispatch.specs.Stored.{DispatchParts}
use Rattle.enc_plain.specs.Module.{Module}
use Rattle.enc_versions.specs.Version.{Version}
use Rattle.enc_frames.specs.Machine.{World, version_world}
use Rattle.enc_vm.specs.CallsSeen.{AreBodiesOf}

-- the view of a module, and the newest versions of its methods
pub record Standing (V : Type 0) : Type 0 where
  pub view : V
  pub methods : List (Option Version)

-- the versions and the index of virtual calls are those of the module
pub record IsStanding (users : ℕ → Option (List ℕ)) (m : Module) (methods : List (Option Version))
    (d : DispatchParts) : Type 0 where
  pub bodies : AreBodiesOf users m methods
  pub stands : StandsForModule d m

-- what its frames see
abbrev pub world_in : {V : Type 0} → (V → ℕ → Option (List ℕ)) → (V → Module) → Standing V → World Version
world_in users meaning w = version_world (users w.view) (meaning w.view) w.methods
