-- What an instruction does to what it changes in place.
use Rattle.std.specs.Prelude.{◌≡◌, Result, Ok, Err}
use Rattle.enc_objects.specs.declared.objects.MakeFault.{MakeFault}
use Rattle.enc_objects.specs.declared.objects.MakeFault.TheVariants.{Memory, Full}
use Rattle.enc_objects.specs.declared.trap.Trap.{Trap}
use Rattle.enc_objects.specs.declared.trap.Trap.TheVariants.{X12}
use Rattle.enc_frames.specs.declared.stop.Stop.{Stop}
use Rattle.enc_frames.specs.declared.stop.Stop.TheVariants as stop

-- it does what is defined, or traps where that does, and then changes nothing; without memory it changes nothing
abbrev pub Does : {U A : Type 0} → Result U Stop → A → A → Result A Trap → Type 0
Does (Ok u) new old said = said ≡ Ok new
Does (Err (stop.Trap trap)) new old said = (said ≡ Err trap) × (new ≡ old)
Does (Err stop.Memory) new old said = new ≡ old

-- it gives what is defined, or traps where that does; without memory it gives nothing
abbrev pub GivesOrStops : {A : Type 0} → Result A Stop → Result A Trap → Type 0
GivesOrStops (Ok x) said = said ≡ Ok x
GivesOrStops (Err (stop.Trap trap)) said = said ≡ Err trap
GivesOrStops (Err stop.Memory) said = Unit {0}

-- why there is no new object
abbrev pub stop_by : MakeFault → Stop
stop_by Memory = stop.Memory
stop_by Full = stop.Trap X12
