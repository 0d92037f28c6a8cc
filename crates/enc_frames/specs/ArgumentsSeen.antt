-- The arguments of a call, as they are taken and fitted.
use Rattle.std.specs.Prelude.{◌≡◌, List, length, Result, Ok, Err, Vec}
use Rattle.std.specs.Borrow.{Bor}
use Rattle.std.specs.declared.alloc.Global.{Global}
use Rattle.enc_objects.specs.declared.kind.Kind.{Kind}
use Rattle.enc_objects.specs.declared.trap.Trap.{Trap}
use Rattle.enc_objects.specs.declared.value.Value.{Value}
use Rattle.enc_frames.specs.Values.{arguments}
use Rattle.enc_frames.specs.Results.{◌>>=◌}
use Rattle.enc_frames.specs.Values.{fit_all}
use Rattle.enc_frames.specs.declared.stop.Stop.{Stop}
use Rattle.enc_frames.specs.declared.stop.Stop.TheVariants as stop

-- values from the top of a stack, as places of these kinds hold them
abbrev pub fitting : List Kind → List Value → Result (List Value) Trap
fitting kinds stack = arguments (length kinds) stack >>= λ taken. fit_all kinds taken

-- values where they stand on a stack
abbrev pub taken_seen : Result (Bor (List Value)) Trap → Result (List Value) Trap
taken_seen (Ok values) = Ok values.now
taken_seen (Err trap) = Err trap

-- a list is what is defined, or the trap is
abbrev pub GivesItems : Result (Vec Value Global) Stop → Result (List Value) Trap → Type 0
GivesItems (Ok l) said = said ≡ Ok l.items
GivesItems (Err (stop.Trap trap)) said = said ≡ Err trap
GivesItems (Err stop.Memory) said = Unit {0}
