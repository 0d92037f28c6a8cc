-- A flight's step, as the step of a task.
use Rattle.std.proofs.Common.{◌≡◌, None, sym, ap, ◌∙◌}
use Rattle.enc_versions.specs.Version.{Version}
use Rattle.enc_vm.specs.EffectsSeen.{effect_made, effect_of_flight}
use Rattle.enc_vm.specs.FlightsSeen.{FliesTo}
use Rattle.enc_frames.specs.Handlers.{Flown}
use Rattle.enc_frames.specs.Machine.{Thread, Shared}
use Rattle.enc_vm.specs.Step.{Stepped, flight_made, stepped}
use Rattle.enc_vm.specs.declared.effect.Effect.{Effect}
use Rattle.enc_vm.specs.declared.flights.FlightEnd.{FlightEnd}
use Rattle.enc_vm.specs.declared.flights.FlightEnd.TheVariants.{Stays, Left, LeftLast}

flight_effect : (end : FlightEnd) (new old : Thread Version) (said : Flown Version) (s : Shared) → FliesTo end new old said
    → flight_made s said ≡ effect_made (effect_of_flight end) s new
flight_effect Stays new old said s h = ap (flight_made s) h
flight_effect (Left method) new old said s h = ap (flight_made s) h
flight_effect (LeftLast method) new old said s h = ap (flight_made s) h

pub flight_turn : (end : FlightEnd) (new old : Thread Version) (said : Flown Version) (effect : Effect) (s : Shared) (x : Stepped Version)
    → FliesTo end new old said → effect ≡ effect_of_flight end → stepped None (effect_made effect s new) ≡ x → stepped None (flight_made s said) ≡ x
flight_turn end new old said effect s x h is turn =
    ap (stepped None) (flight_effect end new old said s h) ∙ ap (λ (e : Effect). stepped None (effect_made e s new)) (sym is) ∙ turn
