-- For the contracts of private functions: what a flight's step makes of frames that are changed in place.
use Rattle.std.specs.Prelude.{◌≡◌, Some, None, Result, Ok, Err}
use Rattle.enc_versions.specs.Version.{Version}
use Rattle.enc_frames.specs.Handlers.{Flown}
use Rattle.enc_frames.specs.Machine.{Thread}
use Rattle.enc_frames.specs.declared.stop.Stop.{Stop}
use Rattle.enc_vm.specs.declared.flights.FlightEnd.{FlightEnd}
use Rattle.enc_vm.specs.declared.flights.FlightEnd.TheVariants.{Stays, Left, LeftLast}

-- the frames are what is defined, and the end tells the method that was left; where the last frame was left nothing
-- is said of the frames
abbrev pub FliesTo : FlightEnd → Thread Version → Thread Version → Flown Version → Type 0
FliesTo Stays new old said = said ≡ record { thread = Some new; left = None }
FliesTo (Left method) new old said = said ≡ record { thread = Some new; left = Some method }
FliesTo (LeftLast method) new old said = said ≡ record { thread = None; left = Some method }

-- without memory nothing has changed
abbrev pub Flies : Result FlightEnd Stop → Thread Version → Thread Version → Flown Version → Type 0
Flies (Ok end) new old said = FliesTo end new old said
Flies (Err stop) new old said = new ≡ old
