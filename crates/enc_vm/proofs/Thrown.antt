-- Thrown objects in the program's own world.
use Rattle.std.proofs.Common.{◌≡◌, ℕ, List, length, Option, Some, None, Result, Ok, Err, refl, sym}
use Rattle.std.specs.Prelude.{option_map, if◌then◌else◌}
use Rattle.enc_base.specs.Order.{or_else}
use Rattle.enc_objects.specs.Objects.{Store, shape_in}
use Rattle.enc_objects.specs.declared.trap.Trap.{Trap}
use Rattle.enc_objects.specs.declared.trap.Trap.TheVariants.{X14}
use Rattle.enc_objects.specs.declared.value.Value.{Value}
use Rattle.enc_opcodes.specs.Body.{body_of}
use Rattle.enc_plain.specs.Module.{Module}
use Rattle.enc_unwind.specs.Search.{catch_among}
use Rattle.enc_unwind.specs.declared.thrown.Thrown.{Thrown}
use Rattle.enc_versions.specs.Version.{Version}
use Rattle.enc_vm.proofs.Called.{in_turn}
use Rattle.enc_frames.specs.Handlers.{ends_search, outer_taker, taker, thrown_of, flight_to, throw_object}
use Rattle.enc_vm.proofs.Called.{in_turn}
use Rattle.enc_frames.specs.HandlersSeen.{own_clauses}
use Rattle.enc_frames.specs.Machine.{World, Frame, Thread, version_world}
use Rattle.enc_frames.specs.Memory.{not_null}
use Rattle.enc_frames.specs.Results.{◌>>=◌, or_trap}
use Rattle.enc_vm.specs.ThrowSeen.{thrown_object}
use Rattle.enc_frames.specs.Values.{upper, reference}

-- the innermost frame decides before those below it
pub taker_is : (users : ℕ → Option (List ℕ)) (m : Module) (methods : List (Option Version)) (thrown : Thrown) (f : Frame Version) (below : List (Frame Version))
    → taker (version_world users m methods) thrown f below
    ≡ or_else (option_map (λ (clause : ℕ). (length below, clause)) (catch_among m f.code.code.max (own_clauses f) f.offset thrown))
    (if ends_search m f then None else outer_taker (version_world users m methods) thrown below)
unfolding version_world body_of
taker_is users m methods thrown f below = refl

-- an object is on its way, where a clause takes it
abbrev pub thrown_on : World Version → Store → Thread Version → ℕ → Result (Thread Version) Trap
thrown_on w s t id =
    or_trap X14 (taker w (thrown_of (shape_in s id)) t.top t.below) >>= λ target. Ok (record t { flight = Some (flight_to id t.top.offset target) })

by_object : (w : World Version) (s : Store) (t : Thread Version) (r : Result Value Trap)
    → (r >>= λ p. reference p >>= λ o. not_null o >>= thrown_on w s t) ≡ ((r >>= λ p. reference p >>= not_null) >>= thrown_on w s t)
by_object w s t (Err x) = refl
by_object w s t (Ok p) = sym (in_turn (reference p) not_null (thrown_on w s t))

-- throw, by the object that is thrown
pub throw_is : (users : ℕ → Option (List ℕ)) (m : Module) (methods : List (Option Version)) (s : Store) (t : Thread Version)
    → throw_object (version_world users m methods) s t
    ≡ (thrown_object t.top.stack >>= λ id. or_trap X14 (taker (version_world users m methods) (thrown_of (shape_in s id)) t.top t.below) >>= λ target.
    Ok (record t { flight = Some (flight_to id t.top.offset target) }))
unfolding throw_object
throw_is users m methods s t = by_object (version_world users m methods) s t (upper t.top.stack)
