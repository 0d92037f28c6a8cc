-- `ldstr`, and the way of an object, in the program's own world.
use Rattle.std.proofs.Common.{◌≡◌, ℕ, List, [], Option, Some, None, refl, ap, ◌∙◌}
use Rattle.std.specs.Prelude.{unwrap_or}
use Rattle.enc_base.specs.Units.{units_of}
use Rattle.enc_il.specs.Seen.{arg_seen}
use Rattle.enc_opcodes.specs.Body.{body_of, told}
use Rattle.enc_opcodes.specs.declared.code.Arg.{Arg}
use Rattle.enc_opcodes.specs.declared.code.Arg.TheVariants as arg
use Rattle.enc_opcodes.specs.declared.op.Op.{Op}
use Rattle.enc_plain.specs.Module.{Module}
use Rattle.enc_versions.specs.Version.{Version}
use Rattle.enc_frames.specs.Handlers.{fly}
use Rattle.enc_frames.specs.HandlersSeen.{own_clauses}
use Rattle.enc_frames.specs.Machine.{Thread, Shared, version_world}
use Rattle.enc_frames.specs.Memory.{load_text}
use Rattle.enc_vm.specs.Step.{flight_made, perform, stepped, stepped_with, stored}
use Rattle.enc_frames.specs.declared.handler.Flight.{Flight}

text_by : (users : ℕ → Option (List ℕ)) (m : Module) (methods : List (Option Version)) (next offset : ℕ) (op : Op) (s : Shared) (t : Thread Version)
    → perform (version_world users m methods) next op (told users (arg_seen next (arg.User offset))) s t
    ≡ stored s t (load_text t.top.code.code.max next (units_of (unwrap_or (users offset) [])) s.store t.top)
unfolding perform version_world body_of
text_by users m methods next offset op s t = refl

pub user_text : (users : ℕ → Option (List ℕ)) (m : Module) (methods : List (Option Version)) (next offset : ℕ) (op : Op) (a : Arg) (s : Shared) (t : Thread Version)
    → a ≡ arg.User offset
    → perform (version_world users m methods) next op (told users (arg_seen next a)) s t
    ≡ stored s t (load_text t.top.code.code.max next (units_of (unwrap_or (users offset) [])) s.store t.top)
user_text users m methods next offset op a s t is =
    ap (λ (b : Arg). perform (version_world users m methods) next op (told users (arg_seen next b)) s t) is ∙ text_by users m methods next offset op s t

flight_by : (users : ℕ → Option (List ℕ)) (m : Module) (methods : List (Option Version)) (s : Shared) (t : Thread Version) (f : Flight)
    → stepped_with (version_world users m methods) s t (Some f) ≡ stepped None (flight_made s (fly (own_clauses t.top) t f))
unfolding version_world body_of
flight_by users m methods s t f = refl

pub flight_step : (users : ℕ → Option (List ℕ)) (m : Module) (methods : List (Option Version)) (s : Shared) (t : Thread Version) (o : Option Flight) (f : Flight)
    → o ≡ Some f → stepped_with (version_world users m methods) s t o ≡ stepped None (flight_made s (fly (own_clauses t.top) t f))
flight_step users m methods s t o f is =
    ap (λ (x : Option Flight). stepped_with (version_world users m methods) s t x) is ∙ flight_by users m methods s t f
