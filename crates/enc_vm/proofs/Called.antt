-- Calls, by their arguments.
use Rattle.std.proofs.Common.{◌≡◌, ℕ, Bool, true, false, List, length, Option, Some, None, Result, Ok, Err, refl, sym, ap}
use Rattle.std.specs.Prelude.{◌==◌, option_map, option_and_then, reverse, if◌then◌else◌}
use Rattle.enc_base.specs.declared.token.Token.{Token}
use Rattle.enc_plain.specs.ClassPath.{before_class}
use Rattle.enc_dispatch.specs.Target.{walk_down, class_target, from_interface, first_given, interface_target, is_interface, declared_target, target_of}
use Rattle.enc_machine_types.specs.Elements.{CallShape}
use Rattle.enc_objects.specs.declared.trap.Trap.{Trap}
use Rattle.enc_plain.specs.Module.{Module, has_row, owner_of}
use Rattle.enc_plain.specs.Sound.{row_count}
use Rattle.enc_base.specs.Tables as tables
use Rattle.enc_versions.specs.Version.{Version}
use Rattle.enc_frames.specs.ArgumentsSeen.{fitting}
use Rattle.enc_frames.specs.Values.{arguments}
use Rattle.enc_vm.specs.Calls.{call_with}
use Rattle.enc_vm.specs.CallsSeen.{called_on}
use Rattle.enc_frames.specs.Machine.{Thread, Shared, version_world}
use Rattle.enc_frames.specs.Results.{◌>>=◌}
use Rattle.enc_frames.specs.Straight.{argument_kinds}
use Rattle.enc_frames.specs.Values.{fit_all}
use Rattle.enc_frames.proofs.Climbs.{no_climb}

pub in_turn : {A B D : Type 0} (r : Result A Trap) (f : A → Result B Trap) (g : B → Result D Trap) → ((r >>= f) >>= g) ≡ (r >>= λ x. (f x >>= g))
in_turn (Ok x) f g = refl
in_turn (Err t) f g = refl

-- a call is one with the arguments that fit
pub call_with_is : (users : ℕ → Option (List ℕ)) (m : Module) (methods : List (Option Version)) (asks virtual : Bool) (next : ℕ) (method : Token) (shape : CallShape)
    (t : Thread Version) (s : Shared)
    → call_with (version_world users m methods) asks virtual next method shape t s
    ≡ (fitting (argument_kinds shape) t.top.stack >>= λ args.
    called_on (version_world users m methods) m asks virtual next (length (argument_kinds shape)) method args t s)
unfolding call_with version_world
call_with_is users m methods asks virtual next method shape t s =
    sym (in_turn (arguments (length (argument_kinds shape)) t.top.stack) (λ taken. fit_all (argument_kinds shape) taken)
    (λ args. called_on (version_world users m methods) m asks virtual next (length (argument_kinds shape)) method args t s))

no_class_target : (m : Module) (class declaring declared : Token) → has_row m class ≡ false → class_target m class declaring declared ≡ None
unfolding class_target before_class
no_class_target m class declaring declared h =
    ap (λ (path : List Token). option_map (λ (below : List Token). walk_down m declared (reverse below) declared) (before_class declaring path))
    (no_climb m (row_count m tables.type_def) class h)

no_interface_target : (m : Module) (class interface declared : Token) → has_row m class ≡ false → interface_target m class interface declared ≡ None
unfolding interface_target from_interface first_given
no_interface_target m class interface declared h =
    ap (λ (path : List Token). option_and_then (λ (g : Token × Token). class_target m class g.0 g.1) (first_given m declared (from_interface m interface path)))
    (no_climb m (row_count m tables.type_def) class h)

by_type : {A : Type 0} (b : Bool) (x y : Option A) → x ≡ None → y ≡ None → (if b then x else y) ≡ None
by_type true x y e f = e
by_type false x y e f = f

no_target_by : (m : Module) (class method : Token) (o : Option Token) → has_row m class ≡ false → option_and_then (declared_target m class method) o ≡ None
unfolding declared_target
no_target_by m class method None h = refl
no_target_by m class method (Some owner) h =
    by_type (is_interface m owner) (interface_target m class owner method) (class_target m class owner method)
    (no_interface_target m class owner method h) (no_class_target m class owner method h)

-- what is no row has no methods
pub no_target : (m : Module) (class method : Token) → has_row m class ≡ false → target_of m class method ≡ None
unfolding target_of
no_target m class method h =
    by_type (method.table == tables.method_def) (option_and_then (declared_target m class method) (owner_of m method)) None (no_target_by m class method (owner_of m method) h) refl
