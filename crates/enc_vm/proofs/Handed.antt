-- Values that are handed to the nearest frame.
use Rattle.std.proofs.Common.{◌≡◌, ℕ, List, [], ◌∷◌, Option, Some, None, Result, Ok, Err, refl, ap, ◌∙◌}
use Rattle.enc_base.specs.declared.token.Token.{Token}
use Rattle.enc_machine_types.specs.Elements.{CallShape}
use Rattle.enc_machine_types.specs.Members.{call_shape}
use Rattle.enc_objects.specs.declared.trap.Trap.{Trap}
use Rattle.enc_objects.specs.declared.trap.Trap.TheVariants.{X2}
use Rattle.enc_objects.specs.declared.value.Value.{Value}
use Rattle.enc_opcodes.specs.Body.{body_of}
use Rattle.enc_plain.specs.Module.{Module}
use Rattle.enc_versions.specs.Version.{Version}
use Rattle.enc_vm.specs.Calls.{left_to, return_from}
use Rattle.enc_frames.specs.Values.{value_given}
use Rattle.enc_vm.specs.CallsSeen.{left_with, returned}
use Rattle.enc_frames.specs.Machine.{Frame, Thread, Shared, version_world}
use Rattle.enc_frames.specs.Results.{◌>>=◌, or_trap}

-- leaving a frame in the program's own world
pub left_is : (users : ℕ → Option (List ℕ)) (m : Module) (methods : List (Option Version)) (s : Shared) (method : Token) (value : Option Value) (below : List (Frame Version))
    → left_to (version_world users m methods) s method value below ≡ left_with s method value below
unfolding version_world body_of
left_is users m methods s method value [] = refl
left_is users m methods s method None (f ∷ below) = refl
left_is users m methods s method (Some v) (f ∷ below) = refl

value_left : (users : ℕ → Option (List ℕ)) (m : Module) (methods : List (Option Version)) (s : Shared) (method : Token) (below : List (Frame Version)) (r : Result (Option Value) Trap)
    → (r >>= λ value. left_to (version_world users m methods) s method value below) ≡ (r >>= λ value. left_with s method value below)
value_left users m methods s method below (Err t) = refl
value_left users m methods s method below (Ok value) = left_is users m methods s method value below

shape_left : (users : ℕ → Option (List ℕ)) (m : Module) (methods : List (Option Version)) (s : Shared) (t : Thread Version) (r : Result CallShape Trap)
    → (r >>= λ shape. value_given shape.gives t.top.stack >>= λ value. left_to (version_world users m methods) s t.top.method value t.below)
    ≡ (r >>= λ shape. value_given shape.gives t.top.stack >>= λ value. left_with s t.top.method value t.below)
shape_left users m methods s t (Err x) = refl
shape_left users m methods s t (Ok shape) = value_left users m methods s t.top.method t.below (value_given shape.gives t.top.stack)

world_is : (users : ℕ → Option (List ℕ)) (m : Module) (methods : List (Option Version)) → (version_world users m methods).plain ≡ m
unfolding version_world
world_is users m methods = refl

-- a return
pub return_is : (users : ℕ → Option (List ℕ)) (m : Module) (methods : List (Option Version)) (s : Shared) (t : Thread Version)
    → return_from (version_world users m methods) s t ≡ returned m s t
unfolding return_from
return_is users m methods s t =
    ap (λ (p : Module). or_trap X2 (call_shape p t.top.method) >>= λ (shape : CallShape).
    value_given shape.gives t.top.stack >>= λ value. left_to (version_world users m methods) s t.top.method value t.below) (world_is users m methods)
    ∙ shape_left users m methods s t (or_trap X2 (call_shape m t.top.method))
