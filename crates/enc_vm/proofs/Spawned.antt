-- Whether the interpreter runs a method, by its newest body.
use Rattle.std.proofs.Common.{◌≡◌, ℕ, Bool, true, false, List, [], Option, Some, None, Result, Ok, Err, IsTrue, refl, sym, ap, ◌∙◌}
use Rattle.std.specs.Prelude.{is_some, option_map, option_and_then, IfOk, if◌then◌else◌}
use Rattle.std.specs.List.{list_any}
use Rattle.std.specs.declared.alloc.AllocError.{AllocError}
use Rattle.enc_base.specs.Token.{is_token}
use Rattle.enc_objects.specs.Objects.{Store}
use Rattle.enc_base.specs.declared.token.Token.{Token}
use Rattle.enc_machine_types.specs.Members.{call_shape, method_of_row, run_body, type_constructor, if_runs, method_body, body_of_cell}
use Rattle.enc_opcodes.specs.Body.{Body, body_of}
use Rattle.enc_plain.specs.Cell.{Cell}
use Rattle.enc_plain.specs.Module.{Module, has_row}
use Rattle.enc_base.specs.Tables.{method_def}
use Rattle.enc_versions.specs.Version.{Version, newest_of}
use Rattle.enc_vm.proofs.Entered.{frame_is, no_row_now, no_row_run}
use Rattle.enc_vm.specs.Calls.{new_frame}
use Rattle.enc_vm.specs.CallsSeen.{AreBodiesOf}
use Rattle.enc_frames.specs.FramesSeen.{frame_at, shared_by}
use Rattle.enc_frames.specs.Machine.{Frame, version_world}
use Rattle.enc_vm.specs.Step.{constructor_frame, frame_now}

by_shape : (b : Bool) (o : Option Body) (v : Option Version) → (is_some o ≡ true → is_some v ≡ true)
    → is_some (if is_some (if b then o else None) then v else None) ≡ is_some (if b then o else None)
by_shape false o v h = refl
by_shape true None v h = refl
by_shape true (Some b) v h = h refl

newest_there : (m : Module) (users : ℕ → Option (List ℕ)) (v : Option Version) → is_some (if_runs m (option_map (λ (x : Version). body_of users x.code) v)) ≡ true → is_some v ≡ true
newest_there m users None h = h
newest_there m users (Some v) h = refl

row_run : (users : ℕ → Option (List ℕ)) (m : Module) (methods : List (Option Version)) (method : Token)
    → AreBodiesOf users m methods → method.table ≡ method_def → IsTrue (has_row m method)
    → is_some ((version_world users m methods).now method) ≡ is_some (run_body m method)
unfolding version_world run_body
row_run users m methods method are at row =
    by_shape (is_some (call_shape m method)) (if_runs m (method_body m method)) (newest_of methods method)
    (λ h. newest_there m users (newest_of methods method)
    (sym (ap (λ (o : Option Cell). is_some (if_runs m (body_of_cell o))) (are.1.each method at row).means) ∙ h))

by_row : (users : ℕ → Option (List ℕ)) (m : Module) (methods : List (Option Version)) (method : Token) (b : Bool)
    → AreBodiesOf users m methods → method.table ≡ method_def → has_row m method ≡ b
    → is_some ((version_world users m methods).now method) ≡ is_some (run_body m method)
by_row users m methods method true are at row = row_run users m methods method are at row
by_row users m methods method false are at row =
    ap is_some (no_row_now users m methods method row) ∙ sym (ap is_some (no_row_run m method row))

-- a method has code now where the interpreter runs it
pub run_is : (users : ℕ → Option (List ℕ)) (m : Module) (methods : List (Option Version)) (method : Token)
    → AreBodiesOf users m methods → method.table ≡ method_def
    → is_some ((version_world users m methods).now method) ≡ is_some (run_body m method)
run_is users m methods method are at = by_row users m methods method (has_row m method) are at refl

-- a frame of a method that is called without arguments
pub none_begun : (users : ℕ → Option (List ℕ)) (m : Module) (methods : List (Option Version)) (method : Token)
    → (version_world users m methods).now method ≡ None → None ≡ frame_now (version_world users m methods) method
none_begun users m methods method none =
    sym (ap (option_map (λ (v : Version). new_frame (version_world users m methods) method v [])) none)

pub frame_begun : (users : ℕ → Option (List ℕ)) (m : Module) (methods : List (Option Version)) (method : Token) (v : Version) (f : Frame Version)
    → (version_world users m methods).now method ≡ Some v → f ≡ frame_at m method v [] → Some f ≡ frame_now (version_world users m methods) method
frame_begun users m methods method v f some is =
    ap Some (is ∙ sym (frame_is users m methods method v []))
    ∙ sym (ap (option_map (λ (x : Version). new_frame (version_world users m methods) method x [])) some)

from_row : (o : Option ℕ) (c : Token) → Some c ≡ option_map method_of_row o → c.table ≡ method_def
from_row None c h = absurd cc
from_row (Some row) c h = ap (λ (t : Token). t.table) (some_is c (method_of_row row) h)
  where
    some_is : (a b : Token) → Some a ≡ Some b → a ≡ b
    some_is a b e = cc

-- a type's constructor is a method
pub constructor_table : (m : Module) (type c : Token) → Some c ≡ type_constructor m type → c.table ≡ method_def
unfolding type_constructor
constructor_table m type c h = from_row _ c h

first_by : (users : ℕ → Option (List ℕ)) (m : Module) (methods : List (Option Version)) (s : Store) (touched : List Token) (owner : Token) (o : Option Token)
    → list_any (λ (t : Token). is_token t owner) touched ≡ false → type_constructor m owner ≡ o
    → constructor_frame (version_world users m methods) (shared_by s touched) owner ≡ option_and_then (frame_now (version_world users m methods)) o
unfolding version_world
first_by users m methods s touched owner o new is =
    ap (λ (b : Bool). if b then None else option_and_then (frame_now (version_world users m methods)) (type_constructor m owner)) new
    ∙ ap (option_and_then (frame_now (version_world users m methods))) is

-- the frame of the constructor of a type that is touched first
pub no_constructor : (users : ℕ → Option (List ℕ)) (m : Module) (methods : List (Option Version)) (s : Store) (touched : List Token) (owner : Token)
    → list_any (λ (t : Token). is_token t owner) touched ≡ false → type_constructor m owner ≡ None
    → None ≡ constructor_frame (version_world users m methods) (shared_by s touched) owner
no_constructor users m methods s touched owner new none = sym (first_by users m methods s touched owner None new none)

pub constructor_begun : (users : ℕ → Option (List ℕ)) (m : Module) (methods : List (Option Version)) (s : Store) (touched : List Token) (owner c : Token)
    (r : Result (Option (Frame Version)) AllocError) → list_any (λ (t : Token). is_token t owner) touched ≡ false → type_constructor m owner ≡ Some c
    → IfOk r (λ f. f ≡ frame_now (version_world users m methods) c)
    → IfOk r (λ f. f ≡ constructor_frame (version_world users m methods) (shared_by s touched) owner)
constructor_begun users m methods s touched owner c (Ok f) new some is = is ∙ sym (first_by users m methods s touched owner (Some c) new some)
constructor_begun users m methods s touched owner c (Err e) new some is = is
