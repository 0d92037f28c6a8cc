-- The code that a method has now, and frames that hold it.
use Rattle.std.proofs.Common.{◌≡◌, ℕ, ◌+◌, ◌<◌, Bool, true, false, List, ◌∷◌, length, Option, Some, None, Ok, IsTrue, refl, sym, ap, ◌∙◌, arith}
use Rattle.std.specs.Prelude.{is_some, option_map, option_and_then, slice_get, if◌then◌else◌, ◌==◌, nat_lt}
use Rattle.std.proofs.lemmas.Bool.Decides.{nat_tests}
use Rattle.enc_base.specs.declared.token.Token.{Token}
use Rattle.enc_machine_types.specs.Elements.{CallShape}
use Rattle.enc_machine_types.specs.Members.{call_shape, run_body, if_runs, runs_body, method_body, body_of_cell}
use Rattle.enc_objects.specs.declared.trap.Trap.TheVariants.{X10, X11}
use Rattle.enc_objects.specs.declared.value.Value.{Value}
use Rattle.enc_opcodes.specs.Body.{Body, body_of}
use Rattle.enc_plain.specs.Cell.{Cell, body}
use Rattle.enc_plain.proofs.CellsOf.{has_cells}
use Rattle.enc_plain.specs.Module.{Module, Row, has_row, row_of, cell_of}
use Rattle.enc_base.specs.Tables.{method_def}
use Rattle.enc_versions.specs.Version.{Version, newest_of, version_at}
use Rattle.enc_vm.specs.Calls.{new_frame, enter, most_frames}
use Rattle.enc_vm.specs.CallsSeen.{AreBodiesOf}
use Rattle.enc_frames.specs.FramesSeen.{frame_at}
use Rattle.enc_frames.specs.Machine.{World, Frame, Thread, version_world}
use Rattle.enc_frames.specs.Results.{◌>>=◌, or_trap, ask}

-- a frame at its method's first instruction
pub frame_is : (users : ℕ → Option (List ℕ)) (m : Module) (methods : List (Option Version)) (method : Token) (v : Version) (args : List Value)
    → new_frame (version_world users m methods) method v args ≡ frame_at m method v args
unfolding new_frame version_world body_of
frame_is users m methods method v args = refl

-- the cell of a method whose newest body is known
cell_is : (users : ℕ → Option (List ℕ)) (m : Module) (methods : List (Option Version)) (method : Token) (v : Version)
    → AreBodiesOf users m methods → method.table ≡ method_def → IsTrue (has_row m method) → newest_of methods method ≡ Some v
    → cell_of m method 0 ≡ Some (body (Some (body_of users v.code)))
cell_is users m methods method v are at row newest =
    (are.1.each method at row).means ∙ ap (λ (o : Option Version). Some (body (option_map (λ (x : Version). body_of users x.code) o))) newest

none_by : {A : Type 0} (b : Bool) (o : Option A) → o ≡ None → (if b then o else None) ≡ None
none_by true o e = e
none_by false o e = refl

pub none_now : (users : ℕ → Option (List ℕ)) (m : Module) (methods : List (Option Version)) (method : Token) → newest_of methods method ≡ None
    → (version_world users m methods).now method ≡ None
unfolding version_world
none_now users m methods method e = none_by (is_some (run_body m method)) (newest_of methods method) e

not_run : (users : ℕ → Option (List ℕ)) (m : Module) (methods : List (Option Version)) (method : Token) → run_body m method ≡ None
    → (version_world users m methods).now method ≡ None
unfolding version_world
not_run users m methods method e = ap (λ (o : Option Body). if is_some o then newest_of methods method else None) e

row_none : (o : Option Row) → is_some (option_map (λ (r : Row). r.cells) o) ≡ false → o ≡ None
row_none None h = refl
row_none (Some r) h = absurd cc

no_cell : (m : Module) (t : Token) → has_row m t ≡ false → cell_of m t 0 ≡ None
unfolding cell_of
no_cell m t h = ap (λ (o : Option Row). option_and_then (λ (r : Row). slice_get r.cells 0) o) (row_none (row_of m t) (sym (has_cells m t) ∙ h))

-- what is no row has no body, and no code
pub no_row_run : (m : Module) (method : Token) → has_row m method ≡ false → run_body m method ≡ None
unfolding run_body
no_row_run m method h =
    ap (λ (o : Option Cell). if is_some (call_shape m method) then if_runs m (body_of_cell o) else None) (no_cell m method h)
    ∙ none_by (is_some (call_shape m method)) None refl

pub no_row_now : (users : ℕ → Option (List ℕ)) (m : Module) (methods : List (Option Version)) (method : Token) → has_row m method ≡ false
    → (version_world users m methods).now method ≡ None
no_row_now users m methods method h = not_run users m methods method (no_row_run m method h)

is_other : (n : ℕ) → (n ≡ 6 → ⊥) → (n == 6) ≡ false
is_other n h = grind (arith, nat_tests, h)

no_newest : (methods : List (Option Version)) (method : Token) → (method.table ≡ method_def → ⊥) → newest_of methods method ≡ None
unfolding newest_of
no_newest methods method h = ap (λ (b : Bool). if b then version_at methods method.row else None) (is_other method.table h)

-- nor has a row of another table
pub other_table_now : (users : ℕ → Option (List ℕ)) (m : Module) (methods : List (Option Version)) (method : Token) → (method.table ≡ method_def → ⊥)
    → (version_world users m methods).now method ≡ None
other_table_now users m methods method h = none_now users m methods method (no_newest methods method h)

-- a method of another form isn't run
pub shapeless_now : (users : ℕ → Option (List ℕ)) (m : Module) (methods : List (Option Version)) (method : Token) → call_shape m method ≡ None
    → (version_world users m methods).now method ≡ None
unfolding run_body
shapeless_now users m methods method e =
    not_run users m methods method (ap (λ (o : Option CallShape). if is_some o then if_runs m (method_body m method) else None) e)

body_run : (m : Module) (method : Token) (b : Body) (runs : Bool) → cell_of m method 0 ≡ Some (body (Some b)) → runs_body m b ≡ runs
    → if_runs m (method_body m method) ≡ (if runs then Some b else None)
body_run m method b runs cell e = ap (λ (o : Option Cell). if_runs m (body_of_cell o)) cell ∙ ap (λ (x : Bool). if x then Some b else None) e

-- nor one whose body isn't
pub unrun_now : (users : ℕ → Option (List ℕ)) (m : Module) (methods : List (Option Version)) (method : Token) (v : Version)
    → AreBodiesOf users m methods → method.table ≡ method_def → IsTrue (has_row m method) → newest_of methods method ≡ Some v
    → runs_body m (body_of users v.code) ≡ false
    → (version_world users m methods).now method ≡ None
unfolding run_body
unrun_now users m methods method v are at row newest e =
    not_run users m methods method
    (ap (λ (o : Option Body). if is_some (call_shape m method) then o else None) (body_run m method (body_of users v.code) false (cell_is users m methods method v are at row newest) e)
    ∙ none_by (is_some (call_shape m method)) None refl)

-- and all others are
pub run_now : (users : ℕ → Option (List ℕ)) (m : Module) (methods : List (Option Version)) (method : Token) (v : Version)
    → AreBodiesOf users m methods → method.table ≡ method_def → IsTrue (has_row m method) → newest_of methods method ≡ Some v
    → is_some (call_shape m method) ≡ true
    → runs_body m (body_of users v.code) ≡ true
    → (version_world users m methods).now method ≡ Some v
unfolding run_body version_world
run_now users m methods method v are at row newest shape e =
    ap (λ (o : Option Body). if is_some (if is_some (call_shape m method) then o else None) then newest_of methods method else None)
    (body_run m method (body_of users v.code) true (cell_is users m methods method v are at row newest) e)
    ∙ ap (λ (b : Bool). if is_some (if b then Some (body_of users v.code) else None) then newest_of methods method else None) shape
    ∙ newest

has_room : (n : ℕ) → n < 1023 → nat_lt (n + 1) 1024 ≡ true
has_room n h = grind (arith, nat_tests, h)

-- a frame that is entered
entered_frame : {C : Type 0} (w : World C) (t : Thread C) (caller : Frame C) (method : Token) (args : List Value) (code : C)
    → w.now method ≡ Some code → length t.below < 1023
    → enter w t caller method args ≡ Ok (record { top = new_frame w method code args; below = caller ∷ t.below; flight = None })
unfolding enter
entered_frame w t caller method args code now few =
    ap (λ (o : Option _). or_trap X10 o >>= λ (c : _). ask X11 (nat_lt (length t.below + 1) most_frames) >>= λ _.
    Ok (record { top = new_frame w method c args; below = caller ∷ t.below; flight = None })) now
    ∙ ap (λ (b : Bool). ask X11 b >>= λ _. Ok (record { top = new_frame w method code args; below = caller ∷ t.below; flight = None })) (has_room (length t.below) few)

pub entered : (users : ℕ → Option (List ℕ)) (m : Module) (methods : List (Option Version)) (t : Thread Version) (caller : Frame Version) (method : Token)
    (args : List Value) (v : Version) (f top : Frame Version) (below : List (Frame Version))
    → (version_world users m methods).now method ≡ Some v → length t.below < 1023 → f ≡ frame_at m method v args → top ≡ f → below ≡ caller ∷ t.below
    → enter (version_world users m methods) t caller method args ≡ Ok (record { top = top; below = below; flight = None })
entered users m methods t caller method args v f top below now few is on under =
    entered_frame (version_world users m methods) t caller method args v now few
    ∙ ap (λ (g : Frame Version). Ok (record { top = g; below = caller ∷ t.below; flight = None })) (frame_is users m methods method v args ∙ sym is ∙ sym on)
    ∙ ap (λ (l : List (Frame Version)). Ok (record { top = top; below = l; flight = None })) (sym under)
