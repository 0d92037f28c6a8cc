-- The rules of a remap, one after the other, by what is known of a frame that holds a version.
use Rattle.std.proofs.Common.{◌≡◌, ℕ, Bool, true, false, not, ◌&&◌, ◌||◌, List, [], ◌∷◌, ◌++◌, map, length, Option, Some, None, refl, sym, ap, ◌∙◌, option_map, if◌then◌else◌, ◌==◌}
use Rattle.std.specs.Prelude.{is_some, reverse, unwrap_or}
use Rattle.std.proofs.lemmas.List.{length-reverse}
use Rattle.std.specs.List.{list_any}
use Rattle.enc_frames.specs.Machine.{PlainCode, Frame, Thread, Task, going, ended, trapped, MachineState, code_meant}
use Rattle.enc_machine_types.specs.Members.{local_kinds, method_body, run_body, call_shape, if_runs, runs_body}
use Rattle.enc_objects.specs.declared.kind.Kind.{Kind}
use Rattle.enc_objects.specs.declared.value.Value.{Value}
use Rattle.enc_opcodes.specs.Body.{Body, body_of, is_instruction_start}
use Rattle.enc_opcodes.specs.Instruction.{instructions_of}
use Rattle.enc_plain.specs.Module.{Module}
use Rattle.enc_seqpoints.specs.declared.point.Point.{Point}
use Rattle.enc_unwind.specs.Search.{handlers_of, is_handled}
use Rattle.enc_versions.specs.Stops.{stands_at, is_stop_in}
use Rattle.enc_versions.specs.Stops.{is_at_point as is_point_in}
use Rattle.enc_versions.specs.Version.{Version, newest_of}
use Rattle.enc_vm.specs.Step.{task_at}
use Rattle.enc_remap.specs.Remap.{Move, Codes, MayMove, refused, first_broken, move_rules, move_of, goal, led_from, kinds_behind, kinds_of, new_kinds, is_visible, is_stop, remap_task, remap_thread, remap_with}
use Rattle.enc_remap.specs.Seen.{IsGoal, frame_rules, goes_on, version_codes}
use Rattle.enc_remap.proofs.Newest.{begins_in}

-- the interpreter runs a body
pub body_runs : (m : Module) (method : _) (b : Body) → method_body m method ≡ Some b → is_some (run_body m method) ≡ (is_some (call_shape m method) && runs_body m b)
unfolding run_body
body_runs m method b is = ap (λ (o : Option Body). is_some (if is_some (call_shape m method) then if_runs m o else None)) is ∙ by_tests (is_some (call_shape m method)) (runs_body m b)
  where
    by_tests : (s r : Bool) → is_some (if s then (if r then Some b else None) else None) ≡ (s && r)
    by_tests true true = refl
    by_tests true false = refl
    by_tests false r = refl

-- points and instructions of a version, and of what it means
points_meant : (points : List Point) (offset : ℕ)
    → list_any (λ (p : ℕ × Option (ℕ × ℕ × ℕ × ℕ)). p.0 == offset && is_some p.1) (map (λ (p : Point). (p.offset, p.lines)) points) ≡ is_point_in points offset
points_meant [] offset = refl
points_meant (p ∷ points) offset = ap (λ (b : Bool). stands_at offset p || b) (points_meant points offset)

pub point_meant : (users : ℕ → Option (List ℕ)) (v : Version) (offset : ℕ) → is_visible (code_meant users v) offset ≡ is_point_in v.points.points offset
point_meant users v offset = points_meant v.points.points offset

pub stop_meant : (users : ℕ → Option (List ℕ)) (v : Version) (offset : ℕ) → is_stop (code_meant users v) offset ≡ is_stop_in v.code v.points.points offset
stop_meant users v offset =
    ap (λ (b : Bool). b && is_visible (code_meant users v) offset) (begins_in users v.code offset)
    ∙ ap (λ (b : Bool). is_instruction_start (instructions_of v.code.code) offset && b) (point_meant users v offset)

handlers_meant : (users : ℕ → Option (List ℕ)) (v : Version) → (code_meant users v).body.handlers ≡ handlers_of v.code.sections
unfolding body_of
handlers_meant users v = refl

pub handled_meant : (users : ℕ → Option (List ℕ)) (v : Version) (offset : ℕ) → is_handled offset (code_meant users v).body.handlers ≡ is_handled offset (handlers_of v.code.sections)
handled_meant users v offset = ap (is_handled offset) (handlers_meant users v)

-- the kinds of a version's local variables
abbrev pub kinds_in : Module → Version → List Kind
kinds_in m v = unwrap_or (local_kinds m v.code.locals) []

pub kinds_meant : (users : ℕ → Option (List ℕ)) (m : Module) (v : Version) → kinds_of m (code_meant users v) ≡ kinds_in m v
unfolding body_of
kinds_meant users m v = refl

behind_meant : (users : ℕ → Option (List ℕ)) (m : Module) (v w : Version)
    → kinds_behind (kinds_of m (code_meant users v)) (kinds_of m (code_meant users w)) ≡ kinds_behind (kinds_in m v) (kinds_in m w)
behind_meant users m v w =
    ap (λ (ks : List Kind). kinds_behind ks (kinds_of m (code_meant users w))) (kinds_meant users m v) ∙ ap (kinds_behind (kinds_in m v)) (kinds_meant users m w)

-- a stack that is shown from the bottom up
pub empty_stack : (shown stack : List Value) (b : Bool) → reverse shown ≡ stack → (length shown == 0) ≡ b → (length stack == 0) ≡ b
empty_stack shown stack b is h = ap (λ (n : ℕ). n == 0) (ap (λ (l : List Value). length l) (sym is) ∙ length-reverse shown) ∙ h

-- the rules of a move, each broken first, and none
pub third : (x : Move) → is_visible x.code x.from ≡ false → first_broken (move_rules x) ≡ Some 3
unfolding first_broken
third x a = rw a refl

pub fourth : (x : Move) → is_visible x.code x.from ≡ true → goal x ≡ None → first_broken (move_rules x) ≡ Some 4
unfolding first_broken
fourth x a g = rw (a, g) refl

pub no_newest : (x : Move) (to : ℕ) → is_visible x.code x.from ≡ true → goal x ≡ Some to → x.newest ≡ None → first_broken (move_rules x) ≡ Some 5
unfolding first_broken
no_newest x to a g n = rw (a, g, n) refl

pub fifth : (x : Move) (to : ℕ) (c : PlainCode) → is_visible x.code x.from ≡ true → goal x ≡ Some to → x.newest ≡ Some c → is_stop c to ≡ false
    → first_broken (move_rules x) ≡ Some 5
unfolding first_broken
fifth x to c a g n s = rw (a, g, n, s) refl

pub not_run : (x : Move) (to : ℕ) (c : PlainCode) → is_visible x.code x.from ≡ true → goal x ≡ Some to → x.newest ≡ Some c → is_stop c to ≡ true
    → is_some (run_body x.plain x.method) ≡ false → first_broken (move_rules x) ≡ Some 6
unfolding first_broken
not_run x to c a g n s r = rw (a, g, n, s, r) refl

pub no_kinds : (x : Move) (to : ℕ) (c : PlainCode) → is_visible x.code x.from ≡ true → goal x ≡ Some to → x.newest ≡ Some c → is_stop c to ≡ true
    → is_some (run_body x.plain x.method) ≡ true → kinds_behind (kinds_of x.plain x.code) (kinds_of x.plain c) ≡ None → first_broken (move_rules x) ≡ Some 6
unfolding first_broken
no_kinds x to c a g n s r k = rw (a, g, n, s, r, k) refl

pub seventh : (x : Move) (to : ℕ) (c : PlainCode) (ks : List Kind) → is_visible x.code x.from ≡ true → goal x ≡ Some to → x.newest ≡ Some c → is_stop c to ≡ true
    → is_some (run_body x.plain x.method) ≡ true → kinds_behind (kinds_of x.plain x.code) (kinds_of x.plain c) ≡ Some ks → is_handled to c.body.handlers ≡ true
    → first_broken (move_rules x) ≡ Some 7
unfolding first_broken
seventh x to c ks a g n s r k h = rw (a, g, n, s, r, k, h) refl

pub none : (x : Move) (to : ℕ) (c : PlainCode) (ks : List Kind) → is_visible x.code x.from ≡ true → goal x ≡ Some to → x.newest ≡ Some c → is_stop c to ≡ true
    → is_some (run_body x.plain x.method) ≡ true → kinds_behind (kinds_of x.plain x.code) (kinds_of x.plain c) ≡ Some ks → is_handled to c.body.handlers ≡ false
    → first_broken (move_rules x) ≡ None
unfolding first_broken
none x to c ks a g n s r k h = rw (a, g, n, s, r, k, h) refl

-- the same of a frame that holds a version, by what the program asks
abbrev pub asked_of : (ℕ → Option (List ℕ)) → List (Option Version) → Module → List (ℕ × ℕ) → Frame Version → Move
asked_of users methods m pairs f = move_of (version_codes users methods) m pairs f

pub is_third : (users : ℕ → Option (List ℕ)) (methods : List (Option Version)) (m : Module) (pairs : List (ℕ × ℕ)) (f : Frame Version)
    → is_point_in f.code.points.points f.offset ≡ false → first_broken (move_rules (asked_of users methods m pairs f)) ≡ Some 3
is_third users methods m pairs f a = third (asked_of users methods m pairs f) (point_meant users f.code f.offset ∙ a)

pub is_fourth : (users : ℕ → Option (List ℕ)) (methods : List (Option Version)) (m : Module) (pairs : List (ℕ × ℕ)) (f : Frame Version)
    → is_point_in f.code.points.points f.offset ≡ true → led_from f.offset pairs ≡ None → first_broken (move_rules (asked_of users methods m pairs f)) ≡ Some 4
is_fourth users methods m pairs f a g = fourth (asked_of users methods m pairs f) (point_meant users f.code f.offset ∙ a) g

pub is_fifth_none : (users : ℕ → Option (List ℕ)) (methods : List (Option Version)) (m : Module) (pairs : List (ℕ × ℕ)) (f : Frame Version) (to : ℕ)
    → is_point_in f.code.points.points f.offset ≡ true → led_from f.offset pairs ≡ Some to → newest_of methods f.method ≡ None
    → first_broken (move_rules (asked_of users methods m pairs f)) ≡ Some 5
is_fifth_none users methods m pairs f to a g n =
    no_newest (asked_of users methods m pairs f) to (point_meant users f.code f.offset ∙ a) g (ap (option_map (code_meant users)) n)

pub is_fifth : (users : ℕ → Option (List ℕ)) (methods : List (Option Version)) (m : Module) (pairs : List (ℕ × ℕ)) (f : Frame Version) (to : ℕ) (v : Version)
    → is_point_in f.code.points.points f.offset ≡ true → led_from f.offset pairs ≡ Some to → newest_of methods f.method ≡ Some v
    → is_stop_in v.code v.points.points to ≡ false → first_broken (move_rules (asked_of users methods m pairs f)) ≡ Some 5
is_fifth users methods m pairs f to v a g n s =
    fifth (asked_of users methods m pairs f) to (code_meant users v) (point_meant users f.code f.offset ∙ a) g (ap (option_map (code_meant users)) n)
    (stop_meant users v to ∙ s)

pub is_sixth_run : (users : ℕ → Option (List ℕ)) (methods : List (Option Version)) (m : Module) (pairs : List (ℕ × ℕ)) (f : Frame Version) (to : ℕ) (v : Version)
    → is_point_in f.code.points.points f.offset ≡ true → led_from f.offset pairs ≡ Some to → newest_of methods f.method ≡ Some v
    → is_stop_in v.code v.points.points to ≡ true → is_some (run_body m f.method) ≡ false → first_broken (move_rules (asked_of users methods m pairs f)) ≡ Some 6
is_sixth_run users methods m pairs f to v a g n s r =
    not_run (asked_of users methods m pairs f) to (code_meant users v) (point_meant users f.code f.offset ∙ a) g (ap (option_map (code_meant users)) n)
    (stop_meant users v to ∙ s) r

pub is_sixth_kinds : (users : ℕ → Option (List ℕ)) (methods : List (Option Version)) (m : Module) (pairs : List (ℕ × ℕ)) (f : Frame Version) (to : ℕ) (v : Version)
    → is_point_in f.code.points.points f.offset ≡ true → led_from f.offset pairs ≡ Some to → newest_of methods f.method ≡ Some v
    → is_stop_in v.code v.points.points to ≡ true → is_some (run_body m f.method) ≡ true
    → kinds_behind (kinds_in m f.code) (kinds_in m v) ≡ None
    → first_broken (move_rules (asked_of users methods m pairs f)) ≡ Some 6
is_sixth_kinds users methods m pairs f to v a g n s r k =
    no_kinds (asked_of users methods m pairs f) to (code_meant users v) (point_meant users f.code f.offset ∙ a) g (ap (option_map (code_meant users)) n)
    (stop_meant users v to ∙ s) r (behind_meant users m f.code v ∙ k)

pub is_seventh : (users : ℕ → Option (List ℕ)) (methods : List (Option Version)) (m : Module) (pairs : List (ℕ × ℕ)) (f : Frame Version) (to : ℕ) (v : Version) (ks : List Kind)
    → is_point_in f.code.points.points f.offset ≡ true → led_from f.offset pairs ≡ Some to → newest_of methods f.method ≡ Some v
    → is_stop_in v.code v.points.points to ≡ true → is_some (run_body m f.method) ≡ true
    → kinds_behind (kinds_in m f.code) (kinds_in m v) ≡ Some ks → is_handled to (handlers_of v.code.sections) ≡ true
    → first_broken (move_rules (asked_of users methods m pairs f)) ≡ Some 7
is_seventh users methods m pairs f to v ks a g n s r k h =
    seventh (asked_of users methods m pairs f) to (code_meant users v) ks (point_meant users f.code f.offset ∙ a) g (ap (option_map (code_meant users)) n)
    (stop_meant users v to ∙ s) r (behind_meant users m f.code v ∙ k) (handled_meant users v to ∙ h)

pub is_goal : (users : ℕ → Option (List ℕ)) (methods : List (Option Version)) (m : Module) (pairs : List (ℕ × ℕ)) (f : Frame Version) (to : ℕ) (v : Version) (ks : List Kind)
    → is_point_in f.code.points.points f.offset ≡ true → led_from f.offset pairs ≡ Some to → newest_of methods f.method ≡ Some v
    → is_stop_in v.code v.points.points to ≡ true → is_some (run_body m f.method) ≡ true
    → kinds_behind (kinds_in m f.code) (kinds_in m v) ≡ Some ks → is_handled to (handlers_of v.code.sections) ≡ false
    → IsGoal (asked_of users methods m pairs f) (newest_of methods f.method) v to ks
is_goal users methods m pairs f to v ks a g n s r k h = record {
  may = none (asked_of users methods m pairs f) to (code_meant users v) ks (point_meant users f.code f.offset ∙ a) g (ap (option_map (code_meant users)) n)
      (stop_meant users v to ∙ s) r (behind_meant users m f.code v ∙ k) (handled_meant users v to ∙ h);
  newest_is = n;
  goal_is = g;
  stop = s;
  kinds_are = ap (λ (o : Option Version). new_kinds (record { plain = m; method = f.method; code = code_meant users f.code; newest = option_map (code_meant users) o; from = f.offset; pairs = pairs })) n ∙ behind_meant users m f.code v ∙ k;
}

-- rules of a frame: what is on its stack first, what runs in it last
behind_by : (r last : ℕ × Bool) (rules : List (ℕ × Bool)) (n : ℕ) (b : Bool) → (first_broken rules ≡ Some n → first_broken (rules ++ last ∷ []) ≡ Some n)
    → (if b then Some r.0 else first_broken rules) ≡ Some n → (if b then Some r.0 else first_broken (rules ++ last ∷ [])) ≡ Some n
behind_by r last rules n true later h = h
behind_by r last rules n false later h = later h

behind_rules : (rules : List (ℕ × Bool)) (last : ℕ × Bool) (n : ℕ) → first_broken rules ≡ Some n → first_broken (rules ++ last ∷ []) ≡ Some n
unfolding first_broken
behind_rules [] last n h = absurd cc
behind_rules (r ∷ rules) last n h = behind_by r last rules n r.1 (behind_rules rules last n) h

last_by : (r last : ℕ × Bool) (rules : List (ℕ × Bool)) (b : Bool) → (first_broken rules ≡ None → first_broken (rules ++ last ∷ []) ≡ (if last.1 then Some last.0 else None))
    → (if b then Some r.0 else first_broken rules) ≡ None → (if b then Some r.0 else first_broken (rules ++ last ∷ [])) ≡ (if last.1 then Some last.0 else None)
last_by r last rules true later h = absurd cc
last_by r last rules false later h = later h

last_rule : (rules : List (ℕ × Bool)) (last : ℕ × Bool) → first_broken rules ≡ None → first_broken (rules ++ last ∷ []) ≡ (if last.1 then Some last.0 else None)
unfolding first_broken
last_rule [] last h = refl
last_rule (r ∷ rules) last h = last_by r last rules r.1 (last_rule rules last) h

pub stack_first : (f : Frame Version) (x : Move) → (length f.stack == 0) ≡ false → first_broken (frame_rules f x) ≡ Some 2
unfolding first_broken
stack_first f x e = rw e refl

pub then_rules : (f : Frame Version) (x : Move) (n : ℕ) → (length f.stack == 0) ≡ true → first_broken (move_rules x) ≡ Some n → first_broken (frame_rules f x) ≡ Some n
unfolding first_broken
then_rules f x n e h = rw e (behind_rules (move_rules x) (7, not (length f.running == 0)) n h)

pub then_running : (f : Frame Version) (x : Move) → (length f.stack == 0) ≡ true → MayMove x → (length f.running == 0) ≡ false → first_broken (frame_rules f x) ≡ Some 7
unfolding first_broken
then_running f x e h r = rw e (last_rule (move_rules x) (7, not (length f.running == 0)) h ∙ rw r refl)

pub no_rule : (f : Frame Version) (x : Move) → (length f.stack == 0) ≡ true → MayMove x → (length f.running == 0) ≡ true → first_broken (frame_rules f x) ≡ None
unfolding first_broken
no_rule f x e h r = rw e (last_rule (move_rules x) (7, not (length f.running == 0)) h ∙ rw r refl)

-- and of a task
pub not_going : (codes : Codes Version) (m : Module) (n : ℕ) (pairs : List (ℕ × ℕ)) (s : MachineState Version) → goes_on (task_at s n) ≡ false
    → remap_with codes m n pairs s ≡ refused 1
unfolding remap_with first_broken
not_going codes m n pairs s h = by_task (task_at s n) h
  where
    by_flight : (t : Thread Version) (x : Move) (b : Bool) → is_some t.flight ≡ b → not b ≡ false → remap_thread codes m n pairs s t x ≡ refused 1
    by_flight t x true e h = rw e refl
    by_flight t x false e h = absurd cc

    by_task : (o : Option (Task Version)) → goes_on o ≡ false → remap_task codes m n pairs s o ≡ refused 1
    by_task None h = refl
    by_task (Some ended) h = refl
    by_task (Some (trapped x frames)) h = refl
    by_task (Some (going t)) h = by_flight t (move_of codes m pairs t.top) (is_some t.flight) refl h

pub in_frame : (codes : Codes Version) (m : Module) (n : ℕ) (pairs : List (ℕ × ℕ)) (s : MachineState Version) (t : Thread Version) (number : ℕ) → is_some t.flight ≡ false
    → first_broken (frame_rules t.top (move_of codes m pairs t.top)) ≡ Some number → remap_thread codes m n pairs s t (move_of codes m pairs t.top) ≡ refused number
unfolding first_broken
in_frame codes m n pairs s t number quiet h = rw (quiet, h) refl
