-- What comes of a remap, by the task's innermost frame.
use Rattle.std.proofs.Common.{◌≡◌, ℕ, Bool, true, false, not, List, map, length, Option, Some, None, IsTrue, refl, sym, ap, ◌∙◌, subst, arith, option_and_then, ◌==◌}
use Rattle.std.specs.Prelude.{is_some}
use Rattle.std.proofs.lemmas.Bool.Decides.{nat_tests}
use Rattle.std.proofs.lemmas.Bool.{and_parts}
use Rattle.enc_frames.specs.Machine.{Frame, Thread, Task, going, ended, trapped, MachineState}
use Rattle.enc_objects.specs.Values.{default_of}
use Rattle.enc_objects.specs.declared.kind.Kind.{Kind}
use Rattle.enc_opcodes.specs.Body.{is_instruction_start}
use Rattle.enc_opcodes.specs.Instruction.{instructions_of}
use Rattle.enc_plain.specs.Module.{Module}
use Rattle.enc_plain.specs.Sound.{IsSound}
use Rattle.enc_base.specs.Tables.{method_def}
use Rattle.enc_versions.specs.Stops.{is_at_point}
use Rattle.enc_versions.specs.Version.{Version, newest_of}
use Rattle.enc_vm.specs.CallsSeen.{AreBodiesOf}
use Rattle.enc_vm.specs.Looks.{innermost_of, innermost_in}
use Rattle.enc_vm.specs.Moves.{IsBeginIn, is_idle, moved_top}
use Rattle.enc_vm.specs.Step.{task_at}
use Rattle.enc_vm.specs.Texts.{version_texts}
use Rattle.enc_remap.specs.Remap.{Move, Codes, moved, refused, first_broken, thread_rules, goal, new_kinds, remap_by, remap_task, remap_thread, remap_with}
use Rattle.enc_remap.specs.Seen.{IsGoal, frame_rules, goes_on, version_codes}
use Rattle.enc_remap.proofs.Newest.{begins_anywhere, texts_of_newest}
use Rattle.enc_remap.proofs.Rules.{asked_of, no_rule, in_frame}

is_empty : (n : ℕ) → n ≡ 0 → (n == 0) ≡ true
is_empty n e = grind (arith, nat_tests, e)

no_flight : (t : Thread Version) → goes_on (Some (going t)) ≡ true → is_some t.flight ≡ false
no_flight t h = by_test (is_some t.flight) h
  where
    by_test : (b : Bool) → not b ≡ true → b ≡ false
    by_test true h = absurd cc
    by_test false h = refl

first_of_thread : (t : Thread Version) (x : Move) → is_some t.flight ≡ false → first_broken (thread_rules t x) ≡ first_broken (frame_rules t.top x)
unfolding first_broken
first_of_thread t x quiet = rw quiet refl

-- of a frame that may be moved
in_thread : (users : ℕ → Option (List ℕ)) (methods : List (Option Version)) (m : Module) (n : ℕ) (pairs : List (ℕ × ℕ)) (s : MachineState Version) (t : Thread Version)
    → (v : Version) (to : ℕ) (ks : List Kind) → is_some t.flight ≡ false → length t.top.stack ≡ 0 → length t.top.running ≡ 0
    → IsGoal (asked_of users methods m pairs t.top) (newest_of methods t.top.method) v to ks
    → remap_thread (version_codes users methods) m n pairs s t (asked_of users methods m pairs t.top)
    ≡ moved t.top.method t.top.offset to (moved_top n v to (map default_of ks) s)
in_thread users methods m n pairs s t v to ks quiet stack running g =
    let x = asked_of users methods m pairs t.top in
    let none = no_rule t.top x (is_empty (length t.top.stack) stack) g.may (is_empty (length t.top.running) running) in
    ap (λ (r : Option ℕ). remap_by n s t.top r (newest_of methods t.top.method) (goal x) (new_kinds x)) (first_of_thread t x quiet ∙ none)
    ∙ ap (λ (o : Option Version). remap_by n s t.top None o (goal x) (new_kinds x)) g.newest_is
    ∙ ap (λ (o : Option ℕ). remap_by n s t.top None (Some v) o (new_kinds x)) g.goal_is
    ∙ ap (λ (o : Option (List Kind)). remap_by n s t.top None (Some v) (Some to) o) g.kinds_are

by_task : (users : ℕ → Option (List ℕ)) (methods : List (Option Version)) (m : Module) (n : ℕ) (pairs : List (ℕ × ℕ)) (s : MachineState Version) (f : Frame Version)
    → (v : Version) (to : ℕ) (ks : List Kind) (o : Option (Task Version)) → goes_on o ≡ true → option_and_then innermost_of o ≡ Some f
    → length f.stack ≡ 0 → length f.running ≡ 0 → IsGoal (asked_of users methods m pairs f) (newest_of methods f.method) v to ks
    → remap_task (version_codes users methods) m n pairs s o ≡ moved f.method f.offset to (moved_top n v to (map default_of ks) s)
by_task users methods m n pairs s f v to ks None going_on is stack running g = absurd cc
by_task users methods m n pairs s f v to ks (Some ended) going_on is stack running g = absurd cc
by_task users methods m n pairs s f v to ks (Some (trapped x frames)) going_on is stack running g = absurd cc
by_task users methods m n pairs s f v to ks (Some (going t)) going_on is stack running g =
    let e : t.top ≡ f = cc in
    subst (λ (h : Frame Version). remap_thread (version_codes users methods) m n pairs s t (asked_of users methods m pairs t.top)
    ≡ moved h.method h.offset to (moved_top n v to (map default_of ks) s)) e
    (in_thread users methods m n pairs s t v to ks (no_flight t going_on) (ap (λ (h : Frame Version). length h.stack) e ∙ stack) (ap (λ (h : Frame Version). length h.running) e ∙ running)
    (subst (λ (h : Frame Version). IsGoal (asked_of users methods m pairs h) (newest_of methods h.method) v to ks) (sym e) g))

pub plan_moves : (users : ℕ → Option (List ℕ)) (methods : List (Option Version)) (m : Module) (n : ℕ) (pairs : List (ℕ × ℕ)) (s : MachineState Version) (f : Frame Version)
    → (v : Version) (to : ℕ) (ks : List Kind) → goes_on (task_at s n) ≡ true → innermost_in s n ≡ Some f
    → length f.stack ≡ 0 → length f.running ≡ 0 → IsGoal (asked_of users methods m pairs f) (newest_of methods f.method) v to ks
    → remap_with (version_codes users methods) m n pairs s ≡ moved f.method f.offset to (moved_top n v to (map default_of ks) s)
unfolding remap_with
plan_moves users methods m n pairs s f v to ks going_on is stack running g = by_task users methods m n pairs s f v to ks (task_at s n) going_on is stack running g

-- of one that may not
refused_by : (users : ℕ → Option (List ℕ)) (methods : List (Option Version)) (m : Module) (n : ℕ) (pairs : List (ℕ × ℕ)) (s : MachineState Version) (f : Frame Version)
    → (number : ℕ) (o : Option (Task Version)) → goes_on o ≡ true → option_and_then innermost_of o ≡ Some f
    → first_broken (frame_rules f (asked_of users methods m pairs f)) ≡ Some number
    → remap_task (version_codes users methods) m n pairs s o ≡ refused number
refused_by users methods m n pairs s f number None going_on is h = absurd cc
refused_by users methods m n pairs s f number (Some ended) going_on is h = absurd cc
refused_by users methods m n pairs s f number (Some (trapped x frames)) going_on is h = absurd cc
refused_by users methods m n pairs s f number (Some (going t)) going_on is h =
    let e : t.top ≡ f = cc in
    in_frame (version_codes users methods) m n pairs s t number (no_flight t going_on)
    (subst (λ (g : Frame Version). first_broken (frame_rules g (asked_of users methods m pairs g)) ≡ Some number) (sym e) h)

pub plan_refuses : (users : ℕ → Option (List ℕ)) (methods : List (Option Version)) (m : Module) (n : ℕ) (pairs : List (ℕ × ℕ)) (s : MachineState Version) (f : Frame Version)
    → (number : ℕ) → goes_on (task_at s n) ≡ true → innermost_in s n ≡ Some f → first_broken (frame_rules f (asked_of users methods m pairs f)) ≡ Some number
    → remap_with (version_codes users methods) m n pairs s ≡ refused number
unfolding remap_with
plan_refuses users methods m n pairs s f number going_on is h = refused_by users methods m n pairs s f number (task_at s n) going_on is h

-- a task that goes on has a frame
some_frame : (o : Option (Task Version)) → goes_on o ≡ true → option_and_then innermost_of o ≡ None → ⊥
some_frame None h is = absurd cc
some_frame (Some ended) h is = absurd cc
some_frame (Some (trapped x frames)) h is = absurd cc
some_frame (Some (going t)) h is = absurd cc

pub has_frame : (codes : Codes Version) (m : Module) (n : ℕ) (pairs : List (ℕ × ℕ)) (s : MachineState Version) → goes_on (task_at s n) ≡ true → innermost_in s n ≡ None
    → remap_with codes m n pairs s ≡ refused 1
has_frame codes m n pairs s h is = absurd (some_frame (task_at s n) h is)

-- the task is idle
idle_by : (f : Frame Version) (o : Option (Task Version)) → goes_on o ≡ true → option_and_then innermost_of o ≡ Some f → length f.stack ≡ 0 → length f.running ≡ 0
    → is_idle o ≡ true
idle_by f None h is stack running = absurd cc
idle_by f (Some ended) h is stack running = absurd cc
idle_by f (Some (trapped x frames)) h is stack running = absurd cc
idle_by f (Some (going t)) h is stack running =
    let e : t.top ≡ f = cc in
    rw (
      no_flight t h,
      is_empty (length t.top.stack) (ap (λ (g : Frame Version). length g.stack) e ∙ stack),
      is_empty (length t.top.running) (ap (λ (g : Frame Version). length g.running) e ∙ running),
    ) refl

pub plan_is_idle : (n : ℕ) (s : MachineState Version) (f : Frame Version) → goes_on (task_at s n) ≡ true → innermost_in s n ≡ Some f
    → length f.stack ≡ 0 → length f.running ≡ 0 → IsTrue (is_idle (task_at s n))
plan_is_idle n s f h is stack running = idle_by f (task_at s n) h is stack running

-- the goal is a place in a sound body, whose user texts are there
pub plan_begins : (users : ℕ → Option (List ℕ)) (m : Module) (methods : List (Option Version)) (pairs : List (ℕ × ℕ)) (f : Frame Version) (v : Version) (to : ℕ) (ks : List Kind)
    → IsSound m → AreBodiesOf users m methods → f.method.table ≡ method_def → IsGoal (asked_of users methods m pairs f) (newest_of methods f.method) v to ks → IsBeginIn v to
plan_begins users m methods pairs f v to ks sound are at g =
    begins_anywhere users m methods f.method v to sound are at g.newest_is
    ((and_parts (is_instruction_start (instructions_of v.code.code) to) (is_at_point v.points.points to) g.stop).0)

pub plan_texts : (users : ℕ → Option (List ℕ)) (m : Module) (methods : List (Option Version)) (pairs : List (ℕ × ℕ)) (f : Frame Version) (v : Version) (to : ℕ) (ks : List Kind)
    → AreBodiesOf users m methods → f.method.table ≡ method_def → IsGoal (asked_of users methods m pairs f) (newest_of methods f.method) v to ks → IsTrue (version_texts users v)
plan_texts users m methods pairs f v to ks are at g = texts_of_newest users m methods f.method v are at g.newest_is
