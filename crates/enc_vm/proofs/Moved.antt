-- Frames that go on in another code: what they mean, that they are placed, and that their user texts are there.
use Rattle.std.proofs.Common.{◌≡◌, ℕ, zero, suc, ◌+◌, Bool, true, false, not, ◌&&◌, ◌||◌, List, [], ◌∷◌, map, length, Option, Some, None, Result, Ok, Err, OnOk, OnErr, IsTrue, refl, sym, ap, ◌∙◌, subst, arith}
use Rattle.std.specs.Prelude.{slice_get, slice_set, is_some, option_map, ◌==◌}
use Rattle.std.specs.List.{list_all}
use Rattle.std.proofs.lemmas.Bool.Decides.{nat_tests}
use Rattle.enc_objects.specs.declared.value.Value.{Value}
use Rattle.enc_opcodes.specs.Body.{Body, body_of}
use Rattle.enc_opcodes.specs.Sound.{begins_at}
use Rattle.enc_plain.specs.Module.{Module}
use Rattle.enc_versions.specs.Version.{Version}
use Rattle.enc_frames.specs.Machine.{Frame, Thread, Task, going, ended, trapped, MachineState, version_world, code_meant, frame_meant, task_meant, state_meant}
use Rattle.enc_frames.specs.Moves.{moved_to}
use Rattle.enc_vm.specs.Anywhere.{ArePlacedAnywhere}
use Rattle.enc_vm.specs.Moves.{MovesMean, IsBeginIn, is_idle, task_moved, moved_at, moved_top}
use Rattle.enc_vm.specs.Placed.{IsFramePlaced, IsTaskPlaced, AreTasksPlaced, is_place_in, lead_to_places}
use Rattle.enc_vm.specs.Step.{task_at}
use Rattle.enc_vm.specs.Texts.{version_texts, task_texts, machine_texts}
use Rattle.enc_vm.proofs.StaysPlaced.{another}
use Rattle.enc_vm.proofs.StepsMeant.{nth_by, set_by}

-- what a moved task means
task_means : (users : ℕ → Option (List ℕ)) (v : Version) (offset : ℕ) (more : List Value) (t : Task Version)
    → task_meant users (task_moved v offset more t) ≡ task_moved (code_meant users v) offset more (task_meant users t)
task_means users v offset more (going t) = refl
task_means users v offset more ended = refl
task_means users v offset more (trapped x frames) = refl

by_task : (users : ℕ → Option (List ℕ)) (i : ℕ) (v : Version) (offset : ℕ) (more : List Value) (s : MachineState Version) (o : Option (Task Version))
    → state_meant users (moved_at i v offset more s o) ≡ moved_at i (code_meant users v) offset more (state_meant users s) (option_map (task_meant users) o)
by_task users i v offset more s None = refl
by_task users i v offset more s (Some t) =
    ap (λ (ts : List (Task _)). record { shared = s.shared; tasks = ts })
    (sym (set_by (task_meant users) s.tasks i (task_moved v offset more t))
    ∙ ap (λ (u : Task _). slice_set (map (task_meant users) s.tasks) i u) (task_means users v offset more t))

pub moves_mean : MovesMean
unfolding moved_top
moves_mean users zero v offset more s = refl
moves_mean users (suc i) v offset more s =
    by_task users i v offset more s (slice_get s.tasks i)
    ∙ ap (moved_at i (code_meant users v) offset more (state_meant users s)) (sym (nth_by (task_meant users) s.tasks i))

-- a task that is idle stays placed
none_running : (b : Body) (f : Frame Version) → (length f.running == 0) ≡ true → lead_to_places b f.running ≡ true
none_running b f h = by_list b f.running h
  where
    by_list : (b : Body) (rs : List _) → (length rs == 0) ≡ true → lead_to_places b rs ≡ true
    by_list b [] h = refl
    by_list b (r ∷ rs) h = absurd (grind (arith, nat_tests, h))

or_first : (a b : Bool) → a ≡ true → (a || b) ≡ true
or_first true b h = refl
or_first false b h = absurd cc

and_second : (a b : Bool) → (a && b) ≡ true → b ≡ true
and_second true b h = h
and_second false b h = absurd cc

task_placed : (users : ℕ → Option (List ℕ)) (m : Module) (methods : List (Option Version)) (v : Version) (offset : ℕ) (more : List Value) (t : Task Version)
    → is_idle (Some t) ≡ true → IsBeginIn v offset → IsTaskPlaced (version_world users m methods) t
    → IsTaskPlaced (version_world users m methods) (task_moved v offset more t)
unfolding version_world
task_placed users m methods v offset more (going t) idle begins p =
    let quiet = and_second (length t.top.stack == 0) (length t.top.running == 0) (and_second (not (is_some t.flight)) _ idle) in
    let is = begins users in (
      record {
        sound = is.0;
        at = or_first (begins_at ((body_of users v.code).code) offset) _ is.1;
        leaves = none_running (body_of users v.code) t.top quiet;
      },
      p.1,
    )
task_placed users m methods v offset more ended idle begins p = tt
task_placed users m methods v offset more (trapped x frames) idle begins p = p

nth_placed : (users : ℕ → Option (List ℕ)) (m : Module) (methods : List (Option Version)) (tasks : List (Task Version)) (i : ℕ) (t : Task Version)
    → slice_get tasks i ≡ Some t → AreTasksPlaced (version_world users m methods) tasks → IsTaskPlaced (version_world users m methods) t
nth_placed users m methods [] i t is p = absurd cc
nth_placed users m methods (x ∷ tasks) zero t is p = let e : x ≡ t = cc in subst (IsTaskPlaced (version_world users m methods)) e p.0
nth_placed users m methods (x ∷ tasks) (suc i) t is p = nth_placed users m methods tasks i t is p.1

pub moved_placed : (tasks : List (Task Version)) (i : ℕ) (v : Version) (offset : ℕ) (more : List Value) (t : Task Version)
    → slice_get tasks i ≡ Some t → is_idle (Some t) ≡ true → IsBeginIn v offset → ArePlacedAnywhere tasks
    → ArePlacedAnywhere (slice_set tasks i (task_moved v offset more t))
moved_placed tasks i v offset more t is idle begins p users m methods =
    another (version_world users m methods) tasks i (task_moved v offset more t) (p users m methods)
    (task_placed users m methods v offset more t idle begins (nth_placed users m methods tasks i t is (p users m methods)))

-- its user texts are there
and_both : (a b : Bool) → a ≡ true → b ≡ true → (a && b) ≡ true
and_both true b e h = h
and_both false b e h = absurd cc

task_has_texts : (users : ℕ → Option (List ℕ)) (v : Version) (offset : ℕ) (more : List Value) (t : Task Version) → version_texts users v ≡ true
    → task_texts users t ≡ true → task_texts users (task_moved v offset more t) ≡ true
task_has_texts users v offset more (going t) new h = and_both (version_texts users v) _ new (and_second (version_texts users t.top.code) _ h)
task_has_texts users v offset more ended new h = h
task_has_texts users v offset more (trapped x frames) new h = h

set_texts : (users : ℕ → Option (List ℕ)) (v : Version) (offset : ℕ) (more : List Value) (tasks : List (Task Version)) (i : ℕ) (t : Task Version)
    → slice_get tasks i ≡ Some t → version_texts users v ≡ true → list_all (task_texts users) tasks ≡ true
    → list_all (task_texts users) (slice_set tasks i (task_moved v offset more t)) ≡ true
set_texts users v offset more [] i t is new h = absurd cc
set_texts users v offset more (x ∷ tasks) zero t is new h =
    let e : x ≡ t = cc in
    and_both (task_texts users (task_moved v offset more t)) _ (task_has_texts users v offset more t new (and_first (task_texts users t) _ (subst (λ (u : Task Version). (task_texts users u && list_all (task_texts users) tasks) ≡ true) e h)))
    (and_second (task_texts users x) _ h)
  where
    and_first : (a b : Bool) → (a && b) ≡ true → a ≡ true
    and_first true b h = refl
    and_first false b h = absurd cc
set_texts users v offset more (x ∷ tasks) (suc i) t is new h =
    and_both (task_texts users x) _ (and_first (task_texts users x) _ h) (set_texts users v offset more tasks i t is new (and_second (task_texts users x) _ h))
  where
    and_first : (a b : Bool) → (a && b) ≡ true → a ≡ true
    and_first true b h = refl
    and_first false b h = absurd cc

at_texts : (users : ℕ → Option (List ℕ)) (i : ℕ) (v : Version) (offset : ℕ) (more : List Value) (s : MachineState Version) (o : Option (Task Version))
    → slice_get s.tasks i ≡ o → version_texts users v ≡ true → list_all (task_texts users) s.tasks ≡ true
    → list_all (task_texts users) ((moved_at i v offset more s o).tasks) ≡ true
at_texts users i v offset more s None is new h = h
at_texts users i v offset more s (Some t) is new h = set_texts users v offset more s.tasks i t is new h

pub moved_texts : (users : ℕ → Option (List ℕ)) (n : ℕ) (v : Version) (offset : ℕ) (more : List Value) (s : MachineState Version)
    → version_texts users v ≡ true → machine_texts users s ≡ true → machine_texts users (moved_top n v offset more s) ≡ true
unfolding moved_top machine_texts
moved_texts users zero v offset more s new h = h
moved_texts users (suc i) v offset more s new h = at_texts users i v offset more s (slice_get s.tasks i) refl new h

-- the machine behind a move, by the task that has the number
pub moved_by_task : (n i : ℕ) (v : Version) (offset : ℕ) (more : List Value) (s : MachineState Version) (t : Task Version) → n ≡ i + 1
    → slice_get s.tasks i ≡ Some t → moved_top n v offset more s ≡ record { shared = s.shared; tasks = slice_set s.tasks i (task_moved v offset more t) }
unfolding moved_top
moved_by_task n i v offset more s t is there =
    let next : n ≡ suc i = omega (arith, is) in
    ap (λ (k : ℕ). moved_top k v offset more s) next ∙ ap (moved_at i v offset more s) there

-- what a task became by a move, or stayed without memory
pub either_placed : {A E : Type 0} (result : Result A E) (tasks : List (Task Version)) (i : ℕ) (v : Version) (offset : ℕ) (more : List Value) (t u : Task Version)
    → slice_get tasks i ≡ Some t → is_idle (Some t) ≡ true → IsBeginIn v offset → ArePlacedAnywhere tasks
    → OnOk result (u ≡ task_moved v offset more t) → OnErr result (u ≡ t) → ArePlacedAnywhere (slice_set tasks i u)
either_placed (Ok x) tasks i v offset more t u is idle begins p ok err =
    subst (λ (w : Task Version). ArePlacedAnywhere (slice_set tasks i w)) (sym ok) (moved_placed tasks i v offset more t is idle begins p)
either_placed (Err e) tasks i v offset more t u is idle begins p ok err =
    λ users m methods. another (version_world users m methods) tasks i u (p users m methods)
    (subst (IsTaskPlaced (version_world users m methods)) (sym err) (nth_placed users m methods tasks i t is (p users m methods)))

pub idle_at : (n i : ℕ) (s : MachineState Version) (t : Task Version) → n ≡ i + 1 → slice_get s.tasks i ≡ Some t → is_idle (task_at s n) ≡ true → is_idle (Some t) ≡ true
idle_at n i s t is there h =
    let next : n ≡ suc i = omega (arith, is) in
    sym (ap is_idle there) ∙ sym (ap (λ (k : ℕ). is_idle (task_at s k)) next) ∙ h

pub ok_then : {A E : Type 0} {P Q : Type 0} (result : Result A E) → (P → Q) → OnOk result P → OnOk result Q
ok_then (Ok x) f p = f p
ok_then (Err e) f p = tt
