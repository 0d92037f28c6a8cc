-- What comes of a spawn.
use Rattle.std.proofs.Common.{◌≡◌, ℕ, ◌+◌, ◌<◌, ◌≤◌, Bool, true, false, List, [], ◌∷◌, ◌++◌, length, Option, Some, None, refl, sym, ap, ◌∙◌, arith}
use Rattle.std.specs.Prelude.{nat_le, if◌then◌else◌}
use Rattle.std.proofs.lemmas.Bool.Decides.{nat_tests}
use Rattle.enc_base.specs.declared.token.Token.{Token}
use Rattle.enc_plain.specs.Module.{Module}
use Rattle.enc_versions.specs.Version.{Version}
use Rattle.enc_vm.specs.Calls.{declaring, with_type}
use Rattle.enc_frames.specs.FramesSeen.{shared_by}
use Rattle.enc_frames.specs.Machine.{Frame, Thread, going, MachineState, version_world}
use Rattle.enc_vm.specs.Step.{begun, too_many, no_method, may_spawn, frame_now, constructor_frame, first_thread, spawned_with, most_tasks, spawn_in, with_task}

spawn_by : (users : ℕ → Option (List ℕ)) (m : Module) (methods : List (Option Version)) (method : Token) (s : MachineState Version) (full may : Bool) (o : Option (Frame Version))
    → nat_le most_tasks (length s.tasks) ≡ full → may_spawn m method ≡ may → frame_now (version_world users m methods) method ≡ o
    → spawn_in (version_world users m methods) method s
    ≡ (if full then too_many else if may then spawned_with (version_world users m methods) method o s else no_method)
unfolding spawn_in version_world
spawn_by users m methods method s full may o a b c =
    ap (λ (x : Bool). if x then too_many else if may_spawn m method then spawned_with (version_world users m methods) method (frame_now (version_world users m methods) method) s else no_method) a
    ∙ ap (λ (x : Bool). if full then too_many else if x then spawned_with (version_world users m methods) method (frame_now (version_world users m methods) method) s else no_method) b
    ∙ ap (λ (x : Option (Frame Version)). if full then too_many else if may then spawned_with (version_world users m methods) method x s else no_method) c

is_full : (n : ℕ) → 64 ≤ n → nat_le 64 n ≡ true
is_full n h = grind (arith, nat_tests)

has_room : (n : ℕ) → n < 64 → nat_le 64 n ≡ false
has_room n h = grind (arith, nat_tests)

-- there are as many tasks as there can be
pub limit : (users : ℕ → Option (List ℕ)) (m : Module) (methods : List (Option Version)) (method : Token) (s : MachineState Version) → 64 ≤ length s.tasks
    → spawn_in (version_world users m methods) method s ≡ too_many
limit users m methods method s h = spawn_by users m methods method s true (may_spawn m method) _ (is_full (length s.tasks) h) refl refl

-- a task can't begin with the method
pub no_spawn : (users : ℕ → Option (List ℕ)) (m : Module) (methods : List (Option Version)) (method : Token) (s : MachineState Version) → length s.tasks < 64
    → may_spawn m method ≡ false → spawn_in (version_world users m methods) method s ≡ no_method
no_spawn users m methods method s h e = spawn_by users m methods method s false false _ (has_room (length s.tasks) h) e refl

pub no_frame : (users : ℕ → Option (List ℕ)) (m : Module) (methods : List (Option Version)) (method : Token) (s : MachineState Version) → length s.tasks < 64
    → may_spawn m method ≡ true → frame_now (version_world users m methods) method ≡ None → spawn_in (version_world users m methods) method s ≡ no_method
no_frame users m methods method s h e f = spawn_by users m methods method s false true None (has_room (length s.tasks) h) e f

with_is : (users : ℕ → Option (List ℕ)) (m : Module) (methods : List (Option Version)) (method : Token) (s : MachineState Version) (f : Frame Version)
    → with_task (version_world users m methods) method f s
    ≡ record {
      shared = shared_by s.shared.store (with_type (declaring m method) s.shared.touched);
      tasks = s.tasks ++ going (first_thread f (constructor_frame (version_world users m methods) s.shared (declaring m method))) ∷ [];
    }
unfolding version_world
with_is users m methods method s f = refl

-- a task begins
pub task_begun : (users : ℕ → Option (List ℕ)) (m : Module) (methods : List (Option Version)) (method owner : Token) (s : MachineState Version) (f : Frame Version) (c : Option (Frame Version))
    (thread : Thread Version) (touched : List Token) → length s.tasks < 64
    → may_spawn m method ≡ true → frame_now (version_world users m methods) method ≡ Some f → owner ≡ declaring m method
    → c ≡ constructor_frame (version_world users m methods) s.shared owner → thread ≡ first_thread f c → touched ≡ with_type owner s.shared.touched
    → spawn_in (version_world users m methods) method s
    ≡ begun (length s.tasks + 1) (record { shared = shared_by s.shared.store touched; tasks = s.tasks ++ going thread ∷ [] })
task_begun users m methods method owner s f c thread touched h e now own con is marked =
    spawn_by users m methods method s false true (Some f) (has_room (length s.tasks) h) e now
    ∙ ap (begun (length s.tasks + 1))
    (with_is users m methods method s f
    ∙ ap (λ (o : Token). record {
      shared = shared_by s.shared.store (with_type o s.shared.touched);
      tasks = s.tasks ++ going (first_thread f (constructor_frame (version_world users m methods) s.shared o)) ∷ [];
    }) (sym own)
    ∙ ap (λ (l : List Token). record { shared = shared_by s.shared.store l; tasks = s.tasks ++ going (first_thread f (constructor_frame (version_world users m methods) s.shared owner)) ∷ [] }) (sym marked)
    ∙ ap (λ (o : Option (Frame Version)). record { shared = shared_by s.shared.store touched; tasks = s.tasks ++ going (first_thread f o) ∷ [] }) (sym con)
    ∙ ap (λ (t : Thread Version). record { shared = shared_by s.shared.store touched; tasks = s.tasks ++ going t ∷ [] }) (sym is))
