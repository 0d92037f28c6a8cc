-- The remap of frames that hold versions means that of the frames that they mean.
use Rattle.std.proofs.Common.{◌≡◌, ℕ, List, map, Option, Some, None, Result, Ok, Err, refl, sym, ap, subst, ◌∙◌}
use Rattle.std.specs.Prelude.{option_map}
use Rattle.std.specs.declared.alloc.AllocError.{AllocError}
use Rattle.enc_frames.specs.Machine.{PlainCode, Frame, Thread, Task, going, ended, trapped, MachineState, code_meant, frame_meant, thread_meant, task_meant, state_meant}
use Rattle.enc_objects.specs.Values.{default_of}
use Rattle.enc_objects.specs.declared.kind.Kind.{Kind}
use Rattle.enc_plain.specs.Debug.{PlainPdb}
use Rattle.enc_plain.specs.Module.{Module}
use Rattle.enc_plain.specs.Sound.{IsSound}
use Rattle.enc_versions.specs.StandFor.{AreVersionsOf}
use Rattle.enc_versions.specs.Version.{Version, newest_of}
use Rattle.enc_vm.proofs.Moved.{moves_mean}
use Rattle.enc_vm.proofs.StepsMeant.{tasks_mean}
use Rattle.enc_vm.specs.Step.{task_at}
use Rattle.enc_remap.specs.Remap.{Move, Remapping, moved, refused, remap_by, remap_task, remap_with, remap_in, move_of, plain_codes, first_broken, thread_rules, goal, new_kinds}
use Rattle.enc_remap.specs.Seen.{IsRemap, IsPlainRemap, version_codes}
use Rattle.enc_remap.specs.declared.remapped.Remapped.{Remapped}
use Rattle.enc_remap.specs.declared.remapped.Remapped.TheVariants as remapped
use Rattle.enc_remap.proofs.Newest.{newest_meant}

abbrev remapping_meant : (ℕ → Option (List ℕ)) → Remapping Version → Remapping PlainCode
remapping_meant users (moved method from to s) = moved method from to (state_meant users s)
remapping_meant users (refused number) = refused number

by_parts : (users : ℕ → Option (List ℕ)) (n : ℕ) (s : MachineState Version) (f : Frame Version) (r : Option ℕ) (o : Option Version) (to : Option ℕ) (ks : Option (List Kind))
    → remap_by n (state_meant users s) (frame_meant users f) r (option_map (code_meant users) o) to ks ≡ remapping_meant users (remap_by n s f r o to ks)
by_parts users n s f (Some number) o to ks = refl
by_parts users n s f None None to ks = refl
by_parts users n s f None (Some v) None ks = refl
by_parts users n s f None (Some v) (Some to) None = refl
by_parts users n s f None (Some v) (Some to) (Some ks) =
    ap (λ (z : MachineState PlainCode). moved f.method f.offset to z) (sym (moves_mean users n v to (map default_of ks) s))

same_option : {A : Type 0} (o : Option A) → option_map (λ (x : A). x) o ≡ o
same_option None = refl
same_option (Some x) = refl

-- by the newest code
move_with : Module → List (ℕ × ℕ) → (ℕ → Option (List ℕ)) → Frame Version → Option PlainCode → Move
move_with m pairs users f newest = record { plain = m; method = f.method; code = code_meant users f.code; newest = newest; from = f.offset; pairs = pairs }

thread_means : (users : ℕ → Option (List ℕ)) (m : Module) (debug : PlainPdb) (methods : List (Option Version)) (n : ℕ) (pairs : List (ℕ × ℕ)) (s : MachineState Version) (t : Thread Version)
    → IsSound m → AreVersionsOf users m debug methods
    → remap_task (plain_codes m debug) m n pairs (state_meant users s) (Some (going (thread_meant users t)))
    ≡ remapping_meant users (remap_task (version_codes users methods) m n pairs s (Some (going t)))
thread_means users m debug methods n pairs s t sound are =
    let same = newest_meant users m debug methods t.top.method sound are in
    ap (λ (o : Option PlainCode). remap_by n (state_meant users s) (frame_meant users t.top) (first_broken (thread_rules (thread_meant users t) (record { plain = m; method = t.top.method; code = code_meant users t.top.code; newest = option_map (λ (c : PlainCode). c) o; from = t.top.offset; pairs = pairs })))
    o (goal (move_of (version_codes users methods) m pairs t.top))
    (new_kinds (record { plain = m; method = t.top.method; code = code_meant users t.top.code; newest = option_map (λ (c : PlainCode). c) o; from = t.top.offset; pairs = pairs }))) same
    ∙ ap (λ (o : Option PlainCode). remap_by n (state_meant users s) (frame_meant users t.top) (first_broken (thread_rules (thread_meant users t) (record { plain = m; method = t.top.method; code = code_meant users t.top.code; newest = o; from = t.top.offset; pairs = pairs })))
    (option_map (code_meant users) (newest_of methods t.top.method)) (goal (move_of (version_codes users methods) m pairs t.top))
    (new_kinds (record { plain = m; method = t.top.method; code = code_meant users t.top.code; newest = o; from = t.top.offset; pairs = pairs }))) (same_option (option_map (code_meant users) (newest_of methods t.top.method)))
    ∙ by_parts users n s t.top (first_broken (thread_rules t (move_of (version_codes users methods) m pairs t.top))) (newest_of methods t.top.method)
    (goal (move_of (version_codes users methods) m pairs t.top)) (new_kinds (move_of (version_codes users methods) m pairs t.top))

task_means : (users : ℕ → Option (List ℕ)) (m : Module) (debug : PlainPdb) (methods : List (Option Version)) (n : ℕ) (pairs : List (ℕ × ℕ)) (s : MachineState Version) (o : Option (Task Version))
    → IsSound m → AreVersionsOf users m debug methods
    → remap_task (plain_codes m debug) m n pairs (state_meant users s) (option_map (task_meant users) o)
    ≡ remapping_meant users (remap_task (version_codes users methods) m n pairs s o)
task_means users m debug methods n pairs s None sound are = refl
task_means users m debug methods n pairs s (Some ended) sound are = refl
task_means users m debug methods n pairs s (Some (trapped x frames)) sound are = refl
task_means users m debug methods n pairs s (Some (going t)) sound are = thread_means users m debug methods n pairs s t sound are

remaps_mean : (users : ℕ → Option (List ℕ)) (m : Module) (debug : PlainPdb) (methods : List (Option Version)) (n : ℕ) (pairs : List (ℕ × ℕ)) (s : MachineState Version)
    → IsSound m → AreVersionsOf users m debug methods
    → remap_in m debug n pairs (state_meant users s) ≡ remapping_meant users (remap_with (version_codes users methods) m n pairs s)
unfolding remap_in remap_with
remaps_mean users m debug methods n pairs s sound are =
    ap (remap_task (plain_codes m debug) m n pairs (state_meant users s)) (tasks_mean users s n)
    ∙ task_means users m debug methods n pairs s (task_at s n) sound are

remap_is_meant : (users : ℕ → Option (List ℕ)) (result : Result Remapped AllocError) (new old : MachineState Version) (said : Remapping Version)
    → IsRemap result new old said → IsRemap result (state_meant users new) (state_meant users old) (remapping_meant users said)
remap_is_meant users (Ok (remapped.Moved method from to)) new old said h = ap (remapping_meant users) h
remap_is_meant users (Ok (remapped.Refused number)) new old said h = (ap (remapping_meant users) h.0, ap (state_meant users) h.1)
remap_is_meant users (Err e) new old said h = ap (state_meant users) h

-- a remap of versions is the plain machine's
pub plain_remap : (users : ℕ → Option (List ℕ)) (m : Module) (methods : List (Option Version)) (task : ℕ) (pairs : List (ℕ × ℕ)) (result : Result Remapped AllocError) (new old : MachineState Version)
    → IsSound m → IsRemap result new old (remap_with (version_codes users methods) m task pairs old) → IsPlainRemap users m methods task pairs result new old
plain_remap users m methods task pairs result new old sound h debug are =
    subst (λ (x : Remapping PlainCode). IsRemap result (state_meant users new) (state_meant users old) x) (sym (remaps_mean users m debug methods task pairs old sound are))
    (remap_is_meant users result new old (remap_with (version_codes users methods) m task pairs old) h)
