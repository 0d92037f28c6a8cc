-- Each task has a generation for each of its frames, whatever happens.
use Rattle.std.proofs.Common.{◌≡◌, ℕ, zero, suc, ◌-◌, List, [], ◌∷◌, ◌++◌, length, map, take, drop, get_or, Option, Some, None, option_map, slice_get, slice_set, refl, sym, ap, ◌∙◌, subst, arith, length-append, length-take, length-drop}
use Rattle.std.proofs.lemmas.List.{length-map, map-append}
use Rattle.std.specs.Prelude.{unwrap_or}
use Rattle.enc_base.specs.declared.token.Token.{Token}
use Rattle.enc_frames.specs.Machine.{PlainCode, World, Frame, Task, going, ended, trapped, MachineState}
use Rattle.enc_objects.specs.declared.kind.Kind.{Kind}
use Rattle.enc_objects.specs.declared.value.Value.{Value}
use Rattle.enc_plain.specs.Debug.{PlainPdb}
use Rattle.enc_plain.specs.Module.{Module}
use Rattle.enc_remap.specs.Remap.{Remapping, moved, refused, Codes, plain_codes, move_of, first_broken, thread_rules, goal, new_kinds, remap_in, remap_with, remap_task, remap_by}
use Rattle.enc_vm.specs.Looks.{frames_of, frames_in}
use Rattle.enc_vm.specs.Moves.{task_moved, moved_at, moved_top}
use Rattle.enc_vm.specs.Step.{Ending, Stepped, step_task, task_at, state_with, begun, spawn_in}
use Rattle.enc_vm.specs.Turns.{went, turn_by, machine_turn}
use Rattle.enc_frames.specs.Results.{Shown}
use Rattle.enc_session.proofs.Begun.{begun_last}
use Rattle.enc_session.specs.Recording.{HaveGenerations, generations_of, generations_now, with_first_generation}

abbrev count_of : List ℕ → ℕ
count_of ds = length ds

abbrev depth_of : {C : Type 0} → Task C → ℕ
depth_of t = length (frames_of t)

-- as many generations as frames
generations_now_length : {C : Type 0} (generation : Token → ℕ) (frames : List (Frame C)) (generations : List ℕ) → length (generations_now generation frames generations) ≡ length frames
unfolding generations_now
generations_now_length generation frames generations =
    let n = length frames - length generations in let k = length generations - length frames in
    let e = length-append (map (λ (f : Frame _). generation f.method) (take n frames)) (drop k generations) in
    let f = length-map (take n frames) (λ (f : Frame _). generation f.method) in
    let g = length-take n frames in
    let h = length-drop k generations in
    omega (arith, e, f, g, h)

first_length : (generation : ℕ) (generations : List ℕ) → length (with_first_generation generation generations) ≡ length generations
first_length generation [] = refl
first_length generation (d ∷ generations) = refl

-- one of a list changed
map_set : {X Y : Type 0} (f : X → Y) (xs : List X) (i : ℕ) (x : X) → map f (slice_set xs i x) ≡ slice_set (map f xs) i (f x)
map_set f [] i x = refl
map_set f (y ∷ xs) zero x = refl
map_set f (y ∷ xs) (suc i) x = ap (λ (ys : List _). f y ∷ ys) (map_set f xs i x)

same_at : {X Y : Type 0} (f : X → Y) (xs : List X) (i : ℕ) (x y : X) → slice_get xs i ≡ Some y → f x ≡ f y → map f (slice_set xs i x) ≡ map f xs
same_at f [] i x y is same = refl
same_at f (z ∷ xs) zero x y is same = let e : z ≡ y = cc in ap (λ (n : _). n ∷ map f xs) (same ∙ sym (ap f e))
same_at f (z ∷ xs) (suc i) x y is same = ap (λ (ys : List _). f z ∷ ys) (same_at f xs i x y is same)

set_there : {X : Type 0} (xs : List X) (i : ℕ) (x y : X) → slice_get xs i ≡ Some y → slice_get (slice_set xs i x) i ≡ Some x
set_there [] i x y is = absurd cc
set_there (z ∷ xs) zero x y is = refl
set_there (z ∷ xs) (suc i) x y is = set_there xs i x y is

-- a spawn
pub spawn_has_generations : (w : World PlainCode) (method : Token) (generation : Token → ℕ) (s u : MachineState PlainCode) (n : ℕ) (generations new : List (List ℕ))
    → spawn_in w method s ≡ begun n u → new ≡ generations ++ generations_now generation (frames_in u n) [] ∷ [] → HaveGenerations s generations → HaveGenerations u new
spawn_has_generations w method generation s u n generations new is next are =
    let last = begun_last w method s n u is in
    let one = generations_now generation (frames_in u n) [] in
    ap (map count_of) next ∙ map-append count_of generations (one ∷ []) ∙ ap (λ (ns : List ℕ). ns ++ length one ∷ []) are
    ∙ ap (λ (k : ℕ). map depth_of s.tasks ++ k ∷ []) (generations_now_length generation (frames_in u n) [] ∙ ap (λ (fs : List (Frame PlainCode)). length fs) last.2)
    ∙ sym (ap (map depth_of) last.1 ∙ map-append depth_of s.tasks (last.0 ∷ []))

-- a step
by_step : (generation : Token → ℕ) (i : ℕ) (s u : MachineState PlainCode) (generations : List (List ℕ)) (t : Task PlainCode) (x : Stepped PlainCode)
    → slice_get s.tasks i ≡ Some t → state_with i x s ≡ u → HaveGenerations s generations
    → HaveGenerations u (slice_set generations i (generations_now generation (frames_in u (suc i)) (get_or generations i [])))
by_step generation i s u generations t x there is are =
    let frames : frames_in u (suc i) ≡ frames_of x.task =
    ap (λ (m : MachineState PlainCode). frames_in m (suc i)) (sym is)
    ∙ ap (λ (o : Option (Task PlainCode)). unwrap_or (option_map frames_of o) []) (set_there s.tasks i x.task t there) in
    map_set count_of generations i (generations_now generation (frames_in u (suc i)) (get_or generations i []))
    ∙ ap (λ (k : ℕ). slice_set (map count_of generations) i k)
    (generations_now_length generation (frames_in u (suc i)) (get_or generations i []) ∙ ap (λ (fs : List (Frame PlainCode)). length fs) frames)
    ∙ ap (λ (ns : List ℕ). slice_set ns i (depth_of x.task)) are ∙ sym (map_set depth_of s.tasks i x.task)
    ∙ ap (λ (m : MachineState PlainCode). map depth_of m.tasks) is

by_task : (w : World PlainCode) (generation : Token → ℕ) (i : ℕ) (s u : MachineState PlainCode) (generations : List (List ℕ)) (o : Option (Task PlainCode))
    (how : Ending) (line : Option ℕ) (shown : Shown) → slice_get s.tasks i ≡ o
    → turn_by i s (option_map (λ (t : Task PlainCode). step_task w s.shared t) o) ≡ went how u line shown → HaveGenerations s generations
    → HaveGenerations u (slice_set generations i (generations_now generation (frames_in u (suc i)) (get_or generations i [])))
by_task w generation i s u generations None how line shown there is are = absurd cc
by_task w generation i s u generations (Some t) how line shown there is are = by (step_task w s.shared t) is
  where
    by : (p : Option (Stepped PlainCode)) → turn_by i s (Some p) ≡ went how u line shown
        → HaveGenerations u (slice_set generations i (generations_now generation (frames_in u (suc i)) (get_or generations i [])))
    by None e = absurd cc
    by (Some x) e = let same : state_with i x s ≡ u = cc in by_step generation i s u generations t x there same are

pub step_has_generations : (w : World PlainCode) (generation : Token → ℕ) (task : ℕ) (s u : MachineState PlainCode) (generations new : List (List ℕ)) (how : Ending) (line : Option ℕ)
    (shown : Shown) → machine_turn w task s ≡ went how u line shown → new ≡ slice_set generations (task - 1) (generations_now generation (frames_in u task) (generations_of generations task))
    → HaveGenerations s generations → HaveGenerations u new
unfolding machine_turn
step_has_generations w generation zero s u generations new how line shown is next are = absurd cc
step_has_generations w generation (suc i) s u generations new how line shown is next are =
    let e : suc i - 1 ≡ i = omega arith in
    rw next (rw e (by_task w generation i s u generations (slice_get s.tasks i) how line shown refl is are))

-- a remap
moved_depth : (code : PlainCode) (offset : ℕ) (more : List Value) (t : Task PlainCode) → depth_of (task_moved code offset more t) ≡ depth_of t
moved_depth code offset more (going t) = refl
moved_depth code offset more ended = refl
moved_depth code offset more (trapped x frames) = refl

depths_at : (i : ℕ) (code : PlainCode) (offset : ℕ) (more : List Value) (s : MachineState PlainCode) (o : Option (Task PlainCode)) → slice_get s.tasks i ≡ o
    → map depth_of (moved_at i code offset more s o).tasks ≡ map depth_of s.tasks
depths_at i code offset more s None is = refl
depths_at i code offset more s (Some t) is = same_at depth_of s.tasks i (task_moved code offset more t) t is (moved_depth code offset more t)

moved_depths : (n : ℕ) (code : PlainCode) (offset : ℕ) (more : List Value) (s : MachineState PlainCode)
    → map depth_of (moved_top n code offset more s).tasks ≡ map depth_of s.tasks
unfolding moved_top
moved_depths zero code offset more s = refl
moved_depths (suc i) code offset more s = depths_at i code offset more s (slice_get s.tasks i) refl

abbrev KeepsDepths : MachineState PlainCode → Remapping PlainCode → Type 0
KeepsDepths s (moved method from to u) = map depth_of u.tasks ≡ map depth_of s.tasks
KeepsDepths s (refused number) = Unit {0}

kept_by : (n : ℕ) (s : MachineState PlainCode) (f : Frame PlainCode) (broken : Option ℕ) (code : Option PlainCode) (to : Option ℕ) (kinds : Option (List Kind))
    → KeepsDepths s (remap_by n s f broken code to kinds)
kept_by n s f None (Some code) (Some to) (Some kinds) = moved_depths n code to _ s
kept_by n s f (Some number) code to kinds = tt
kept_by n s f None None to kinds = tt
kept_by n s f None (Some code) None kinds = tt
kept_by n s f None (Some code) (Some to) None = tt

kept_of : (codes : Codes PlainCode) (m : Module) (n : ℕ) (pairs : List (ℕ × ℕ)) (s : MachineState PlainCode) (o : Option (Task PlainCode))
    → KeepsDepths s (remap_task codes m n pairs s o)
kept_of codes m n pairs s None = tt
kept_of codes m n pairs s (Some ended) = tt
kept_of codes m n pairs s (Some (trapped x frames)) = tt
kept_of codes m n pairs s (Some (going t)) =
    let x = move_of codes m pairs t.top in
    kept_by n s t.top (first_broken (thread_rules t x)) (codes.newest t.top.method) (goal x) (new_kinds x)

remap_keeps : (m : Module) (debug : PlainPdb) (n : ℕ) (pairs : List (ℕ × ℕ)) (s : MachineState PlainCode) → KeepsDepths s (remap_in m debug n pairs s)
unfolding remap_in remap_with
remap_keeps m debug n pairs s = kept_of (plain_codes m debug) m n pairs s (task_at s n)

generations_moved : (generation i : ℕ) (generations : List (List ℕ)) → map count_of (slice_set generations i (with_first_generation generation (get_or generations i []))) ≡ map count_of generations
generations_moved generation i [] = refl
generations_moved generation zero (ds ∷ generations) = ap (λ (k : ℕ). k ∷ map count_of generations) (first_length generation ds)
generations_moved generation (suc i) (ds ∷ generations) = ap (λ (ns : List ℕ). length ds ∷ ns) (generations_moved generation i generations)

pub remap_has_generations : (m : Module) (debug : PlainPdb) (task generation from to : ℕ) (method : Token) (pairs : List (ℕ × ℕ)) (s u : MachineState PlainCode) (generations new : List (List ℕ))
    → remap_in m debug task pairs s ≡ moved method from to u → new ≡ slice_set generations (task - 1) (with_first_generation generation (generations_of generations task))
    → HaveGenerations s generations → HaveGenerations u new
remap_has_generations m debug task generation from to method pairs s u generations new is next are =
    let kept : KeepsDepths s (moved method from to u) = subst (KeepsDepths s) is (remap_keeps m debug task pairs s) in
    ap (map count_of) next ∙ generations_moved generation (task - 1) generations ∙ are ∙ sym kept
