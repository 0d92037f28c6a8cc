-- Texts of the things of a list, one more at its end.
use Rattle.std.proofs.Common.{◌≡◌, ℕ, zero, suc, ◌+◌, ◌<◌, List, [], ◌∷◌, ◌++◌, Option, take, length, refl, sym, ap, ◌∙◌, append_assoc, append-nil, arith, add-one, option_map, slice_get}
use Rattle.std.specs.Prelude.{flat_map, unwrap_or, is_some, true}
use Rattle.enc_objects.specs.Objects.{Store, object_at, has_object}
use Rattle.enc_objects.specs.declared.object.Object.{Object}
use Rattle.enc_session.specs.States.{object_line, objects_text, task_text, tasks_text}
use Rattle.enc_session.specs.StatesSeen.{object_line_at, task_text_at}
use Rattle.enc_frames.specs.Machine.{Task, MachineState}
use Rattle.enc_vm.specs.Step.{task_at}

-- without numbers
each_suc : {X : Type 0} (f : X → List ℕ) (xs : List X) (i : ℕ) → flat_map f (take (suc i) xs) ≡ flat_map f (take i xs) ++ unwrap_or (option_map f (slice_get xs i)) []
each_suc f [] zero = refl
each_suc f [] (suc i) = refl
each_suc f (x ∷ xs) zero = append-nil (f x)
each_suc f (x ∷ xs) (suc i) = rw (each_suc f xs i) (sym (append_assoc (f x) (flat_map f (take i xs)) (unwrap_or (option_map f (slice_get xs i)) [])))

pub each_more : {X : Type 0} (f : X → List ℕ) (xs : List X) (i : ℕ) (old now new : List ℕ)
    → now ≡ old ++ flat_map f (take i xs) → new ≡ now ++ unwrap_or (option_map f (slice_get xs i)) [] → new ≡ old ++ flat_map f (take (i + 1) xs)
each_more f xs i old now new before more =
    more ∙ rw (before, add-one i, each_suc f xs i) (append_assoc old (flat_map f (take i xs)) (unwrap_or (option_map f (slice_get xs i)) []))

-- with numbers
numbered_suc : {X : Type 0} (all : ℕ → List X → List ℕ) (f : ℕ → X → List ℕ) → ((n : ℕ) → all n [] ≡ []) → ((n : ℕ) (x : X) (xs : List X) → all n (x ∷ xs) ≡ f n x ++ all (n + 1) xs)
    → (n : ℕ) (xs : List X) (i : ℕ) → all n (take (suc i) xs) ≡ all n (take i xs) ++ unwrap_or (option_map (f (n + i)) (slice_get xs i)) []
numbered_suc all f none some n [] zero = rw (none n) refl
numbered_suc all f none some n [] (suc i) = rw (none n) refl
numbered_suc all f none some n (x ∷ xs) zero =
    let e : n + 0 ≡ n = omega arith in
    some n x [] ∙ ap (λ (t : List ℕ). f n x ++ t) (none (n + 1)) ∙ append-nil (f n x) ∙ sym (ap (λ (t : List ℕ). t ++ f (n + 0) x) (none n) ∙ ap (λ (k : ℕ). f k x) e)
numbered_suc all f none some n (x ∷ xs) (suc i) =
    let e : n + suc i ≡ (n + 1) + i = omega arith in
    some n x (take (suc i) xs) ∙ ap (λ (t : List ℕ). f n x ++ t) (numbered_suc all f none some (n + 1) xs i)
    ∙ sym (append_assoc (f n x) (all (n + 1) (take i xs)) (unwrap_or (option_map (f ((n + 1) + i)) (slice_get xs i)) []))
    ∙ sym (ap (λ (t : List ℕ). t ++ unwrap_or (option_map (f (n + suc i)) (slice_get xs i)) []) (some n x (take i xs))
    ∙ ap (λ (k : ℕ). (f n x ++ all (n + 1) (take i xs)) ++ unwrap_or (option_map (f k) (slice_get xs i)) []) e)

numbered_more : {X : Type 0} (all : ℕ → List X → List ℕ) (f : ℕ → X → List ℕ) → ((n : ℕ) → all n [] ≡ []) → ((n : ℕ) (x : X) (xs : List X) → all n (x ∷ xs) ≡ f n x ++ all (n + 1) xs)
    → (xs : List X) (i : ℕ) (old now new : List ℕ) → now ≡ old ++ all 1 (take i xs) → new ≡ now ++ unwrap_or (option_map (f (i + 1)) (slice_get xs i)) []
    → new ≡ old ++ all 1 (take (i + 1) xs)
numbered_more all f none some xs i old now new before more =
    let e : 1 + i ≡ i + 1 = omega arith in
    let step : all 1 (take (suc i) xs) ≡ all 1 (take i xs) ++ unwrap_or (option_map (f (i + 1)) (slice_get xs i)) [] =
    numbered_suc all f none some 1 xs i ∙ ap (λ (k : ℕ). all 1 (take i xs) ++ unwrap_or (option_map (f k) (slice_get xs i)) []) e in
    more ∙ ap (λ (t : List ℕ). t ++ unwrap_or (option_map (f (i + 1)) (slice_get xs i)) []) before
    ∙ append_assoc old (all 1 (take i xs)) (unwrap_or (option_map (f (i + 1)) (slice_get xs i)) [])
    ∙ ap (λ (t : List ℕ). old ++ t) (sym step) ∙ ap (λ (k : ℕ). old ++ all 1 (take k xs)) (sym (add-one i))

object_at_next : (s : Store) (i : ℕ) → object_at s (i + 1) ≡ slice_get s.objects i
object_at_next s i = rw (add-one i) refl

-- one object more
pub objects_more : (s : Store) (i : ℕ) (old now new : List ℕ) → now ≡ old ++ objects_text 1 (take i s.objects) → new ≡ now ++ object_line_at s (i + 1)
    → new ≡ old ++ objects_text 1 (take (i + 1) s.objects)
unfolding object_line_at
objects_more s i old now new before more =
    numbered_more objects_text object_line (λ n. refl) (λ n x xs. refl) s.objects i old now new before
    (more ∙ ap (λ (o : Option Object). now ++ unwrap_or (option_map (object_line (i + 1)) o) []) (object_at_next s i))

-- that is there
pub object_there : (s : Store) (i : ℕ) → i < length s.objects → has_object s (i + 1) ≡ true
unfolding has_object
object_there s i h = ap (λ (o : Option Object). is_some o) (object_at_next s i) ∙ there s.objects i h
  where
    there : {X : Type 0} (xs : List X) (k : ℕ) → k < length xs → is_some (slice_get xs k) ≡ true
    there [] k h = absurd (omega arith)
    there (x ∷ xs) zero h = refl
    there (x ∷ xs) (suc k) h = there xs k (omega arith)

task_at_next : {C : Type 0} (s : MachineState C) (i : ℕ) → task_at s (i + 1) ≡ slice_get s.tasks i
task_at_next s i = rw (add-one i) refl

-- one task more
pub tasks_more : {C : Type 0} (s : MachineState C) (i : ℕ) (old now new : List ℕ) → now ≡ old ++ tasks_text 1 (take i s.tasks) → new ≡ now ++ task_text_at s (i + 1)
    → new ≡ old ++ tasks_text 1 (take (i + 1) s.tasks)
unfolding task_text_at
tasks_more s i old now new before more =
    numbered_more tasks_text task_text (λ n. refl) (λ n x xs. refl) s.tasks i old now new before
    (more ∙ ap (λ (o : Option (Task _)). now ++ unwrap_or (option_map (task_text (i + 1)) o) []) (task_at_next s i))
