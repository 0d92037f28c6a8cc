-- What the plain machine shows is what the program's machine shows.
use Rattle.std.proofs.Common.{◌≡◌, ℕ, List, [], ◌∷◌, ◌++◌, map, reverse, slice_get, Option, Some, None, refl, sym, ap, ◌∙◌, option_map, option_and_then}
use Rattle.std.proofs.lemmas.List.{reverse-append}
use Rattle.enc_versions.specs.Version.{Version}
use Rattle.enc_vm.proofs.StepsMeant.{nth_by, tasks_mean}
use Rattle.enc_vm.specs.Looks.{frames_of, frame_from, FramesLookAlike}
use Rattle.enc_frames.specs.Machine.{PlainCode, Frame, Task, going, ended, trapped, frame_meant, task_meant}
use Rattle.enc_vm.specs.Step.{task_at}

map_ends : {A B : Type 0} (g : A → B) (xs : List A) (x : A) → map g (xs ++ x ∷ []) ≡ map g xs ++ g x ∷ []
map_ends g [] x = refl
map_ends g (y ∷ ys) x = ap (λ (l : List _). g y ∷ l) (map_ends g ys x)

reversed_map : {A B : Type 0} (g : A → B) (xs : List A) → reverse (map g xs) ≡ map g (reverse xs)
reversed_map g [] = refl
reversed_map g (x ∷ xs) =
    reverse-append (g x ∷ []) (map g xs)
    ∙ ap (λ (l : List _). l ++ g x ∷ []) (reversed_map g xs)
    ∙ sym (map_ends g (reverse xs) x)
    ∙ ap (map g) (sym (reverse-append (x ∷ []) xs))

frames_meant : (users : ℕ → Option (List ℕ)) (t : Task Version) → frames_of (task_meant users t) ≡ map (frame_meant users) (frames_of t)
frames_meant users (going t) = refl
frames_meant users ended = refl
frames_meant users (trapped x frames) = refl

frame_meant_from : (users : ℕ → Option (List ℕ)) (t : Task Version) (i : ℕ) → frame_from (task_meant users t) i ≡ option_map (frame_meant users) (frame_from t i)
unfolding frame_from
frame_meant_from users t i =
    ap (λ (l : List (Frame PlainCode)). slice_get (reverse l) i) (frames_meant users t)
    ∙ ap (λ (l : List (Frame PlainCode)). slice_get l i) (reversed_map (frame_meant users) (frames_of t))
    ∙ nth_by (frame_meant users) (reverse (frames_of t)) i

by_task : (users : ℕ → Option (List ℕ)) (o : Option (Task Version)) (i : ℕ)
    → option_and_then (λ (t : Task PlainCode). frame_from t i) (option_map (task_meant users) o) ≡ option_map (frame_meant users) (option_and_then (λ (t : Task Version). frame_from t i) o)
by_task users None i = refl
by_task users (Some t) i = frame_meant_from users t i

pub frames_look_alike : FramesLookAlike
frames_look_alike users s task i =
    ap (option_and_then (λ (t : Task PlainCode). frame_from t i)) (tasks_mean users s task)
    ∙ by_task users (task_at s task) i
