-- The line of a frame by its points, and what frames tell that hold versions.
use Rattle.std.proofs.Common.{◌≡◌, ℕ, zero, suc, ◌+◌, List, [], ◌∷◌, map, take, Option, Some, None, option_map, slice_get, refl, sym, ap, ◌∙◌, add-one}
use Rattle.enc_base.specs.Order.{or_else}
use Rattle.enc_frames.specs.Machine.{PlainCode, Frame, MachineState, frame_meant, state_meant}
use Rattle.enc_objects.specs.declared.value.Value.{Value}
use Rattle.enc_seqpoints.specs.declared.point.Point.{Point}
use Rattle.enc_session.specs.Recording.{line_of_point, line_before, facts_with, held_in, values_in}
use Rattle.enc_session.specs.declared.looks.FrameFacts.{FrameFacts}
use Rattle.enc_session.specs.declared.looks.FramePart.{FramePart}
use Rattle.enc_session.specs.declared.looks.FramePart.TheVariants.{Arguments, Locals, Stack}
use Rattle.enc_versions.specs.StandFor.{lines_read}
use Rattle.enc_versions.specs.Version.{Version}
use Rattle.enc_vm.specs.Looks.{frame_in}

-- one point more
last_decides : (a b c : Option ℕ) → or_else (or_else a b) c ≡ or_else a (or_else b c)
last_decides (Some x) b c = refl
last_decides None b c = refl

line_upto : (offset i : ℕ) (points : List (ℕ × Option (ℕ × ℕ × ℕ × ℕ))) (p : ℕ × Option (ℕ × ℕ × ℕ × ℕ)) → slice_get points i ≡ Some p
    → line_before offset (take (suc i) points) ≡ or_else (line_of_point offset p) (line_before offset (take i points))
unfolding line_before
line_upto offset i [] p is = absurd cc
line_upto offset zero (q ∷ points) p is =
    let same : q ≡ p = cc in
    ap (λ (x : ℕ × Option (ℕ × ℕ × ℕ × ℕ)). line_of_point offset x) same ∙ sym (or_nothing (line_of_point offset p))
  where
    or_nothing : (a : Option ℕ) → or_else a None ≡ a
    or_nothing (Some x) = refl
    or_nothing None = refl
line_upto offset (suc i) (q ∷ points) p is =
    ap (λ (o : Option ℕ). or_else o (line_of_point offset q)) (line_upto offset i points p is)
    ∙ last_decides (line_of_point offset p) (line_before offset (take i points)) (line_of_point offset q)

there : {X Y : Type 0} (f : X → Y) (xs : List X) (i : ℕ) (x : X) → slice_get xs i ≡ Some x → slice_get (map f xs) i ≡ Some (f x)
there f [] i x is = absurd cc
there f (y ∷ xs) zero x is = let same : y ≡ x = cc in ap (λ (z : _). Some (f z)) same
there f (y ∷ xs) (suc i) x is = there f xs i x is

pub line_more : (offset i : ℕ) (points : List Point) (p : Point) (line found new : Option ℕ) → slice_get points i ≡ Some p
    → line ≡ line_before offset (take i (map (λ (p : Point). (p.offset, p.lines)) points)) → found ≡ line_of_point offset (p.offset, p.lines)
    → new ≡ or_else found line → new ≡ line_before offset (take (i + 1) (map (λ (p : Point). (p.offset, p.lines)) points))
line_more offset i points p line found new is before here next =
    next ∙ rw (before, here, add-one i) (sym (line_upto offset i (map (λ (p : Point). (p.offset, p.lines)) points) (p.offset, p.lines) (there (λ (p : Point). (p.offset, p.lines)) points i p is)))

-- a frame that holds a version tells what it means
held_meant : (users : ℕ → Option (List ℕ)) (part : FramePart) (f : Frame Version) → held_in part (frame_meant users f) ≡ held_in part f
held_meant users Arguments f = refl
held_meant users Locals f = refl
held_meant users Stack f = refl

pub no_values : (users : ℕ → Option (List ℕ)) (s : MachineState Version) (task i : ℕ) (part : FramePart)
    → frame_in (state_meant users s) task i ≡ option_map (frame_meant users) (frame_in s task i) → frame_in s task i ≡ None
    → values_in (state_meant users s) task i part ≡ None
no_values users s task i part look none = ap (option_map (held_in part)) (look ∙ ap (option_map (frame_meant users)) none)

pub values_meant : (users : ℕ → Option (List ℕ)) (s : MachineState Version) (task i : ℕ) (part : FramePart) (f : Frame Version)
    → frame_in (state_meant users s) task i ≡ option_map (frame_meant users) (frame_in s task i) → frame_in s task i ≡ Some f
    → values_in (state_meant users s) task i part ≡ Some (held_in part f)
values_meant users s task i part f look is =
    ap (option_map (held_in part)) (look ∙ ap (option_map (frame_meant users)) is) ∙ ap (λ (vs : List Value). Some vs) (held_meant users part f)

abbrev pub told : ℕ → Frame PlainCode → FrameFacts
told generation f = facts_with generation f.code.points f

pub no_facts : (users : ℕ → Option (List ℕ)) (s : MachineState Version) (task i generation : ℕ)
    → frame_in (state_meant users s) task i ≡ option_map (frame_meant users) (frame_in s task i) → frame_in s task i ≡ None
    → option_map (told generation) (frame_in (state_meant users s) task i) ≡ None
no_facts users s task i generation look none = ap (option_map (told generation)) (look ∙ ap (option_map (frame_meant users)) none)

pub facts_meant : (users : ℕ → Option (List ℕ)) (s : MachineState Version) (task i generation : ℕ) (f : Frame Version)
    → frame_in (state_meant users s) task i ≡ option_map (frame_meant users) (frame_in s task i) → frame_in s task i ≡ Some f
    → option_map (told generation) (frame_in (state_meant users s) task i) ≡ Some (facts_with generation (lines_read f.code.points).points f)
facts_meant users s task i generation f look is = ap (option_map (told generation)) (look ∙ ap (option_map (frame_meant users)) is)
