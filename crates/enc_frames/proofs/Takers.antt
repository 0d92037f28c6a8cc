-- The search for the frame that takes a thrown object, one frame at a time from the nearest outward.
use Rattle.std.proofs.Common.{◌≡◌, ℕ, ◌≤◌, ◌<◌, ◌-◌, Bool, true, false, List, ◌∷◌, length, take, reverse, Option, Some, None, refl, sym, ap, ◌∙◌, arith}
use Rattle.std.specs.Prelude.{get_or, option_map, if◌then◌else◌}
use Rattle.std.proofs.lemmas.List.{length-reverse, length-take-le}
use Rattle.enc_base.specs.Order.{or_else}
use Rattle.enc_unwind.specs.Search.{catch_among}
use Rattle.enc_unwind.specs.declared.thrown.Thrown.{Thrown}
use Rattle.enc_frames.proofs.Reversed.{front_more}
use Rattle.enc_frames.specs.Handlers.{caught_by, ends_search, outer_taker}
use Rattle.enc_frames.specs.Machine.{World, Frame}

-- a frame decides before those below it
abbrev pub decided : {C : Type 0} → World C → Thrown → Frame C → ℕ → List (Frame C) → Option (ℕ × ℕ)
decided w t f n below = or_else (caught_by w t (f.offset - 1) f n) (if ends_search w.plain f then None else outer_taker w t below)

count_of : {A : Type 0} (xs : List A) (n : ℕ) → n ≤ length xs → length (reverse (take n xs)) ≡ n
count_of xs n there = length-reverse (take n xs) ∙ length-take-le n xs there

head_decides : {C : Type 0} (w : World C) (t : Thrown) (f : Frame C) (below : List (Frame C)) → outer_taker w t (f ∷ below) ≡ decided w t f (length below) below
unfolding outer_taker
head_decides w t f below = refl

pub outer_step : {C : Type 0} (w : World C) (t : Thrown) (frames : List (Frame C)) (n : ℕ) (f d : Frame C) → 0 < n → n ≤ length frames
    → f ≡ get_or frames (n - 1) d
    → outer_taker w t (reverse (take n frames)) ≡ decided w t f (n - 1) (reverse (take (n - 1) frames))
outer_step w t frames n f d some there e =
    ap (outer_taker w t) (front_more frames n d some there)
    ∙ ap (λ (x : Frame _). outer_taker w t (x ∷ reverse (take (n - 1) frames))) (sym e)
    ∙ head_decides w t f (reverse (take (n - 1) frames))
    ∙ ap (λ (k : ℕ). decided w t f k (reverse (take (n - 1) frames))) (count_of frames (n - 1) (omega (arith, some, there)))

-- the frame takes the object
pub taken_there : {C : Type 0} (w : World C) (t : Thrown) (f : Frame C) (n clause : ℕ) (below : List (Frame C)) (o : Option ℕ)
    → o ≡ catch_among w.plain (w.body f.code).stack (w.body f.code).handlers (f.offset - 1) t → o ≡ Some clause
    → decided w t f n below ≡ Some (n, clause)
taken_there w t f n clause below o e h =
    ap (λ (x : Option ℕ). or_else (option_map (λ (c : ℕ). (n, c)) x) (if ends_search w.plain f then None else outer_taker w t below)) (sym e ∙ h)

-- it doesn't, and the search ends
pub ended_there : {C : Type 0} (w : World C) (t : Thrown) (f : Frame C) (n : ℕ) (below : List (Frame C)) (o : Option ℕ)
    → o ≡ catch_among w.plain (w.body f.code).stack (w.body f.code).handlers (f.offset - 1) t → o ≡ None → ends_search w.plain f ≡ true
    → decided w t f n below ≡ None
ended_there w t f n below o e h k =
    ap (λ (x : Option ℕ). or_else (option_map (λ (c : ℕ). (n, c)) x) (if ends_search w.plain f then None else outer_taker w t below)) (sym e ∙ h)
    ∙ ap (λ (b : Bool). if b then None else outer_taker w t below) k

-- it doesn't, and the search goes on
pub goes_on : {C : Type 0} (w : World C) (t : Thrown) (f : Frame C) (n : ℕ) (below : List (Frame C)) (o : Option ℕ)
    → o ≡ catch_among w.plain (w.body f.code).stack (w.body f.code).handlers (f.offset - 1) t → o ≡ None → ends_search w.plain f ≡ false
    → decided w t f n below ≡ outer_taker w t below
goes_on w t f n below o e h k =
    ap (λ (x : Option ℕ). or_else (option_map (λ (c : ℕ). (n, c)) x) (if ends_search w.plain f then None else outer_taker w t below)) (sym e ∙ h)
    ∙ ap (λ (b : Bool). if b then None else outer_taker w t below) k

-- no frame is left
pub none_left : {C : Type 0} (w : World C) (t : Thrown) (frames : List (Frame C)) (n : ℕ) → n ≡ 0 → outer_taker w t (reverse (take n frames)) ≡ None
unfolding outer_taker
none_left w t frames n e = ap (λ (k : ℕ). outer_taker w t (reverse (take k frames))) e
