-- The generations of frames, which are kept from the outermost.
use Rattle.std.proofs.Common.{◌≡◌, ℕ, zero, suc, ◌+◌, ◌-◌, ◌<◌, ◌≤◌, min, List, [], ◌∷◌, ◌++◌, length, map, reverse, take, drop, Option, option_map, slice_get, refl, sym, ap, ◌∙◌, arith, add-one, append_assoc, length-drop, length-take}
use Rattle.std.proofs.lemmas.List.{drop_at, length-reverse, map-append, reverse-append, reverse-reverse, take-append-drop}
use Rattle.std.specs.Prelude.{unwrap_or}
use Rattle.enc_base.specs.declared.token.Token.{Token}
use Rattle.enc_frames.specs.Machine.{Frame, MachineState}
use Rattle.enc_session.specs.Recording.{generations_now}
use Rattle.enc_session.specs.RecordingSeen.{generations_behind}
use Rattle.enc_session.proofs.Looked.{frame_is}
use Rattle.enc_vm.specs.Looks.{frames_in, frame_in}

-- a list from its other end
map_back : {X Y : Type 0} (f : X → Y) (xs : List X) → reverse (map f xs) ≡ map f (reverse xs)
map_back f [] = refl
map_back f (x ∷ xs) =
    reverse-append (f x ∷ []) (map f xs) ∙ ap (λ (ys : List _). ys ++ f x ∷ []) (map_back f xs)
    ∙ sym (ap (map f) (reverse-append (x ∷ []) xs) ∙ map-append f (reverse xs) (x ∷ []))

halves_back : {X : Type 0} (n : ℕ) (xs : List X) → reverse xs ≡ reverse (drop n xs) ++ reverse (take n xs)
halves_back n xs = ap reverse (sym (take-append-drop n xs)) ∙ reverse-append (take n xs) (drop n xs)

-- its front
front_back : {X : Type 0} (n : ℕ) (xs : List X) → reverse (take n xs) ≡ drop (length xs - n) (reverse xs)
front_back n xs =
    sym (ap (drop (length xs - n)) (halves_back n xs)
    ∙ drop_at (reverse (drop n xs)) (reverse (take n xs)) (length xs - n) (length-reverse (drop n xs) ∙ length-drop n xs))

-- and what is behind it
rest_back : {X : Type 0} (n : ℕ) (xs : List X) → n ≤ length xs → reverse (drop n (reverse xs)) ≡ take (length xs - n) xs
rest_back n xs within =
    let k = length xs - n in
    let count : length (reverse (drop k xs)) ≡ n =
    let e = length-drop k xs in let f = length-reverse (drop k xs) in omega (arith, within, e, f) in
    ap (λ (ys : List _). reverse (drop n ys)) (halves_back k xs)
    ∙ ap reverse (drop_at (reverse (drop k xs)) (reverse (take k xs)) n count) ∙ reverse-reverse (take k xs)

-- the generations that are kept, from the innermost
pub settled_generations : {C : Type 0} (generation : Token → ℕ) (frames : List (Frame C)) (items front now : List ℕ) (depth : ℕ) → depth ≡ length frames
    → front ≡ take depth items → now ≡ front ++ generations_behind generation frames (length front)
    → reverse now ≡ generations_now generation frames (reverse items)
unfolding generations_now
settled_generations generation frames items front now depth count cut is =
    let n = length front in
    let e : n ≡ min depth (length items) = ap length cut ∙ length-take depth items in
    let within : n ≤ length frames = omega (arith, e, count) in
    let back : length (reverse items) ≡ length items = length-reverse items in
    let new : length frames - n ≡ length frames - length (reverse items) = omega (arith, e, count, back) in
    let gone : length items - depth ≡ length (reverse items) - length frames = omega (arith, count, back) in
    ap reverse is ∙ reverse-append front (generations_behind generation frames n)
    ∙ ap (λ (ds : List ℕ). ds ++ reverse front) (map_back (λ (f : Frame _). generation f.method) (drop n (reverse frames))
    ∙ ap (map (λ (f : Frame _). generation f.method)) (rest_back n frames within ∙ ap (λ (k : ℕ). take k frames) new))
    ∙ ap (λ (ds : List ℕ). map (λ (f : Frame _). generation f.method) (take (length frames - length (reverse items)) frames) ++ ds)
    (ap reverse cut ∙ front_back depth items ∙ ap (λ (k : ℕ). drop k (reverse items)) gone)

-- one frame more has its generation
next_generation : {X : Type 0} (f : X → ℕ) (xs : List X) (i : ℕ) → i < length xs → map f (drop i xs) ≡ unwrap_or (option_map f (slice_get xs i)) 0 ∷ map f (drop (suc i) xs)
next_generation f [] i within = absurd (omega arith)
next_generation f (x ∷ xs) zero within = refl
next_generation f (x ∷ xs) (suc i) within = next_generation f xs i (omega arith)

pub generation_more : {C : Type 0} (generation : Token → ℕ) (s : MachineState C) (task i one : ℕ) (now new all : List ℕ) → i < length (frames_in s task)
    → one ≡ unwrap_or (option_map (λ (f : Frame C). generation f.method) (frame_in s task i)) 0 → now ++ generations_behind generation (frames_in s task) i ≡ all
    → new ≡ now ++ one ∷ [] → new ++ generations_behind generation (frames_in s task) (i + 1) ≡ all
generation_more generation s task i one now new all within is before more =
    let f = λ (f : Frame _). generation f.method in
    let fs = reverse (frames_in s task) in
    let inside : i < length fs = let e = length-reverse (frames_in s task) in omega (arith, within, e) in
    let same : one ≡ unwrap_or (option_map f (slice_get fs i)) 0 = is ∙ ap (λ (o : Option (Frame _)). unwrap_or (option_map f o) 0) (frame_is s task i) in
    ap (λ (ds : List ℕ). ds ++ generations_behind generation (frames_in s task) (i + 1)) more ∙ append_assoc now (one ∷ []) (generations_behind generation (frames_in s task) (i + 1))
    ∙ ap (λ (ds : List ℕ). now ++ ds)
    (ap (λ (n : ℕ). n ∷ map f (drop (i + 1) fs)) same ∙ ap (λ (k : ℕ). unwrap_or (option_map f (slice_get fs i)) 0 ∷ map f (drop k fs)) (add-one i) ∙ sym (next_generation f fs i inside))
    ∙ before
