-- The nearest of the frames below: a value is handed to it, or it changes places with the innermost.
use Rattle.std.proofs.Common.{◌≡◌, ℕ, ◌-◌, ◌<◌, List, [], ◌∷◌, length, take, reverse, Option, Result, Ok, Err, refl, sym, ap, ◌∙◌, arith}
use Rattle.std.specs.Prelude.{slice_set, get_or}
use Rattle.std.proofs.lemmas.List.{take_all}
use Rattle.enc_objects.specs.declared.trap.Trap.{Trap}
use Rattle.enc_objects.specs.declared.value.Value.{Value}
use Rattle.enc_versions.specs.Version.{Version}
use Rattle.enc_frames.proofs.Reversed.{front_more, last_set}
use Rattle.enc_frames.specs.FramesSeen.{handed_in, handed_first, with_nearest, nearest_or}
use Rattle.enc_frames.specs.Does.{Does}
use Rattle.enc_frames.specs.Machine.{Frame}
use Rattle.enc_frames.specs.Results.{◌>>=◌}
use Rattle.enc_frames.specs.declared.stop.Stop.{Stop}
use Rattle.enc_frames.specs.declared.stop.Stop.TheVariants as stop

pub nearest : {A : Type 0} (xs : List A) (n : ℕ) (d : A) → 0 < n → n ≡ length xs → reverse xs ≡ get_or xs (n - 1) d ∷ reverse (take (n - 1) xs)
nearest xs n d some e = ap reverse (sym (take_all n xs (omega (arith, e)))) ∙ front_more xs n d some (omega (arith, e))

-- none is there
pub none_there : (value : Option Value) (items : List (Frame Version)) → length items ≡ 0 → handed_first value (reverse items) ≡ Ok (reverse items)
none_there value [] e = refl
none_there value (f ∷ rest) e = absurd (omega (arith, e))

-- the nearest takes the value
pub first_set : (value : Option Value) (items : List (Frame Version)) (n : ℕ) (f g d : Frame Version) → 0 < n → n ≡ length items → f ≡ get_or items (n - 1) d
    → handed_in value f ≡ Ok g → handed_first value (reverse items) ≡ Ok (reverse (slice_set items (n - 1) g))
first_set value items n f g d some e at h =
    ap (handed_first value) (nearest items n d some e)
    ∙ ap (λ (x : Frame Version). handed_in value x >>= λ y. Ok (y ∷ reverse (take (n - 1) items))) (sym at)
    ∙ ap (λ (r : Result (Frame Version) Trap). r >>= λ y. Ok (y ∷ reverse (take (n - 1) items))) h
    ∙ ap (λ (l : List (Frame Version)). Ok l) (sym (last_set items n g some e))

-- or can't
pub first_trap : (value : Option Value) (items : List (Frame Version)) (n : ℕ) (f d : Frame Version) (t : Trap) → 0 < n → n ≡ length items → f ≡ get_or items (n - 1) d
    → handed_in value f ≡ Err t → handed_first value (reverse items) ≡ Err t
first_trap value items n f d t some e at h =
    ap (handed_first value) (nearest items n d some e)
    ∙ ap (λ (x : Frame Version). handed_in value x >>= λ y. Ok (y ∷ reverse (take (n - 1) items))) (sym at)
    ∙ ap (λ (r : Result (Frame Version) Trap). r >>= λ y. Ok (y ∷ reverse (take (n - 1) items))) h

-- and then all stays
pub first_kept : (items : List (Frame Version)) (n : ℕ) (f g d : Frame Version) → 0 < n → n ≡ length items → f ≡ get_or items (n - 1) d → g ≡ f
    → reverse (slice_set items (n - 1) g) ≡ reverse items
first_kept items n f g d some e at same =
    last_set items n g some e
    ∙ ap (λ (x : Frame Version). x ∷ reverse (take (n - 1) items)) (same ∙ at)
    ∙ sym (nearest items n d some e)

-- what comes of it
pub first_does : {U : Type 0} (result : Result U Stop) (value : Option Value) (items : List (Frame Version)) (n : ℕ) (f g d : Frame Version)
    → 0 < n → n ≡ length items → f ≡ get_or items (n - 1) d → Does result g f (handed_in value f)
    → Does result (reverse (slice_set items (n - 1) g)) (reverse items) (handed_first value (reverse items))
first_does (Ok u) value items n f g d some e at h = first_set value items n f g d some e at h
first_does (Err (stop.Trap trap)) value items n f g d some e at h = (first_trap value items n f d trap some e at h.0, first_kept items n f g d some e at h.1)
first_does (Err stop.Memory) value items n f g d some e at h = first_kept items n f g d some e at h

-- the last of a list, seen from its end, is the first
pub swapped : {A : Type 0} (items : List A) (n : ℕ) (y d : A) → 0 < n → n ≡ length items → reverse (slice_set items (n - 1) y) ≡ with_nearest y (reverse items)
swapped items n y d some e = last_set items n y some e ∙ ap (with_nearest y) (sym (nearest items n d some e))

pub taken_out : {A : Type 0} (items : List A) (n : ℕ) (y d : A) → 0 < n → n ≡ length items → get_or items (n - 1) d ≡ nearest_or y (reverse items)
taken_out items n y d some e = ap (nearest_or y) (sym (nearest items n d some e))

empty : {A : Type 0} (items : List A) → length items ≡ 0 → items ≡ []
empty [] e = refl
empty (x ∷ rest) e = absurd (omega (arith, e))

pub none_below : {A : Type 0} (items : List A) (y : A) → length items ≡ 0 → reverse items ≡ with_nearest y (reverse items)
none_below items y e = ap reverse (empty items e) ∙ ap (λ (l : List _). with_nearest y (reverse l)) (sym (empty items e))

pub none_first : {A : Type 0} (items : List A) (y : A) → length items ≡ 0 → y ≡ nearest_or y (reverse items)
none_first items y e = ap (λ (l : List _). nearest_or y (reverse l)) (sym (empty items e))
