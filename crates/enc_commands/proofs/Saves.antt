-- Saving one file after another.
use Rattle.std.proofs.Common.{◌≡◌, ℕ, zero, suc, ◌+◌, List, [], ◌∷◌, take, Option, Some, refl, sym, ap, ◌∙◌, arith}
use Rattle.std.specs.Prelude.{slice_get, string_bytes}
use Rattle.enc_outside.specs.Outside.{Files, with_file, IsSavedInPart}
use Rattle.enc_commands.specs.Ending.{after_saves}
use Rattle.enc_commands.specs.Plans.{saves_of, SavesStop}
use Rattle.enc_saves.specs.declared.save.Save.{Save}
use Rattle.enc_outside.specs.declared.store.SaveError.{SaveError}
use Rattle.enc_outside.specs.declared.store.SaveError.TheVariants.{Memory, Failed}

-- no save yet
pub after_none : (saves : List Save) (old : Option Files) → old ≡ after_saves (saves_of (take 0 saves)) old
unfolding after_saves
after_none saves old = refl

-- one save more
pub after_more : (saves : List Save) (i : ℕ) (s : Save) (old : Option Files) → slice_get saves i ≡ Some s → after_saves (saves_of (take (i + 1) saves)) old ≡ with_file (string_bytes s.name) s.bytes.items (after_saves (saves_of (take i saves)) old)
unfolding after_saves
after_more [] i s old h = absurd cc
after_more (x ∷ xs) zero s old h = let e : x ≡ s = cc in ap (λ (y : Save). with_file (string_bytes y.name) y.bytes.items old) e
after_more (x ∷ xs) (suc i) s old h =
    let e : suc i + 1 ≡ suc (i + 1) = omega arith in
    rw e (after_more xs i s (with_file (string_bytes x.name) x.bytes.items old) h)

-- the place in the list of saves
pub saves_at : (saves : List Save) (i : ℕ) (s : Save) → slice_get saves i ≡ Some s → slice_get (saves_of saves) i ≡ Some (string_bytes s.name, s.bytes.items)
saves_at [] i s h = absurd cc
saves_at (x ∷ xs) zero s h = let e : x ≡ s = cc in ap (λ (y : Save). Some (string_bytes y.name, y.bytes.items)) e
saves_at (x ∷ xs) (suc i) s h = saves_at xs i s h

pub saves_front : (saves : List Save) (i : ℕ) → take i (saves_of saves) ≡ saves_of (take i saves)
saves_front saves zero = refl
saves_front [] (suc i) = refl
saves_front (x ∷ xs) (suc i) = ap (λ ys. (string_bytes x.name, x.bytes.items) ∷ ys) (saves_front xs i)

-- a save that fails is where saving stops
pub stops_at : (e : SaveError) (saves : List Save) (i : ℕ) (s : Save) (old now new : Option Files) → slice_get saves i ≡ Some s → now ≡ after_saves (saves_of (take i saves)) old → (e ≡ Failed → IsSavedInPart (string_bytes s.name) s.bytes.items now new) → (e ≡ Memory → new ≡ now) → SavesStop e (saves_of saves) old new
stops_at Memory saves i s old now new is before part stays = (i, stays refl ∙ before ∙ ap (λ ys. after_saves ys old) (sym (saves_front saves i)))
stops_at Failed saves i s old now new is before part stays = (i, rw (saves_at saves i s is, saves_front saves i, ← before) (part refl))
