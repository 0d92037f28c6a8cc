-- What an edit gives to its owner.
use Rattle.std.proofs.Common.{◌≡◌, Bool, true, false, [], ◌∷◌, refl}
use Rattle.std.specs.Prelude.{◌&&◌, ◌||◌, if◌then◌else◌}
use Rattle.std.specs.List.{list_any}
use Rattle.enc_plain.specs.Apply.{Attached}

-- the one child, where there is one
pub child_judged : (rule : Attached → Bool) (b : Bool) (a : Attached) → (b && rule a) ≡ list_any rule (if b then a ∷ [] else [])
child_judged rule true a = or_none (rule a)
  where
    or_none : (b : Bool) → b ≡ (b || false)
    or_none true = refl
    or_none false = refl
child_judged rule false a = refl
