-- Where an answer that is there came from.
use Rattle.std.proofs.Common.{◌≡◌, Bool, true, false, Option, Some, None, refl}
use Rattle.std.specs.Prelude.{option_map, option_and_then, if◌then◌else◌}

-- a step on an answer
pub bind_some : {A B : Type 0} (f : A → Option B) (o : Option A) (y : B) → option_and_then f o ≡ Some y → (x : A) × (o ≡ Some x) × (f x ≡ Some y)
bind_some f None y e = absurd (cc)
bind_some f (Some x) y e = (x, refl, e)

pub map_some : {A B : Type 0} (f : A → B) (o : Option A) (y : B) → option_map f o ≡ Some y → (x : A) × (o ≡ Some x) × (f x ≡ y)
map_some f None y e = absurd (cc)
map_some f (Some x) y e = (x, refl, cc)

-- an answer under a test
pub if_some : {A : Type 0} (t : Bool) (o : Option A) (y : A) → (if t then o else None) ≡ Some y → (t ≡ true) × (o ≡ Some y)
if_some true o y e = (refl, e)
if_some false o y e = absurd (cc)

-- what is there is one
pub same_some : {A : Type 0} (x y : A) → Some x ≡ Some y → x ≡ y
same_some x y e = cc
