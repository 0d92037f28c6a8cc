-- What an answer of a reader says of its parts.
use Rattle.std.proofs.Common.{◌≡◌, List, [], ◌∷◌, Option, Some, None, inl, inr, ◌⊎◌, Bool, true, false, ◌&&◌, refl}
use Rattle.std.specs.Prelude.{option_map, option_and_then, if◌then◌else◌}
use Rattle.std.specs.List.{list_all}
use Rattle.std.proofs.lemmas.Bool.{and_parts, and_from}
use Rattle.enc_jobs.specs.Lists.{with_first, every}

-- what was mapped
pub map_some : {A B : Type 0} (f : A → B) (o : Option A) (y : B) → option_map f o ≡ Some y → (x : A) × (o ≡ Some x) × (f x ≡ y)
map_some f (Some x) y h = (x, refl, cc)
map_some f None y h = absurd (cc)

-- what was read first
pub then_some : {A B : Type 0} (o : Option A) (f : A → Option B) (y : B) → option_and_then f o ≡ Some y → (x : A) × (o ≡ Some x) × (f x ≡ Some y)
then_some (Some x) f y h = (x, refl, h)
then_some None f y h = absurd (cc)

-- a test that was passed
pub if_some : {A : Type 0} (b : Bool) (o : Option A) (y : A) → (if b then o else None) ≡ Some y → (b ≡ true) × (o ≡ Some y)
if_some true o y h = (refl, h)
if_some false o y h = absurd (cc)

pub unless_some : {A : Type 0} (b : Bool) (o : Option A) (y : A) → (if b then None else o) ≡ Some y → (b ≡ false) × (o ≡ Some y)
unless_some true o y h = absurd (cc)
unless_some false o y h = (refl, h)

-- one of two
pub either_some : {A : Type 0} (b : Bool) (o p : Option A) (y : A) → (if b then o else p) ≡ Some y → (o ≡ Some y) ⊎ (p ≡ Some y)
either_some true o p y h = inl h
either_some false o p y h = inr h

-- the first of a list and the rest
pub first_some : {B : Type 0} (o : Option B) (r : Option (List B)) (ys : List B) → with_first o r ≡ Some ys → (y : B) × (zs : List B) × (o ≡ Some y) × (r ≡ Some zs) × (y ∷ zs ≡ ys)
first_some None r ys h = absurd (cc)
first_some (Some y) None ys h = absurd (cc)
first_some (Some y) (Some zs) ys h = (y, zs, refl, refl, cc)

-- what is read of elements that have something has what its reader keeps of it
pub every_keeps : {A B : Type 0} (r : A → Option B) (p : A → Bool) (q : B → Bool) → ((x : A) (y : B) → p x ≡ true → r x ≡ Some y → q y ≡ true) → (xs : List A) (ys : List B) → list_all p xs ≡ true → every r xs ≡ Some ys → list_all q ys ≡ true
unfolding every
every_keeps {B} r p q each [] ys all h = let e : [] ≡ ys = cc in rw (← e) refl
every_keeps r p q each (x ∷ xs) ys all h =
    let w = first_some (r x) (every r xs) ys h in
    let a = and_parts (p x) (list_all p xs) all in
    rw (← w.4) (and_from (q w.0) (list_all q w.1) (each x w.0 a.0 w.2) (every_keeps r p q each xs w.1 a.1 w.3))

all_true : {A : Type 0} (xs : List A) → list_all (λ x. true) xs ≡ true
all_true [] = refl
all_true (x ∷ xs) = all_true xs

-- what is read of each element has what its reader gives
pub every_has : {A B : Type 0} (r : A → Option B) (q : B → Bool) → ((x : A) (y : B) → r x ≡ Some y → q y ≡ true) → (xs : List A) (ys : List B) → every r xs ≡ Some ys → list_all q ys ≡ true
every_has r q each xs ys h = every_keeps r (λ x. true) q (λ x y p e. each x y e) xs ys (all_true xs) h
