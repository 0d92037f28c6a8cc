-- Functions that are equal everywhere are equal.
use Rattle.std.proofs.Common.{◌≡◌}

pub same_function : {A B : Type 0} (f g : A → B) → ((x : A) → f x ≡ g x) → f ≡ g
same_function f g same = λ i x. same x i
