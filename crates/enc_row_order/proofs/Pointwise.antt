-- Orders that agree at each table are the same.
use Rattle.std.proofs.Common.{◌≡◌, ℕ, List}

pub same_orders : (f g : ℕ → List ℕ) → ((n : ℕ) → f n ≡ g n) → f ≡ g
same_orders f g h = λ i n. h n i
