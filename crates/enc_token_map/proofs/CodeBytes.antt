-- Bytes, number by number.
use Rattle.std.proofs.Common.{◌≡◌, ℕ, suc, ◌<◌, true, List, [], ◌∷◌, get_or, refl, arith}
use Rattle.std.specs.Prelude.{nat_lt}
use Rattle.std.specs.List.{list_all}
use Rattle.std.proofs.lemmas.Bool.Decides.{nat_tests}
use Rattle.std.proofs.lemmas.Bool.{and_from}

one : (b : ℕ) → b < 256 → nat_lt b 0x100 ≡ true
one b few = grind (arith, nat_tests)

pub all_bytes : (bytes : List ℕ) → ((i : ℕ) → get_or bytes i 0 < 256) → list_all (λ b. nat_lt b 0x100) bytes ≡ true
all_bytes [] each = refl
all_bytes (b ∷ rest) each = and_from (nat_lt b 0x100) _ (one b (each 0)) (all_bytes rest (λ i. each (suc i)))
