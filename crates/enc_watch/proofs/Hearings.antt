-- Limits, as they are promised and as hearings have them.
use Rattle.std.proofs.Common.{◌≡◌, ℕ, ◌≤◌, true, false, List, length, Option, Some, None, arith, refl}
use Rattle.std.specs.Prelude.{nat_le}
use Rattle.std.proofs.lemmas.Bool.Decides.{nat_tests}
use Rattle.enc_watch.specs.declared.event.Event.{Event}
use Rattle.enc_watch.specs.Watched.{HasReached}
use Rattle.enc_watch.specs.Audience.{has_reached}

at_most : (n k : ℕ) → n ≤ k → nat_le n k ≡ true
at_most n k low = grind (arith, nat_tests, low)

not_at_most : (n k : ℕ) → (n ≤ k → ⊥) → nat_le n k ≡ false
not_at_most n k high = grind (arith, nat_tests, high)

pub reached_is : (limit : Option ℕ) (heard : List Event) → HasReached limit heard → has_reached limit heard ≡ true
reached_is None heard h = absurd h
reached_is (Some n) heard h = at_most n (length heard) h

pub unreached_is : (limit : Option ℕ) (heard : List Event) → (HasReached limit heard → ⊥) → has_reached limit heard ≡ false
unreached_is None heard h = refl
unreached_is (Some n) heard h = not_at_most n (length heard) h
