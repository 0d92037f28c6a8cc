-- Sums up to the limit, with one more, and what is told by them.
use Rattle.std.proofs.Common.{◌≡◌, ℕ, ◌+◌, ◌<◌, List, length, take, get_or, ap, arith}
use Rattle.std.specs.Prelude.{min, sum_by, nat_lt}
use Rattle.std.proofs.lemmas.Bool.Decides.{nat_tests}
use Rattle.std.proofs.lemmas.List.Sums.{sum_by_more}
use Rattle.enc_rules.specs.Sums.{most_room}

-- one more
pub capped_more : {X : Type 0} (f : X → ℕ) (xs : List X) (k : ℕ) (x : X) (sum room now : ℕ) → k < length xs → x ≡ get_or xs k x → sum ≡ min most_room (sum_by f (take k xs)) → room ≡ min most_room (f x) → now ≡ min most_room (sum + room) → now ≡ min most_room (sum_by f (take (k + 1) xs))
capped_more f xs k x sum room now low there before one is =
    let more = sum_by_more f xs k x low in
    let here = ap f there in
    omega (arith, more, here, before, one, is)

-- a limit below that of sums is passed alike
pub passed_alike : (front a b m n limit : ℕ) → limit < most_room → m ≡ min most_room a → n ≡ min most_room b → nat_lt limit (front + m + n) ≡ nat_lt limit (front + a + b)
passed_alike front a b m n limit low is are = grind (arith, nat_tests)
