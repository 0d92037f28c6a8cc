-- The offset at a signed distance is their sum, where that is one of four bytes.
use Rattle.std.proofs.Common.{◌≡◌, ℕ, ◌^◌, ◌<◌, Bool, true, false, cond, Some, None, arith, refl, w32}
use Rattle.std.proofs.lemmas.Bool.Decides.{nat_tests}
use Rattle.std.proofs.lemmas.Int.{ints}
use Rattle.std.specs.Prelude.{pos, ◌+ℤ◌, MatchOption}
use Rattle.std.specs.Int.{cast_signed, FitsUnsigned}
use Rattle.enc_opcodes.specs.Instruction.{is_reached, reached}
use Rattle.enc_opcodes.specs.Laws.{TargetsAreSums}

by_test : (b : Bool) (t : ℕ) (P : Type 0) (Q : ℕ → Type 0) → (b ≡ true → Q t) → (b ≡ false → P) → MatchOption (cond b (Some t) None) P Q
by_test true t P Q f g = f refl
by_test false t P Q f g = g refl

sum_there : (end distance : ℕ) → end < 2 ^ 32 → distance < 2 ^ 32 → is_reached end distance ≡ true → pos (reached end distance) ≡ pos end +ℤ cast_signed w32 distance
sum_there end distance below few there = grind (arith, ints, nat_tests)

sum_outside : (end distance : ℕ) → end < 2 ^ 32 → distance < 2 ^ 32 → is_reached end distance ≡ false → ¬ FitsUnsigned w32 (pos end +ℤ cast_signed w32 distance)
sum_outside end distance below few none fits = grind (arith, ints, nat_tests)

pub targets_are_sums : TargetsAreSums
targets_are_sums end distance below few =
    by_test (is_reached end distance) (reached end distance) _ _ (sum_there end distance below few) (sum_outside end distance below few)
