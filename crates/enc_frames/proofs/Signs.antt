-- The digits of numbers.
use Rattle.std.proofs.Common.{◌≡◌, ℤ, pos, negsuc, false, refl, arith}
use Rattle.std.specs.Prelude.{nat_lt}
use Rattle.std.specs.Fmt.{signed_decimal}
use Rattle.std.proofs.lemmas.Bool.Decides.{nat_tests}
use Rattle.enc_frames.specs.Console.{digits_of_number}

-- they are as a number is written
pub digits_are : (n : ℤ) → signed_decimal n ≡ digits_of_number n
unfolding digits_of_number
digits_are (pos n) = let e : nat_lt n 0 ≡ false = grind (arith, nat_tests) in rw e refl
digits_are (negsuc n) = refl
