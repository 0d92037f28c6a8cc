-- Numbers that no kind has.
use Rattle.std.proofs.Common.{◌≡◌, ℕ, ◌≤◌, ◌^◌, Err, pos, arith}
use Rattle.enc_objects.specs.declared.operation.Size.{Size}
use Rattle.enc_objects.specs.declared.operation.Size.TheVariants.{Four, Eight}
use Rattle.enc_objects.specs.declared.trap.Trap.TheVariants.{X7}
use Rattle.enc_objects.specs.Values.{is_of, checked, unsigned_kind}

-- a number without a sign of more than 64 bits
pub past_all_bits : (s : Size) (n : ℕ) → 2 ^ 64 ≤ n → checked (unsigned_kind s) (pos n) ≡ Err X7
unfolding is_of
past_all_bits Four n h = grind (arith, h)
past_all_bits Eight n h = grind (arith, h)
