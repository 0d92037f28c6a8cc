-- A target is read from its distance.
use Rattle.std.proofs.Common.{◌≡◌, ℕ, ◌+◌, ◌-◌, ◌%◌, ◌^◌, ◌<◌, ◌≤◌, Bool, true, false, Some, refl, arith}
use Rattle.std.specs.Prelude.{nat_lt, nat_le}
use Rattle.std.proofs.lemmas.Bool.Decides.{nat_tests}
use Rattle.enc_opcodes.specs.Instruction.{widened, target_at}
use Rattle.enc_assembly.specs.Assembly.{distance}

low_test : (d : ℕ) → d < 0x80000000 → nat_lt d 0x80000000 ≡ true
low_test d h = grind (arith, nat_tests)

high_test : (d : ℕ) → 0x80000000 ≤ d → nat_lt d 0x80000000 ≡ false
high_test d h = grind (arith, nat_tests)

less : (a b : ℕ) → a < b → nat_lt a b ≡ true
less a b h = grind (arith, nat_tests)

not_less : (a b : ℕ) → b ≤ a → nat_lt a b ≡ false
not_less a b h = grind (arith, nat_tests)

most : (a b : ℕ) → a ≤ b → nat_le a b ≡ true
most a b h = grind (arith, nat_tests)

ahead : (end t : ℕ) → end ≤ t → t < 2 ^ 32 → distance end t ≡ t - end
ahead end t le small = omega arith

behind : (end t : ℕ) → t < end → end < 2 ^ 32 → distance end t ≡ 2 ^ 32 - (end - t)
behind end t lt small = omega arith

ahead_reached : (end t : ℕ) → end ≤ t → t < 2 ^ 32 → t < end + 0x80000000 → target_at end (t - end) ≡ Some t
ahead_reached end t le small on =
    let sum : end + (t - end) ≡ t = omega arith in
    let whole : t % 2 ^ 32 ≡ t = omega arith in
    rw (low_test (t - end) (omega arith), less (end + (t - end)) (2 ^ 32) (omega arith), sum, whole) refl

behind_reached : (end t : ℕ) → t < end → end < 2 ^ 32 → end ≤ t + 0x80000000 → target_at end (2 ^ 32 - (end - t)) ≡ Some t
behind_reached end t lt small back =
    let sum : (end + (2 ^ 32 - (end - t))) % 2 ^ 32 ≡ t = omega arith in
    rw (high_test (2 ^ 32 - (end - t)) (omega arith), most (2 ^ 32) (end + (2 ^ 32 - (end - t))) (omega arith), sum) refl

-- of four bytes
pub reads_far : (end t : ℕ) → end < 2 ^ 32 → t < 2 ^ 32 → end ≤ t + 0x80000000 → t < end + 0x80000000 → target_at end (distance end t) ≡ Some t
reads_far end t e small back on = by_side (nat_lt t end) refl
  where
    by_side : (b : Bool) → nat_lt t end ≡ b → target_at end (distance end t) ≡ Some t
    by_side true h = let lt : t < end = grind (arith, nat_tests, h) in rw (behind end t lt e) (behind_reached end t lt e back)
    by_side false h = let le : end ≤ t = grind (arith, nat_tests, h) in rw (ahead end t le small) (ahead_reached end t le small on)

-- of one byte
pub reads_near : (end t : ℕ) → end < 2 ^ 32 → t < 2 ^ 32 → end ≤ t + 128 → t ≤ end + 127 → target_at end (widened (distance end t % 0x100)) ≡ Some t
reads_near end t e small back on = by_side (nat_lt t end) refl
  where
    by_side : (b : Bool) → nat_lt t end ≡ b → target_at end (widened (distance end t % 0x100)) ≡ Some t
    by_side true h =
        let lt : t < end = grind (arith, nat_tests, h) in
        let byte : (2 ^ 32 - (end - t)) % 0x100 ≡ 0x100 - (end - t) = omega arith in
        let wide : 0x100 - (end - t) + 0xFFFFFF00 ≡ 2 ^ 32 - (end - t) = omega arith in
        let near : end ≤ t + 0x80000000 = omega arith in
        rw (behind end t lt e, byte, not_less (0x100 - (end - t)) 0x80 (omega arith), wide) (behind_reached end t lt e near)
    by_side false h =
        let le : end ≤ t = grind (arith, nat_tests, h) in
        let byte : (t - end) % 0x100 ≡ t - end = omega arith in
        let near : t < end + 0x80000000 = omega arith in
        rw (ahead end t le small, byte, less (t - end) 0x80 (omega arith)) (ahead_reached end t le small near)
