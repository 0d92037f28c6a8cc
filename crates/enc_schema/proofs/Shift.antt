-- Numbers above a tag.
use Rattle.std.proofs.Common.{ℕ, ◌*◌, ◌/◌, ◌^◌, ◌<◌, ◌≤◌, arith}
use Rattle.std.proofs.Math.Nat.{mul-le-mul_left, pow-le-pow_right}
use Rattle.std.proofs.lemmas.Nat.{pow_pos}

-- with one bit or more taken off, 31 bits are left
pub halved : (v b : ℕ) → v < 2 ^ 32 → 0 < b → v / 2 ^ b < 2 ^ 31
halved v b lt some =
    let two : 2 ^ 1 ≤ 2 ^ b = pow-le-pow_right {n = 2} (omega arith) {i = 1} {j = b} (omega arith) in
    omega (arith, mul-le-mul_left (v / 2 ^ b) two, pow_pos b)

-- 24 bits above five fit
pub shifted : (row b : ℕ) → row < 2 ^ 24 → b ≤ 5 → row * 2 ^ b ≤ 2 ^ 29
shifted row b lt few =
    let most : 2 ^ b ≤ 2 ^ 5 = pow-le-pow_right {n = 2} (omega arith) {i = b} {j = 5} few in
    omega (arith, mul-le-mul_left row most)
