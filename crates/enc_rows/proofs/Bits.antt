-- Sums of distinct powers of two.
use Rattle.std.proofs.Common.{◌≡◌, ℕ, zero, suc, ◌+◌, ◌*◌, ◌%◌, ◌^◌, ◌<◌, ◌≤◌, Bool, true, false, List, inl, inr, refl, ap, ◌∙◌, arith}
use Rattle.std.specs.Prelude.{if◌then◌else◌, ◌==◌, nat_lt}
use Rattle.std.specs.Int.{bit_at}
use Rattle.std.proofs.lemmas.Bool.{cases_lt}
use Rattle.std.proofs.lemmas.Grind.{pow_more}
use Rattle.std.proofs.lemmas.Nat.{shr_high}
use Rattle.std.proofs.lemmas.Nat.Bits.{bit_at_cat_low}
use Rattle.enc_rows.specs.Sums.{sum_below}
use Rattle.enc_rows.specs.Layout.{one, has_table}
use Rattle.enc_rows.specs.Written.{count_at, valid_of}
use Rattle.enc_rows.proofs.Below.{sum_none, sum_more}

-- with one bit more a sum stays below the next power
pub bits_room : (v b n : ℕ) → v < 2 ^ n → b ≤ 2 ^ n → v + b < 2 ^ (n + 1)
bits_room v b n low one = omega (arith, pow_more 2 n)

-- the power of a number that the test accepts
abbrev power_where : (ℕ → Bool) → ℕ → ℕ
power_where b t = if b t then 2 ^ t else 0

power_few : (b : Bool) (n : ℕ) → (if b then n else 0) ≤ n
power_few true n = omega arith
power_few false n = omega arith

pub bits_below : (b : ℕ → Bool) (n : ℕ) → sum_below (power_where b) n < 2 ^ n
bits_below b zero = rw (sum_none (power_where b)) (omega arith)
bits_below b (suc n) =
    let e : suc n ≡ n + 1 = omega arith in
    rw (e, sum_more (power_where b) n) (bits_room _ _ n (bits_below b n) (power_few (b n) (2 ^ n)))

-- the n-th power behind lower ones
power_is : (b : Bool) (n v : ℕ) → v + (if b then n else 0) ≡ one b * n + v
power_is true n v = omega arith
power_is false n v = omega arith

one_bit : (b : Bool) → one b % 2 ≡ one b
one_bit true = refl
one_bit false = refl

-- the bit of each number is what the test says
pub bit_where : (b : ℕ → Bool) (n k : ℕ) → k < n → bit_at (sum_below (power_where b) n) k ≡ one (b k)
bit_where b zero k lt = absurd (omega arith)
bit_where b (suc n) k lt =
    let e : suc n ≡ n + 1 = omega arith in
    rw (e, sum_more (power_where b) n, power_is (b n) (2 ^ n) (sum_below (power_where b) n)) (elim (cases_lt k n) [
      | inl h ↦ bit_at_cat_low (one (b n)) n (sum_below (power_where b) n) k h ∙ bit_where b n k h
      | inr h ↦
          let same : k ≡ n = omega arith in
          rw (same, shr_high (one (b n)) n (sum_below (power_where b) n) (bits_below b n)) (one_bit (b n))
    ])

one_tells : (b : Bool) → (one b == 1) ≡ b
one_tells true = refl
one_tells false = refl

-- the tables that are there are those with rows
pub valid_tells : (all : List (List (List ℕ))) (t : ℕ) → t < 64 → has_table (valid_of all) t ≡ nat_lt 0 (count_at all t)
unfolding valid_of
valid_tells all t lt = ap (λ n. n == 1) (bit_where (λ k. nat_lt 0 (count_at all k)) 64 t lt) ∙ one_tells (nat_lt 0 (count_at all t))

pub valid_few : (all : List (List (List ℕ))) → valid_of all < 2 ^ 64
unfolding valid_of
valid_few all = bits_below (λ k. nat_lt 0 (count_at all k)) 64
