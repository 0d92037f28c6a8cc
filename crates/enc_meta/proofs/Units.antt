-- The bytes of UTF-16 units.
use Rattle.std.proofs.Common.{◌≡◌, ℕ, zero, suc, ◌+◌, ◌*◌, ◌/◌, ◌%◌, ◌<◌, List, [], ◌∷◌, ◌++◌, length, take, get_or, refl, arith}
use Rattle.enc_meta.specs.Built.{unit_bytes}

-- one unit more
pub units_more : (units : List ℕ) (i d : ℕ) → i < length units → unit_bytes (take (i + 1) units) ≡ unit_bytes (take i units) ++ get_or units i d % 0x100 ∷ get_or units i d / 0x100 ∷ []
units_more [] i d within = absurd (omega (arith, within))
units_more (u ∷ rest) zero d within = refl
units_more (u ∷ rest) (suc i) d within =
    let e : suc i + 1 ≡ suc (i + 1) = omega arith in
    rw (e, units_more rest i d (omega (arith, within))) refl

-- a unit has two bytes
length_units : (units : List ℕ) → length (unit_bytes units) ≡ 2 * length units
length_units [] = refl
length_units (u ∷ rest) = omega (arith, length_units rest)

pub units_even : (units bytes : List ℕ) → bytes ≡ unit_bytes units → length bytes % 2 ≡ 0
units_even units bytes is = rw is (omega (arith, length_units units))
