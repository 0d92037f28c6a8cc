-- For the contracts of private functions: types that are one byte.
use Rattle.std.specs.Prelude.{ℕ, Bool, ◌&&◌, ◌||◌, ◌==◌, nat_le}

-- a truth value, a character, a number, a text, an object (II.23.2.12)
abbrev pub is_one_byte : ℕ → Bool
is_one_byte b = (nat_le 0x02 b && nat_le b 0x0B) || b == 0x0E || b == 0x1C
