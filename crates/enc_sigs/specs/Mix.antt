-- Numbers of 128 bits for bytes and for what is read: equal things have equal ones. That two are equal says nothing.
use Rattle.std.specs.Prelude.{ℕ, zero, suc, ◌+◌, ◌-◌, ◌*◌, ◌/◌, List, length, take, drop, min, max, bit_xor}
use Rattle.std.specs.Int.{w64, rotate_left, rotate_right, from_le_bytes}
use Rattle.std.specs.Hash.DefaultHasher.{wrapping_add}
use Rattle.enc_sigs.specs.declared.mix.Mix.{Mix}

-- what a number of 64 bits begins
unfoldable pub mix_of : ℕ → Mix
mix_of n = record { high = 0; low = n }

-- a round of the cipher Speck of 128 bits, with its key
unfoldable pub round : Mix → ℕ → Mix
round mix key =
    let high = bit_xor (wrapping_add (rotate_right w64 mix.high 8) mix.low) key in
    record { high = high; low = bit_xor (rotate_left w64 mix.low 3) high }

-- so many rounds, each with the key and its own number
unfoldable pub rounds : ℕ → Mix → ℕ → Mix
rounds key mix zero = mix
rounds key mix (suc n) = round (rounds key mix n) (bit_xor key n)

-- both words of two
unfoldable pub added : Mix → Mix → Mix
added a b = record { high = bit_xor a.high b.high; low = bit_xor a.low b.low }

-- a number of 64 bits mixed in: eight rounds with it for a key, and what there was before (the construction of
-- Davies and Meyer)
unfoldable pub mixed : Mix → ℕ → Mix
mixed mix n = added mix (rounds n mix 8)

-- another one mixed in
unfoldable pub mixed_both : Mix → Mix → Mix
mixed_both mix other = mixed (mixed mix other.high) other.low

-- so many numbers of eight bytes mixed in, one behind the other; zeros stand for bytes past the end
unfoldable pub mixed_words : Mix → List ℕ → ℕ → Mix
mixed_words mix bytes zero = mix
mixed_words mix bytes (suc n) = mixed (mixed_words mix bytes n) (from_le_bytes w64 (drop (8 * n) bytes))

-- bytes mixed in, eight at a time
unfoldable pub mixed_bytes : Mix → List ℕ → Mix
mixed_bytes mix bytes = mixed_words mix bytes (length bytes / 8 + 1)

-- the length of some bytes and all of them mixed in
unfoldable pub mixed_whole : Mix → List ℕ → Mix
mixed_whole mix bytes = mixed_bytes (mixed mix (length bytes)) bytes

-- the length of some bytes and so many at either end mixed in, so that long texts that share their bytes cost no
-- more than short ones
unfoldable pub mixed_ends : ℕ → Mix → List ℕ → Mix
mixed_ends most mix bytes =
    let size = length bytes in
    let front = min most size in
    mixed_bytes (mixed_bytes (mixed mix size) (take front bytes)) (drop (max front (size - front)) bytes)

-- 64 bits of what was mixed
unfoldable pub finished : Mix → ℕ
finished mix = let last = mixed mix 0 in bit_xor last.high last.low
