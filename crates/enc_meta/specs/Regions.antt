-- What of a file is loaded at which addresses: the sections of an image (ECMA-335 II.25.3), or a delta's code from 0
-- on.
use Rattle.std.specs.Prelude.{ℕ, ◌+◌, ◌-◌, Bool, ◌&&◌, List, length, take, drop, find, Option, option_map, nat_le}

-- the bytes that stand from an address on
pub record Region : Type 0 where
  pub address : ℕ
  pub bytes : List ℕ

-- the region holds the whole range
abbrev pub region_holds : ℕ → ℕ → Region → Bool
region_holds first many r = nat_le r.address first && nat_le (first - r.address + many) (length r.bytes)

-- the bytes of a range of addresses, in the first region that holds it whole
unfoldable pub range_loaded : List Region → ℕ → ℕ → Option (List ℕ)
range_loaded regions first many =
    option_map (λ (r : Region). take many (drop (first - r.address) r.bytes)) (find (region_holds first many) regions)

-- the bytes from an address on, to the end of the first region that holds the byte there
unfoldable pub rest_loaded : List Region → ℕ → Option (List ℕ)
rest_loaded regions first = option_map (λ (r : Region). drop (first - r.address) r.bytes)
    (find (region_holds first 1) regions)
