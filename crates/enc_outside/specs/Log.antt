-- A log of writes as entries of a map.
use Rattle.std.specs.Prelude.{ℕ, List, map, string_bytes}
use Rattle.enc_outside.specs.declared.sure.Write.{Write}

-- the writes as pairs of a name and bytes
abbrev pub entries_of : List Write → List (List ℕ × List ℕ)
entries_of writes = map (λ w. (string_bytes w.name, w.bytes.items)) writes
