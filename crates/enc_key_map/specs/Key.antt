-- The keys of values.
use Rattle.std.specs.Prelude.{◌/◌, Bool, ◌&&◌, ◌==◌, if◌then◌else◌}
use Rattle.enc_key_map.specs.declared.key.Key.{Key}
use Rattle.enc_key_map.specs.declared.key.Digits.{Digits}

-- the keys are the same
abbrev pub is_key : Key → Key → Bool
is_key a b = a.table == b.table && a.row == b.row && a.place == b.place

-- the digits of a key, and those behind the first of some
abbrev pub digits_of : Key → Digits
digits_of k = record { first = k.row; second = k.place }

abbrev pub next_digits : Digits → Digits
next_digits d = if d.first == 0 then record { first = d.second; second = 0 }
    else record { first = d.first / 2; second = d.second }
