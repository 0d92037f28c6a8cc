-- The rows of a table in a new order beside the new place of each.
use Rattle.std.specs.Prelude.{◌≡◌, ℕ, ◌+◌, ◌<◌, ◌^◌, Bool, true, ◌&&◌, List, length, Some, nat_le, slice_get}
use Rattle.std.specs.List.{list_all}
use Rattle.enc_row_order.specs.Orders.{place_in_order, place_behind}

-- the number is one of so many rows, from 1
abbrev pub is_row_within : ℕ → ℕ → Bool
is_row_within count row = nat_le 1 row && nat_le row count

-- all are rows of a table, and for each row of it its new place is listed
pub record AreNewPlaces (old new : List ℕ) : Type 0 where
  pub few : length old < 2 ^ 24
  pub rows : list_all (is_row_within (length old)) old ≡ true
  pub count : length new ≡ length old
  pub each : (i : ℕ) → i < length old → slice_get new i ≡ Some (place_in_order old (i + 1))

-- for each row its place among those from one on is listed
pub record ArePlacedFrom (before many : ℕ) (rows new : List ℕ) : Type 0 where
  pub count : length new ≡ many
  pub each : (i : ℕ) → i < many → slice_get new i ≡ Some (place_behind before rows (i + 1))
