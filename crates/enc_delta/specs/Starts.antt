-- For a delta's invariant and for the contracts of private functions: where each table begins in EncMap.
use Rattle.std.specs.Prelude.{◌≡◌, ℕ, ◌+◌, ◌*◌, ◌<◌, ◌≤◌, ◌^◌, List, nat_lt, slice_index}
use Rattle.std.specs.List.{count_by}
use Rattle.enc_base.specs.Token.{number_of}
use Rattle.enc_base.specs.declared.token.Token.{Token}
use Rattle.enc_rows.specs.Layout.{rows_of}
use Rattle.enc_rows.specs.Source.{Source}
use Rattle.enc_delta.specs.declared.starts.MapRange.{MapRange}
use Rattle.enc_delta.specs.Delta.{map_in, map_token}
use Rattle.enc_base.specs.Tables as tables

-- how many tokens of EncMap have a number less than this one
abbrev pub lesser_in : Source → ℕ → ℕ
lesser_in s n = count_by (λ (t : Token). nat_lt (number_of t) n) (map_in s)

-- how many tokens of EncMap are of the tables before each, up to table 64
pub record AreTableStarts (s : Source) (starts : List ℕ) : Type 0 where
  pub begin : (t : ℕ) → t < 65 → slice_index starts t ≡ lesser_in s (t * 0x1000000)
  pub few : rows_of s.layout tables.enc_map < 2 ^ 24

-- the tokens of this table, and no others, stand in this range
pub record IsTableRange (s : Source) (table : ℕ) (range : MapRange) : Type 0 where
  pub start : range.start ≡ lesser_in s (table * 0x1000000)
  pub end : range.end ≡ lesser_in s ((table + 1) * 0x1000000)
  pub few : rows_of s.layout tables.enc_map < 2 ^ 24

-- the first token whose number isn't less than this one stands in this range or right behind it
pub record IsCutIn (s : Source) (n : ℕ) (range : MapRange) : Type 0 where
  pub behind : range.start ≤ lesser_in s n
  pub before : lesser_in s n ≤ range.end
  pub within : range.end ≤ rows_of s.layout tables.enc_map
  pub few : range.end < 2 ^ 24

-- this token stands there in EncMap
pub record StandsInMap (s : Source) (u : Token) (i : ℕ) : Type 0 where
  pub there : i < rows_of s.layout tables.enc_map
  pub table : (map_token s i).table ≡ u.table
  pub row : (map_token s i).row ≡ u.row
