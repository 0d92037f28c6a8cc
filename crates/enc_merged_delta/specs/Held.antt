-- The numbers in the rows of the merged delta: those of the newest row of each token, moved to where texts and
-- bodies stand now.
use Rattle.std.specs.Prelude.{◌≡◌, ◌⊎◌, ◌≤◌, ℕ, zero, suc, ◌+◌, ◌^◌, true, false, List, [], ◌∷◌, ◌++◌, length, Option, Some, if◌then◌else◌, slice_get}
use Rattle.enc_base.specs.Numbers.{padded}
use Rattle.enc_base.specs.declared.token.Token.{Token}
use Rattle.enc_emit.specs.Written.{in_fours}
use Rattle.enc_meta.specs.Heaps.{Counted}
use Rattle.enc_meta.specs.Joined.{joined_text, joined_blob, joined_guid, joined_user}
use Rattle.enc_meta.specs.Regions.{Region}
use Rattle.enc_rows.specs.Source.{Source, raw_in}
use Rattle.enc_schema.specs.Schema.{column_in, columns_in}
use Rattle.enc_schema.specs.declared.column.Column.{Column}
use Rattle.enc_schema.specs.declared.column.Column.TheVariants.{Text}
use Rattle.enc_plain.specs.Bodies.{body_loaded, code_is_good, code_loaded}
use Rattle.enc_plain.specs.Cell.{Kind, is_body, kind_in}
use Rattle.enc_plain.specs.Chain.{Chain, rows_before}
use Rattle.enc_plain.specs.Module.{cell_of}
use Rattle.enc_plain.specs.Reading.{Reading, cell_with}
use Rattle.enc_plain.specs.Sound.{number_fits}
use Rattle.enc_delta.specs.Delta.{loaded_code}
use Rattle.enc_delta.specs.Rows.{own_row}
use Rattle.enc_merged_delta.specs.Merged.{MayMerge, after_both, heaps_merged, is_in_map}

-- the bytes of a delta's code
abbrev pub first_loaded : List Region → List ℕ
first_loaded [] = []
first_loaded (r ∷ rs) = r.bytes

abbrev pub il_of : Source → List ℕ
il_of s = first_loaded s.loaded

-- the code of the first, with zeros up to a multiple of four, and that of the second behind it
unfoldable pub il_merged : Source → Source → List ℕ
il_merged a b = in_fours (il_of a) ++ il_of b

-- how far the bodies of the second move
abbrev pub shift_of : Source → ℕ
shift_of a = padded (length (il_of a))

-- the heaps of the chain, with those of the merged delta behind them
abbrev pub heaps_with_merged : Chain → Source → Source → List Counted
heaps_with_merged c a b = c.heaps ++ heaps_merged c a b ∷ []

-- by what the numbers of the merged delta's rows are read: those heaps, the rows after both, and the merged code
abbrev pub reading_merged : Chain → Source → Source → Reading
reading_merged c a b = record {
  text = joined_text (heaps_with_merged c a b);
  blob = joined_blob (heaps_with_merged c a b);
  guid = joined_guid (heaps_with_merged c a b);
  count = rows_before (after_both c a b);
  code = body_loaded (loaded_code (il_merged a b)) (joined_user (heaps_with_merged c a b));
  field = λ row. [];
}

-- a number says the cell that a token has after both; where it is a body's place, it is 0 or a good body stands
-- there; and it fits its column
pub record NumberHeld (c : Chain) (a b : Source) (u : Token) (i : ℕ) (column : Column) (x : ℕ) : Type 0 where
  pub says : (k : Kind) → kind_in u.table i ≡ Some k
      → cell_with (reading_merged c a b) u i column x ≡ cell_of (after_both c a b).plain u i
  pub body : is_body u.table i ≡ true → (x ≡ 0) ⊎ (code_is_good (rows_before (after_both c a b))
      (joined_user (heaps_with_merged c a b)) (code_loaded (loaded_code (il_merged a b)) x) ≡ true)
  pub fit : number_fits column x ≡ true

-- the number of a text: 0 where it is empty, as a zero at the end of the joined texts may not count
abbrev pub text_moved : Option (List ℕ) → ℕ → ℕ
text_moved (Some (b ∷ rest)) x = x
text_moved _ x = 0

-- the place of a body, of which 0 is none
abbrev pub place_moved : ℕ → ℕ → ℕ
place_moved shift zero = 0
place_moved shift (suc n) = suc n + shift

abbrev pub in_column : List Counted → Column → ℕ → ℕ
in_column heaps Text x = text_moved (joined_text heaps x) x
in_column heaps column x = x

-- a number of a row, moved, by the heaps after both
unfoldable pub number_moved : List Counted → ℕ → ℕ → ℕ → Column → ℕ → ℕ
number_moved heaps shift table i column x = if is_body table i then place_moved shift x else in_column heaps column x

-- the number in a column of a token's newest row, moved: that of the second one's row, and where the second has none
-- that of the first one's
unfoldable pub number_of_both : Chain → Source → Source → Token → ℕ → Column → ℕ
number_of_both c a b u i column =
    if is_in_map b u then number_moved (after_both c a b).heaps (shift_of a) u.table i column (raw_in b (own_row b u) i)
    else number_moved (after_both c a b).heaps 0 u.table i column (raw_in a (own_row a u) i)

-- it is that number, and says the cell
pub record IsNumberOfBoth (c : Chain) (a b : Source) (u : Token) (i : ℕ) (column : Column) (x : ℕ) : Type 0 where
  pub held : NumberHeld c a b u i column x
  pub moved : x ≡ number_of_both c a b u i column

-- the numbers of a row are those of both for a token, one for each column
pub record RowHeld (c : Chain) (a b : Source) (u : Token) (numbers : List ℕ) : Type 0 where
  pub count : length numbers ≡ length (columns_in u.table)
  pub each : (i : ℕ) (column : Column) (x : ℕ) → column_in u.table i ≡ Some column → slice_get numbers i ≡ Some x
      → IsNumberOfBoth c a b u i column x

-- the code of the two isn't too long to be numbered
abbrev pub HaveShortCode : Source → Source → Type 0
HaveShortCode a b = length (il_of a) + length (il_of b) ≤ 2 ^ 27

-- the moved numbers of the second one's row for a token say its cells, and where the second has none those of the
-- first one's
abbrev pub NumbersAreHeld : Type 0
NumbersAreHeld =
    (c : Chain) (a b : Source) (u : Token) (i : ℕ) (column : Column) → MayMerge c a b → HaveShortCode a b
    → column_in u.table i ≡ Some column
    → (is_in_map b u ≡ true → NumberHeld c a b u i column
    (number_moved (after_both c a b).heaps (shift_of a) u.table i column (raw_in b (own_row b u) i)))
    × (is_in_map b u ≡ false → is_in_map a u ≡ true
    → NumberHeld c a b u i column (number_moved (after_both c a b).heaps 0 u.table i column (raw_in a (own_row a u) i)))
