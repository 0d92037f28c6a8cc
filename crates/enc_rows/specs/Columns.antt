-- Where each column of each table stands in its row, and the bytes of its number.
use Rattle.std.specs.Prelude.{◌≡◌, ℕ, ◌/◌, ◌%◌, ◌<◌, List, Option, Some, None, slice_index}
use Rattle.enc_schema.specs.declared.column.Column.{Column}
use Rattle.enc_schema.specs.Schema.{column_in}
use Rattle.enc_schema.specs.Widths.{Shape, width_of, column_start}

-- the bytes of a column's number, 0 where there is none
abbrev pub width_or_none : Shape → Option Column → ℕ
width_or_none s (Some c) = width_of s c
width_or_none s None = 0

unfoldable pub width_at : Shape → ℕ → ℕ → ℕ
width_at s table i = width_or_none s (column_in table i)

-- the starts of nine columns a table, table by table
abbrev pub AreStarts : Shape → List ℕ → Type 0
AreStarts s starts = (k : ℕ) → k < 504 → slice_index starts k ≡ column_start s (k / 9) (k % 9)

-- and their widths
abbrev pub AreWidths : Shape → List ℕ → Type 0
AreWidths s sizes = (k : ℕ) → k < 504 → slice_index sizes k ≡ width_at s (k / 9) (k % 9)
