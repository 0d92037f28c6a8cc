-- The weight of a module: a sum that what is written of it doesn't pass.
use Rattle.std.specs.Prelude.{ℕ, ◌+◌, ◌*◌, ◌^◌, length, sum_by, Option, Some, if◌then◌else◌}
use Rattle.enc_base.specs.Token.{nth_row}
use Rattle.enc_meta.specs.Built.{Built, joined_size}
use Rattle.enc_plain.specs.Cell.{Cell, body, field}
use Rattle.enc_plain.specs.Module.{Module, cell_of}
use Rattle.enc_plain.specs.Sound.{row_count}
use Rattle.enc_rows.specs.Sums.{sum_below}
use Rattle.enc_schema.specs.Children.{is_child_table}
use Rattle.enc_schema.specs.Schema.{columns_in}
use Rattle.enc_schema.specs.declared.column.Column.{Column}
use Rattle.enc_schema.specs.declared.column.Column.TheVariants.{Num8, Num16}
use Rattle.enc_base.specs.Tables as tables

-- a number by its width with its padding, and four bytes for each index, run and heap
abbrev pub column_weight : Column → ℕ
column_weight Num8 = 2
column_weight Num16 = 2
column_weight _ = 4

-- a row, and four bytes for each row that a Ptr table may name
unfoldable pub row_weight : ℕ → ℕ
row_weight t = sum_by column_weight (columns_in t) + (if is_child_table t then 4 else 0)

unfoldable pub rows_weight : Module → ℕ
rows_weight m = sum_below (λ t. row_count m t * row_weight t) 64

-- the lengths of four heaps
unfoldable pub heaps_weight : Built → ℕ
heaps_weight h = joined_size h

-- a body: 32, its code, and 24 for each clause
abbrev pub body_weight : Option Cell → ℕ
body_weight (Some (body (Some b))) = 32 + b.size + 24 * length b.handlers
body_weight _ = 0

unfoldable pub bodies_weight : Module → ℕ
bodies_weight m = sum_below (λ n. body_weight (cell_of m (nth_row tables.method_def n) 0))
    (row_count m tables.method_def)

-- the bytes of a field, and 8
abbrev pub field_weight : Option Cell → ℕ
field_weight (Some (field there)) = 8 + length there
field_weight _ = 0

unfoldable pub fields_weight : Module → ℕ
fields_weight m = sum_below (λ n. field_weight (cell_of m (nth_row tables.field_rva n) 0))
    (row_count m tables.field_rva)

-- the weight of a module that is written with these heaps
unfoldable pub module_weight : Module → Built → ℕ
module_weight m h = 65536 + rows_weight m + heaps_weight h + bodies_weight m + fields_weight m +
    (8 + length m.resources)

-- the greatest weight that is written
abbrev pub most_weight : ℕ
most_weight = 2 ^ 31
