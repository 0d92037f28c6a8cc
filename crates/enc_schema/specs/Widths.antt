-- How many bytes a column takes (ECMA-335 II.24.2.6).
use Rattle.std.specs.Prelude.{ℕ, ◌-◌, ◌/◌, ◌%◌, ◌^◌, Bool, true, false, List, [], ◌∷◌, map, take, nat_lt, ◌==◌, if◌then◌else◌, slice_index, sum_by}
use Rattle.std.specs.List.{range_with_len}
use Rattle.enc_schema.specs.declared.column.Column.{Column}
use Rattle.enc_schema.specs.declared.column.Column.TheVariants.{Num8, Num16, Num32, Text, Guid, Blob, Index, Coded, Run}
use Rattle.enc_schema.specs.declared.column.Coding.{Coding}
use Rattle.enc_schema.specs.declared.column.Coding.TheVariants.{TypeDefOrRef, HasConstant, HasCustomAttribute, HasFieldMarshal, HasDeclSecurity, MemberRefParent, HasSemantics, MethodDefOrRef, MemberForwarded, Implementation, CustomAttributeType, ResolutionScope, TypeOrMethodDef, HasCustomDebugInformation}
use Rattle.enc_schema.specs.Schema.{columns_in}
use Rattle.enc_schema.specs.Coding.{tables_of, each_table, tag_bits}

-- what widths go by: the number of rows of each table, whether all indices are wide (`#JTD`), and the heap bits
pub record Shape : Type 0 where
  pub counts : List ℕ
  pub jtd : Bool
  pub flags : ℕ

abbrev pub row_count_of : Shape → ℕ → ℕ
row_count_of s table = slice_index s.counts table

-- whether this heap bit (1 strings, 2 GUIDs, 4 blobs) is set
abbrev pub has_bit : ℕ → ℕ → Bool
has_bit flags bit = flags / bit % 2 == 1

abbrev pub narrow : Bool → ℕ
narrow true = 2
narrow false = 4

unfoldable pub heap_width : Shape → ℕ → ℕ
heap_width s bit = if has_bit s.flags bit then 4 else 2

-- a row of one table: two bytes where the table has fewer than 2^16 rows
unfoldable pub index_width : Shape → ℕ → ℕ
index_width s table = if s.jtd then 4 else narrow (nat_lt (row_count_of s table) 0x10000)

-- a row of several tables: two bytes where each has so few rows that the tag fits beside
unfoldable pub coded_width : Shape → Coding → ℕ
coded_width s kind = if s.jtd then 4
    else narrow (each_table (λ (table : ℕ). nat_lt (row_count_of s table) (2 ^ (16 - tag_bits kind))) (tables_of kind))

-- the bytes of a column's number
abbrev pub width_of : Shape → Column → ℕ
width_of s Num8 = 1
width_of s Num16 = 2
width_of s Num32 = 4
width_of s Text = heap_width s 1
width_of s Guid = heap_width s 2
width_of s Blob = heap_width s 4
width_of s (Index table) = index_width s table
width_of s (Coded kind) = coded_width s kind
width_of s (Run table) = index_width s table

-- the bytes that a column takes in its row: a byte 0 stands behind a number of one byte (II.22.9)
abbrev pub space_of : Shape → Column → ℕ
space_of s Num8 = 2
space_of s column = width_of s column

-- the bytes of a table's rows, and of the columns before one
unfoldable pub row_width : Shape → ℕ → ℕ
row_width s table = sum_by (space_of s) (columns_in table)

unfoldable pub column_start : Shape → ℕ → ℕ → ℕ
column_start s table i = sum_by (space_of s) (take i (columns_in table))

-- every coding, in the order of the enum
abbrev pub codings : List Coding
codings = TypeDefOrRef ∷ HasConstant ∷ HasCustomAttribute ∷ HasFieldMarshal ∷ HasDeclSecurity ∷ MemberRefParent
    ∷ HasSemantics ∷ MethodDefOrRef
    ∷ MemberForwarded ∷ Implementation ∷ CustomAttributeType ∷ ResolutionScope ∷ TypeOrMethodDef
    ∷ HasCustomDebugInformation ∷ []

-- the widths of all codings, and of all tables' rows
unfoldable pub coded_widths : Shape → List ℕ
coded_widths s = map (coded_width s) codings

unfoldable pub row_widths : Shape → List ℕ
row_widths s = map (row_width s) (range_with_len 0 56)
