-- What the tables of data mean together.
use Rattle.std.specs.Prelude.{◌≡◌, ℕ, ◌≤◌, ◌^◌, Bool, true, List, [], ◌∷◌, Some, length, flat_map, is_some, nat_lt, nat_le, ◌&&◌, ◌||◌, IfSome, IsTrue}
use Rattle.enc_schema.specs.declared.column.Column.{Column}
use Rattle.enc_schema.specs.declared.column.Column.TheVariants.{Num8, Num16, Num32, Text, Guid, Blob, Index, Coded, Run}
use Rattle.enc_schema.specs.declared.column.Coding.{Coding}
use Rattle.enc_base.specs.Tables.{table_count, document, custom_debug_information}
use Rattle.enc_schema.specs.Schema.{columns_in, column_in}
use Rattle.enc_schema.specs.Names.{table_name_in, column_name_in}
use Rattle.enc_schema.specs.Children.{is_child_table, owner_table, run_column, runs_in}
use Rattle.enc_schema.specs.Coding.{tables_of, each_table, tag_bits}

-- whether a table has columns
abbrev pub is_table : ℕ → Bool
is_table t = nat_lt 0 (length (columns_in t))

-- whether the tables whose rows a column can name have columns
abbrev pub names_tables : Column → Bool
names_tables Num8 = true
names_tables Num16 = true
names_tables Num32 = true
names_tables Text = true
names_tables Guid = true
names_tables Blob = true
names_tables (Index t) = is_table t
names_tables (Coded kind) = each_table is_table (tables_of kind)
names_tables (Run t) = is_table t

-- the tables are those of a module, from 0 on, and those of a PDB, from Document to CustomDebugInformation
abbrev pub WhichTables : Type 0
WhichTables = (t : ℕ) → is_table t ≡ (nat_lt t table_count || (nat_le document t && nat_le t custom_debug_information))

-- every column that names rows names those of tables that are there
abbrev pub ColumnsName : Type 0
ColumnsName = (t i : ℕ) → IfSome (column_in t i) (λ (c : Column). IsTrue (names_tables c))

-- a table has a name just where it has columns, and so does a column
abbrev pub TablesAreNamed : Type 0
TablesAreNamed = (t : ℕ) → is_some (table_name_in t) ≡ is_table t

abbrev pub ColumnsAreNamed : Type 0
ColumnsAreNamed = (t i : ℕ) → is_some (column_name_in t i) ≡ is_some (column_in t i)

-- the tags of a coding's tables fit its bits
abbrev pub TagsFit : Type 0
TagsFit = (kind : Coding) → length (tables_of kind) ≤ 2 ^ tag_bits kind

-- each child table has a column of runs in its owners' table
abbrev pub RunsHaveColumns : Type 0
RunsHaveColumns = (child : ℕ) → is_child_table child ≡ true
    → column_in (owner_table child) (run_column child) ≡ Some (Run child)

-- the child table of a column of runs
abbrev pub child_in : Column → List ℕ
child_in (Run child) = child ∷ []
child_in _ = []

-- the child tables of a table are those of its columns of runs, in order
abbrev pub RunsAreColumns : Type 0
RunsAreColumns = (t : ℕ) → runs_in t ≡ flat_map child_in (columns_in t)
