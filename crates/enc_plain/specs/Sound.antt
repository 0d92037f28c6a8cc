-- Sound modules: what every module is that files or edits give.
use Rattle.std.specs.Prelude.{◌≡◌, ℕ, ◌<◌, ◌^◌, ◌%◌, Bool, true, false, not, ◌&&◌, ◌||◌, List, [], ◌∷◌, length, flat_map, count_by, cond, Option, Some, None, option_map, nat_lt, nat_le, ◌==◌, if◌then◌else◌, slice_get}
use Rattle.std.specs.List.{list_any}
use Rattle.enc_base.specs.Order.{first_below}
use Rattle.enc_base.specs.Token.{nth_row, nil, is_token}
use Rattle.enc_base.specs.declared.token.Token.{Token}
use Rattle.enc_schema.specs.declared.column.Column.{Column}
use Rattle.enc_schema.specs.declared.column.Column.TheVariants.{Num8, Num16, Index, Coded}
use Rattle.enc_schema.specs.Schema.{column_in}
use Rattle.enc_schema.specs.Columns as columns
use Rattle.enc_base.specs.Tables as tables
use Rattle.enc_schema.specs.Coding.{tables_of}
use Rattle.enc_schema.specs.Children.{is_child_table, owner_table}
use Rattle.enc_opcodes.specs.Body.{Body, begins_locals}
use Rattle.enc_opcodes.specs.Sound.{body_is_sound}
use Rattle.enc_plain.specs.Cell.{Cell, number, text, blob, guid, refer, body, field, Kind, kind_in, cell_count, cell_kind}
use Rattle.enc_plain.specs.Extent.{extent_in}
use Rattle.enc_plain.specs.Fits.{HasRuns}
use Rattle.enc_plain.specs.Module.{Module, Row, rows_in, has_row, cell_of, cells_of, kids_at}
use Rattle.enc_plain.specs.Rows.{number_at, bytes_at, token_at}
use Rattle.enc_plain.specs.declared.extent.Extent.{Extent}
use Rattle.enc_plain.specs.declared.extent.Extent.TheVariants.{Bytes, Class}
use Rattle.enc_plain.specs.Signatures.{signature_column, is_signature}

-- how many rows a table has
abbrev pub row_count : Module → ℕ → ℕ
row_count m table = length (rows_in m table)

-- the tables that are no part of a module: the Ptr tables, EncLog and EncMap
abbrev pub is_part : ℕ → Bool
is_part table =
    not (list_any (λ t. t == table)
    (tables.field_ptr ∷ tables.method_ptr ∷ tables.param_ptr ∷ tables.event_ptr ∷ tables.property_ptr ∷ tables.enc_log
    ∷ tables.enc_map ∷ []))

-- a column can name rows of this table
abbrev pub is_tables : ℕ → Option ℕ → Bool
is_tables table (Some t) = t == table
is_tables table None = false

abbrev pub can_name : Column → ℕ → Bool
can_name (Index t) table = t == table
can_name (Coded kind) table = list_any (is_tables table) (tables_of kind)
can_name _ table = false

-- the token is nil, or a row of a table that the column can name
unfoldable pub is_reference : Module → Column → Token → Bool
is_reference m column t = is_token t nil || can_name column t.table && has_row m t

-- the number fits its column
abbrev pub number_fits : Column → ℕ → Bool
number_fits Num8 n = nat_lt n 0x100
number_fits Num16 n = nat_lt n 0x10000
number_fits _ n = nat_lt n (2 ^ 32)

-- a local signature is the nil token, or the row of one of locals (II.23.2.6)
abbrev pub locals_are_sound : Module → Token → Bool
locals_are_sound m t = if t.row == 0 then is_token t nil
    else begins_locals (bytes_at (cells_of m) t columns.stand_alone_sig_signature)

-- a body stands only where the low two bits of ImplFlags tell IL code (II.23.1.11), it is good, and so is its local
-- signature
unfoldable pub method_is_sound : Module → Token → Body → Bool
method_is_sound m method b =
    number_at (cells_of m) method columns.method_def_impl_flags % 4 == 0
    && body_is_sound (row_count m) b
    && locals_are_sound m b.locals

-- the size that the first row of ClassLayout with this parent tells (II.22.8)
unfoldable pub class_size_at : Module → ℕ → ℕ → Option ℕ
class_size_at m type k =
    if is_token (token_at (cells_of m) (nth_row tables.class_layout k) columns.class_layout_parent)
    (record { table = tables.type_def; row = type })
    then Some (number_at (cells_of m) (nth_row tables.class_layout k) columns.class_layout_class_size)
    else None

unfoldable pub class_size : Module → ℕ → Option ℕ
class_size m type = first_below (class_size_at m type) (row_count m tables.class_layout)

-- the size of a field's bytes, as far as anything tells it
abbrev pub size_of : Module → Option Extent → Option ℕ
size_of m (Some (Bytes n)) = Some n
size_of m (Some (Class type)) = class_size m type
size_of m None = None

-- what tells the size of the field that a row of FieldRVA names
unfoldable pub extent_of : Module → Token → Option Extent
extent_of m row =
    if (token_at (cells_of m) row columns.field_rva_field).row == 0 then None
    else extent_in (bytes_at (cells_of m) (token_at (cells_of m) row columns.field_rva_field) columns.field_signature)

abbrev pub is_size : ℕ → Option ℕ → Bool
is_size n (Some k) = k == n
is_size n None = false

-- a field has no bytes, or as many as its size tells (II.22.18)
unfoldable pub field_is_sound : Module → Token → List ℕ → Bool
field_is_sound m row there = length there == 0 || is_size (length there) (size_of m (extent_of m row))

-- a number fits its column's width, a text has no zero, a blob is any bytes, a GUID has sixteen of them, and all
-- else is as above
abbrev pub cell_is_sound : Module → Token → Column → Cell → Bool
cell_is_sound m u column (number n) = number_fits column n
cell_is_sound m u column (text there) = not (list_any (λ b. b == 0) there)
cell_is_sound m u column (blob there) = true
cell_is_sound m u column (guid there) = length there == 16
cell_is_sound m u column (refer t) = is_reference m column t
cell_is_sound m u column (body None) = true
cell_is_sound m u column (body (Some b)) = method_is_sound m u b
cell_is_sound m u column (field there) = field_is_sound m u there

-- the children in a child table of all rows of its owners' table
abbrev pub all_kids : Module → ℕ → List ℕ
all_kids m table = flat_map (λ (r : Row). kids_at r table) (rows_in m (owner_table table))

-- each row of a child table is a child once, and nothing else is
pub record IsOwned (m : Module) : Type 0 where
  pub once : (table row : ℕ) → is_child_table table ≡ true
      → count_by (λ k. k == row) (all_kids m table) ≡ cond (nat_le 1 row && nat_le row (length (rows_in m table))) 1 0

-- all tables are there
pub record HasTables (m : Module) : Type 0 where
  pub all : length m.tables ≡ tables.table_count

-- those that are no part of a module are empty; Module has one row, and no table more than 2^24 - 1
pub record HasCounts (m : Module) : Type 0 where
  pub absent : (t : ℕ) → is_part t ≡ false → rows_in m t ≡ []
  pub single : row_count m 0 ≡ 1
  pub few : (t : ℕ) → row_count m t < 2 ^ 24

-- each row has a list of children for each of its runs, and each child row stands once, in one owner's list
pub record HasOwners (m : Module) : Type 0 where
  pub tables : HasTables m
  pub runs : HasRuns m
  pub owned : IsOwned m

-- each row has a cell in each of its columns that has one, of the column's kind
pub record HasKinds (m : Module) : Type 0 where
  pub lengths : (t n : ℕ) (r : Row) → slice_get (rows_in m t) n ≡ Some r → length r.cells ≡ cell_count t
  pub kinds : (u : Token) (i : ℕ) (k : Kind) → has_row m u ≡ true → kind_in u.table i ≡ Some k
      → option_map cell_kind (cell_of m u i) ≡ Some k

-- what a cell says fits its column
pub record HasCells (m : Module) : Type 0 where
  pub each : (u : Token) (i : ℕ) (column : Column) (c : Cell) → has_row m u ≡ true → column_in u.table i ≡ Some column
      → cell_of m u i ≡ Some c
      → cell_is_sound m u column c ≡ true

-- each signature is one of its table's kind, by the module's own rows
pub record HasSignatures (m : Module) : Type 0 where
  pub each : (u : Token) (i : ℕ) → has_row m u ≡ true → signature_column u.table ≡ Some i
      → is_signature (row_count m) u.table (bytes_at (cells_of m) u i) ≡ true

-- the tables are a module's, with owners and children; each column has a cell of its kind, and what it says fits the
-- column; each signature is one
pub record IsSound (m : Module) : Type 0 where
  pub owners : HasOwners m
  pub counts : HasCounts m
  pub kinds : HasKinds m
  pub cells : HasCells m
  pub signatures : HasSignatures m
