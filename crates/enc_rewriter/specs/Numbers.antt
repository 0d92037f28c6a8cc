-- The numbers in the columns of a module's rows that are written (ECMA-335 II.22, II.24.2.6): each says its cell by
-- the heaps,
-- by where bodies and fields are placed, and by the order of children.
use Rattle.std.specs.Prelude.{◌≡◌, ℕ, ◌+◌, ◌-◌, ◌<◌, ◌≤◌, ◌&&◌, Bool, true, false, nat_lt, nat_le, ◌==◌, if◌then◌else◌}
use Rattle.std.specs.Prelude.{List, [], ◌∷◌, length, map, flat_map, take, slice_get, slice_index, Some, None}
use Rattle.std.specs.List.{list_any}
use Rattle.enc_base.specs.Token.{nth_row}
use Rattle.enc_base.specs.declared.token.Token.{Token}
use Rattle.enc_meta.specs.Heaps.{Counted, text_at, blob_at, guid_at}
use Rattle.enc_plain.specs.Cell.{is_body, is_field}
use Rattle.enc_plain.specs.Module.{Module, Row, rows_in, kids_at, cell_of}
use Rattle.enc_plain.specs.Reading.{Reading, cell_read}
use Rattle.enc_plain.specs.Sound.{row_count, all_kids, is_part, IsSound}
use Rattle.enc_rows.specs.Sums.{below}
use Rattle.enc_rows.specs.Written.{rows_at}
use Rattle.enc_schema.specs.Children.{is_child_table, owner_table, ptr_of}
use Rattle.enc_schema.specs.Schema.{columns_in, column_in}
use Rattle.enc_schema.specs.declared.column.Column.{Column}
use Rattle.enc_schema.specs.declared.column.Column.TheVariants.{Run}
use Rattle.enc_base.specs.Tables as tables
use Rattle.enc_meta.specs.Built.{Built}
use Rattle.enc_rewriter.specs.Placed.{Placed}
use Rattle.enc_rewriter.specs.Values.{KeepValues}

-- by what the numbers of a module with these heaps are read; places stand in lists of their own
abbrev pub reading_by : Module → Counted → Reading
reading_by m h = record {
  text = text_at h.strings;
  blob = blob_at h.blobs;
  guid = guid_at h.guids;
  count = row_count m;
  code = λ n. None;
  field = λ row. [];
}

-- the children of the first so many owners, one owner behind the other
unfoldable pub kids_before : Module → ℕ → ℕ → List ℕ
kids_before m child n = flat_map (λ (r : Row). kids_at r child) (take n (rows_in m (owner_table child)))

-- where the run of an owner's row begins: behind the children of the rows before it, counted from 1
unfoldable pub run_first : Module → ℕ → ℕ → ℕ
run_first m child row = 1 + length (kids_before m child (row - 1))

-- where those of the first so many owners begin
unfoldable pub runs_begin : Module → ℕ → ℕ → List ℕ
runs_begin m child n = map (λ k. run_first m child (k + 1)) (below n)

-- where runs begin, for each child table
pub record RunLists : Type 0 where
  pub fields : List ℕ
  pub methods : List ℕ
  pub params : List ℕ
  pub events : List ℕ
  pub properties : List ℕ

abbrev pub list_of_runs : RunLists → ℕ → List ℕ
list_of_runs r child =
    if child == tables.field then r.fields
    else if child == tables.method_def then r.methods
    else if child == tables.param then r.params
    else if child == tables.event then r.events
    else r.properties

-- all runs of a module
pub record AreRuns (m : Module) (r : RunLists) : Type 0 where
  pub fields : r.fields ≡ runs_begin m tables.field (row_count m tables.type_def)
  pub methods : r.methods ≡ runs_begin m tables.method_def (row_count m tables.type_def)
  pub params : r.params ≡ runs_begin m tables.param (row_count m tables.method_def)
  pub events : r.events ≡ runs_begin m tables.event (row_count m tables.event_map)
  pub properties : r.properties ≡ runs_begin m tables.property (row_count m tables.property_map)

-- what the number of a column that is no place says: its cell, or where a run begins
abbrev pub PlainNumberSays : Module → Counted → Token → ℕ → Column → ℕ → Type 0
PlainNumberSays m h u i (Run child) x = x ≡ run_first m child u.row
PlainNumberSays m h u i column x = cell_read (reading_by m h) column x ≡ cell_of m u i

-- what a number says: the place of the row's body, that of its field's bytes, or as above
pub record NumberSays (m : Module) (h : Counted) (p : Placed) (u : Token) (i : ℕ) (column : Column)
    (x : ℕ) : Type 0 where
  pub body : is_body u.table i ≡ true → x ≡ slice_index p.bodies (u.row - 1)
  pub field : is_field u.table i ≡ true → x ≡ slice_index p.fields (u.row - 1)
  pub plain : is_body u.table i ≡ false → is_field u.table i ≡ false → PlainNumberSays m h u i column x

-- so say the first so many numbers of a row, and all of them, one for each column
pub record FrontSays (m : Module) (h : Counted) (p : Placed) (u : Token) (many : ℕ) (cells : List ℕ) : Type 0 where
  pub count : length cells ≡ many
  pub each : (i : ℕ) (column : Column) (x : ℕ) → column_in u.table i ≡ Some column → slice_get cells i ≡ Some x
      → NumberSays m h p u i column x

abbrev pub RowSays : Module → Counted → Placed → Token → List ℕ → Type 0
RowSays m h p u cells = FrontSays m h p u (length (columns_in u.table)) cells

-- and those of so many rows of a table, and of all
pub record RowsSay (m : Module) (h : Counted) (p : Placed) (t many : ℕ) (rows : List (List ℕ)) : Type 0 where
  pub count : length rows ≡ many
  pub each : (n : ℕ) (cells : List ℕ) → slice_get rows n ≡ Some cells → RowSays m h p (nth_row t n) cells

abbrev pub TableSays : Module → Counted → Placed → ℕ → List (List ℕ) → Type 0
TableSays m h p t rows = RowsSay m h p t (row_count m t) rows

-- children that stand in the order of their rows, from one on
abbrev pub in_order_from : ℕ → List ℕ → Bool
in_order_from k [] = true
in_order_from k (x ∷ rest) = x == k && in_order_from (k + 1) rest

abbrev pub is_in_row_order : List ℕ → Bool
is_in_row_order kids = in_order_from 1 kids

-- rows of one number
unfoldable pub rows_of_one : List ℕ → List (List ℕ)
rows_of_one kids = map (λ k. k ∷ []) kids

-- the rows of a Ptr table: the children of all owners where they don't stand in row order, else none (II.22)
unfoldable pub ptr_rows : Module → ℕ → List (List ℕ)
ptr_rows m child = if is_in_row_order (all_kids m child) then [] else rows_of_one (all_kids m child)

-- the rows of all tables are those of the module, and of Ptr tables where they are asked for
pub record HoldRows (m : Module) (h : Counted) (p : Placed) (rows : List (List (List ℕ))) : Type 0 where
  pub parts : (t : ℕ) → is_part t ≡ true → TableSays m h p t (rows_at rows t)
  pub ptrs : (child : ℕ) → is_child_table child ≡ true → rows_at rows (ptr_of child) ≡ ptr_rows m child
  pub log : rows_at rows tables.enc_log ≡ []
  pub map : rows_at rows tables.enc_map ≡ []

-- a run begins behind the last of so many children that their table's indices take two bytes, and its own number
-- doesn't fit these
unfoldable pub has_wide_run : Module → ℕ → Bool
has_wide_run m child =
    nat_lt (row_count m child) 0x10000
    && list_any (λ n. nat_le 0x10000 (run_first m child (n + 1))) (below (row_count m (owner_table child)))

-- then all indices are wide
unfoldable pub needs_jtd : Module → Bool
needs_jtd m = list_any (has_wide_run m)
    (tables.field ∷ tables.method_def ∷ tables.param ∷ tables.event ∷ tables.property ∷ [])

-- what the numbers of columns that are no places of bytes are found by
pub record AreSources (m : Module) (h : Built) (r : RunLists) : Type 0 where
  pub sound : IsSound m
  pub kept : KeepValues m h
  pub runs : AreRuns m r

-- a column is no place of bytes, neither of a body nor of a field's
pub record IsPlainColumn (t i : ℕ) : Type 0 where
  pub body : is_body t i ≡ false
  pub field : is_field t i ≡ false

-- what the numbers of a module's rows are found by
pub record AreReady (m : Module) (h : Built) (r : RunLists) (p : Placed) : Type 0 where
  pub sources : AreSources m h r
  pub methods : length p.bodies ≡ row_count m tables.method_def
  pub fields : length p.fields ≡ row_count m tables.field_rva

-- the rows of all tables but one are as they were
abbrev pub KeepOthers : ℕ → List (List (List ℕ)) → List (List (List ℕ)) → Type 0
KeepOthers table old new = (k : ℕ) → ¬ (k ≡ table) → rows_at new k ≡ rows_at old k

-- the tables below one have the rows of the module, and those from it on have none yet
pub record TablesSay (m : Module) (h : Counted) (p : Placed) (upto : ℕ) (rows : List (List (List ℕ))) : Type 0 where
  pub below : (t : ℕ) → t < upto → TableSays m h p t (rows_at rows t)
  pub behind : (t : ℕ) → upto ≤ t → rows_at rows t ≡ []

-- the child tables in order
abbrev pub nth_child : ℕ → ℕ
nth_child k =
    if k == 0 then tables.field else if k == 1 then tables.method_def else if k == 2 then tables.param else if k == 3
    then tables.event else tables.property

abbrev pub child_order : ℕ → ℕ
child_order child =
    if child == tables.field then 0 else if child == tables.method_def then 1 else if child == tables.param then 2
    else if child == tables.event then 3 else 4

abbrev pub is_ptr_table : ℕ → Bool
is_ptr_table table =
    list_any (λ t. t == table) (tables.field_ptr ∷ tables.method_ptr ∷ tables.param_ptr ∷ tables.event_ptr
    ∷ tables.property_ptr ∷ [])

-- the first so many Ptr tables have their rows, the others of them none, and all else is as it was
pub record PtrsPushed (m : Module) (upto : ℕ) (old new : List (List (List ℕ))) : Type 0 where
  pub ptrs : (child : ℕ) → is_child_table child ≡ true
      → rows_at new (ptr_of child) ≡ (if nat_lt (child_order child) upto then ptr_rows m child else [])
  pub others : (k : ℕ) → is_ptr_table k ≡ false → rows_at new k ≡ rows_at old k
