-- The plain module that a file's bytes say, or the first refusal (ECMA-335 II.22, II.24).
use Rattle.std.specs.Prelude.{ℕ, Bool, true, not, ◌&&◌, List, [], ◌∷◌, length, map, Option, Some, None, option_map, option_and_then, unwrap_or, is_some, Result, Ok, Err, ◌==◌, ◌||◌, ◌-◌, slice_get, if◌then◌else◌, replicate, nat_lt}
use Rattle.std.specs.List.{list_any}
use Rattle.enc_base.specs.Order.{or_else, first_below}
use Rattle.enc_base.specs.Token.{nth_row}
use Rattle.enc_base.specs.declared.token.Token.{Token}
use Rattle.enc_base.specs.declared.refusal.Refusal.{Refusal}
use Rattle.enc_base.specs.declared.refusal.Code.TheVariants.{F}
use Rattle.enc_base.specs.declared.refusal.Place.{Place}
use Rattle.enc_base.specs.declared.refusal.Place.TheVariants as place
use Rattle.enc_meta.specs.declared.root.Root.{Root}
use Rattle.enc_meta.specs.Root.{root_of}
use Rattle.enc_meta.specs.Heaps.{heaps_of, part, text_at, blob_at, user_at, guid_at}
use Rattle.enc_schema.specs.declared.column.Column.{Column}
use Rattle.enc_schema.specs.Schema.{columns_in, column_in, is_offset}
use Rattle.enc_schema.specs.Children.{run_column, runs_in}
use Rattle.enc_rows.specs.Sums.{below}
use Rattle.enc_rows.specs.Layout.{Layout, stream_tables, rows_of}
use Rattle.enc_rows.specs.Runs.{TableStream, children_of}
use Rattle.enc_rows.specs.Fault.{index_fault}
use Rattle.enc_rows.specs.Source.{Source, raw_in}
use Rattle.enc_rows.specs.declared.form.Form.TheVariants as form
use Rattle.enc_plain.specs.Cell.{Cell, number, cell_count}
use Rattle.enc_plain.specs.Reading.{Reading, cell_read, cell_with}
use Rattle.enc_plain.specs.Module.{Module, Row}
use Rattle.enc_plain.specs.Chain.{Chain}
use Rattle.enc_plain.specs.Sound.{is_part}
use Rattle.enc_plain.specs.Signatures.{signature_column, is_signature}
use Rattle.enc_plain.specs.Bodies.{code_loaded, body_loaded, body_is_good}
use Rattle.enc_opcodes.specs.Body.{Code, begins_locals}
use Rattle.enc_pe.specs.declared.container.Container.{Container}
use Rattle.enc_pe.specs.Container.{container_of}
use Rattle.enc_pe.specs.Loaded.{regions_of}
use Rattle.enc_meta.specs.Regions.{range_loaded}
use Rattle.enc_plain.specs.Extent.{extent_in}
use Rattle.enc_plain.specs.declared.extent.Extent.{Extent}
use Rattle.enc_plain.specs.declared.extent.Extent.TheVariants.{Bytes, Class}
use Rattle.enc_base.specs.Tables as tables
use Rattle.enc_schema.specs.Columns as columns

-- the user texts of a file
abbrev pub users_of : Source → ℕ → Option (List ℕ)
users_of s = user_at s.heaps.users

-- the bytes of a blob, none where its offset isn't good
abbrev pub blob_or_none : Source → ℕ → List ℕ
blob_or_none s offset = unwrap_or (blob_at s.heaps.blobs offset) []

-- the size that a row of ClassLayout tells, where it is the type's (II.22.8)
unfoldable pub layout_size : Source → ℕ → ℕ → Option ℕ
layout_size s type k =
    if raw_in s (nth_row tables.class_layout k) columns.class_layout_parent == type
    then Some (raw_in s (nth_row tables.class_layout k) columns.class_layout_class_size)
    else None

-- the size that the first such row tells
unfoldable pub size_of_class : Source → ℕ → Option ℕ
size_of_class s type = first_below (layout_size s type) (rows_of s.layout tables.class_layout)

abbrev pub extent_size : Source → Option Extent → Option ℕ
extent_size s (Some (Bytes n)) = Some n
extent_size s (Some (Class type)) = size_of_class s type
extent_size s None = None

-- what tells the size of the field that a row of FieldRVA names
unfoldable pub data_extent : Source → Token → Option Extent
data_extent s row =
    if raw_in s row columns.field_rva_field == 0 then None
    else extent_in (blob_or_none s (raw_in s
    (record { table = tables.field; row = raw_in s row columns.field_rva_field }) columns.field_signature))

-- the bytes that such a row has at its RVA, where they are loaded
unfoldable pub bytes_of_field : Source → Token → Option (List ℕ)
bytes_of_field s row = option_and_then (range_loaded s.loaded (raw_in s row 0)) (extent_size s (data_extent s row))

-- a field without an RVA has none
unfoldable pub field_bytes : Source → Token → List ℕ
field_bytes s row = if raw_in s row 0 == 0 then [] else unwrap_or (bytes_of_field s row) []

-- by what the numbers of a file are read: its heaps, its own counts of rows, and what is loaded
abbrev pub reading_of : Source → Reading
reading_of s = record {
  text = text_at s.heaps.strings;
  blob = blob_at s.heaps.blobs;
  guid = guid_at s.heaps.guids;
  count = rows_of s.layout;
  code = body_loaded s.loaded (users_of s);
  field = field_bytes s;
}

-- the cell that a column's number stands for, None where it isn't good
abbrev pub cell_for : Source → Column → ℕ → Option Cell
cell_for s c n = cell_read (reading_of s) c n

-- the cell in a column of a row
unfoldable pub cell_in : Source → Token → ℕ → Option Cell
cell_in s token i = option_and_then (λ (c : Column). cell_with (reading_of s) token i c (raw_in s token i))
    (column_in token.table i)

-- F8: the first offset that isn't good, by table, row and column
unfoldable pub offset_fault_at : Source → Token → ℕ → Option Place
offset_fault_at s token i =
    option_and_then (λ (c : Column). if is_offset c && not (is_some (cell_for s c (raw_in s token i)))
    then Some (place.Cell token i) else None)
    (column_in token.table i)

unfoldable pub offset_fault_in_row : Source → ℕ → ℕ → Option Place
offset_fault_in_row s table r = first_below (offset_fault_at s (nth_row table r)) (length (columns_in table))

unfoldable pub offset_fault_in : Source → ℕ → Option Place
offset_fault_in s table = first_below (offset_fault_in_row s table) (rows_of s.layout table)

unfoldable pub offset_fault : Source → Option Place
offset_fault s = first_below (offset_fault_in s) tables.table_count

-- F11: the first signature that isn't one of its kind, by the file's own rows (II.23.2)
unfoldable pub signature_fault_at : Source → ℕ → ℕ → ℕ → Option Place
signature_fault_at s table i r =
    if is_signature (rows_of s.layout) table (blob_or_none s (raw_in s (nth_row table r) i)) then None
    else Some (place.Cell (nth_row table r) i)

unfoldable pub signature_fault_in : Source → ℕ → Option Place
signature_fault_in s table = option_and_then (λ i. first_below (signature_fault_at s table i) (rows_of s.layout table))
    (signature_column table)

unfoldable pub signature_fault : Source → Option Place
signature_fault s = first_below (signature_fault_in s) tables.table_count

-- a body's local signature is nil or is one of locals (II.23.2.6)
abbrev pub has_locals : Source → Option Code → Bool
has_locals s None = true
has_locals s (Some c) = c.locals.row == 0 || begins_locals (blob_or_none s (raw_in s c.locals 0))

-- F10: the first method with a place for its body, but none that is good there
unfoldable pub body_fault_at : Source → ℕ → Option Place
body_fault_at s r =
    if body_is_good (rows_of s.layout) (users_of s) s.loaded
    (raw_in s (nth_row tables.method_def r) columns.method_def_rva)
    (raw_in s (nth_row tables.method_def r) columns.method_def_impl_flags)
    && has_locals s (code_loaded s.loaded (raw_in s (nth_row tables.method_def r) columns.method_def_rva))
    then None
    else Some (place.Row (nth_row tables.method_def r))

unfoldable pub body_fault : Source → Option Place
body_fault s = first_below (body_fault_at s) (rows_of s.layout tables.method_def)

-- F5 of fields: the first row of FieldRVA with an RVA, but no bytes of its field's size there. It isn't asked of
-- bare metadata
unfoldable pub field_fault_at : Source → ℕ → Option Place
field_fault_at s r =
    if raw_in s (nth_row tables.field_rva r) columns.field_rva_rva == 0
    || is_some (bytes_of_field s (nth_row tables.field_rva r)) then None
    else Some (place.Row (nth_row tables.field_rva r))

unfoldable pub field_fault : Source → Option Place
field_fault s = if s.bare then None else first_below (field_fault_at s) (rows_of s.layout tables.field_rva)

-- the rows of a source
abbrev pub rows_from : Source → TableStream
rows_from s = record { stream = s.stream; layout = s.layout }

abbrev pub rule : ℕ → Option Place → Option Refusal
rule n p = option_map (λ (q : Place). record { code = F n; place = q }) p

-- F7, F8, F11, F10, and then F5 of fields
unfoldable pub cells_fault : Source → Option Refusal
cells_fault s =
    or_else (rule 7 (index_fault (rows_from s)))
    (or_else (rule 8 (offset_fault s))
    (or_else (rule 11 (signature_fault s))
    (or_else (rule 10 (body_fault s)) (rule 5 (field_fault s)))))

-- the row with its cells and its children by runs
abbrev pub row_in : Source → ℕ → ℕ → Row
row_in s table r = record {
  cells = map (λ i. unwrap_or (cell_in s (nth_row table r) i) (number 0)) (below (cell_count table));
  kids = map (λ child. children_of (rows_from s) table (run_column child) child r) (runs_in table);
}

abbrev pub table_rows : Source → ℕ → List Row
table_rows s table = if is_part table then map (row_in s table) (below (rows_of s.layout table)) else []

-- the plain module of a source
unfoldable pub module_in : Source → Module
module_in s = record {
  tables = map (table_rows s) (below tables.table_count);
  resources = s.resources;
  entry = s.entry;
}

-- a module's widths go by its own rows alone
unfoldable pub no_counts : List ℕ
no_counts = replicate 64 0

-- the layout of a root's table stream, or F6
unfoldable pub layout_for : List ℕ → Root → Result Layout Refusal
layout_for bytes root = stream_tables bytes root.tables form.Base root.jtd no_counts

-- the metadata root of a file with this container
abbrev pub metadata_of : List ℕ → Container → List ℕ
metadata_of bytes c = part bytes c.metadata

-- the parts of a file with this container, this root and this layout
abbrev pub source_from : List ℕ → Container → Root → Layout → Source
source_from bytes c root l = record {
  stream = part (metadata_of bytes c) root.tables;
  layout = l;
  heaps = heaps_of (metadata_of bytes c) root;
  loaded = regions_of bytes c.sections;
  resources = part bytes c.resources;
  entry = c.entry;
  bare = c.bare;
}

-- one step after the other, up to the first refusal
infixl 10 ◌>>=◌
abbrev pub ◌>>=◌ : {A B : Type 0} → Result A Refusal → (A → Result B Refusal) → Result B Refusal
(Ok a) >>= f = f a
(Err e) >>= f = Err e

-- the source of a file, or F3, F4, F5, F9, F1, F2, F6
unfoldable pub source_of : List ℕ → Result Source Refusal
source_of bytes = do
  c ← container_of bytes
  root ← root_of (metadata_of bytes c)
  l ← layout_for (metadata_of bytes c) root
  Ok (source_from bytes c root l)

-- the chain that a source begins: its plain module, no delta, and its heaps
unfoldable pub chain_of_base : Source → Chain
chain_of_base s = record { plain = module_in s; ids = []; heaps = s.heaps ∷ [] }

abbrev pub source_or : Source → Option Refusal → Result Source Refusal
source_or s None = Ok s
source_or s (Some e) = Err e

-- the base that a file's bytes say, or the first refusal
unfoldable pub base_of : List ℕ → Result Source Refusal
base_of bytes = source_of bytes >>= λ s. source_or s (cells_fault s)
