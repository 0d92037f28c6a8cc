-- A module whose rows go to other places of their tables, and each token with its row (ECMA-335 II.22). No offset
-- and no heap is part of it.
use Rattle.std.specs.Prelude.{◌≡◌, ℕ, zero, suc, ◌+◌, Bool, true, false, ◌&&◌, ◌==◌, List, [], ◌∷◌, map, flat_map, filter, Option, Some, None, option_map, unwrap_or, if◌then◌else◌}
use Rattle.std.specs.List.Sorted.{IsPermutation}
use Rattle.std.specs.Option.{option_map_or}
use Rattle.enc_base.specs.Token.{nth_row, token_of, number_of, is_token}
use Rattle.enc_base.specs.declared.token.Token.{Token}
use Rattle.enc_token_map.specs.Body.{body_moved}
use Rattle.enc_row_order.specs.Orders.{Orders, moved_by, new_order, old_of, standing_rows}
use Rattle.enc_plain.specs.Apply.{childless}
use Rattle.enc_plain.specs.Cell.{Cell, number, text, blob, guid, refer, body, field}
use Rattle.enc_plain.specs.Debug.{PlainPdb}
use Rattle.enc_plain.specs.Module.{Module, Row, rows_in, row_at, has_row, cells_of}
use Rattle.enc_plain.specs.Rows.{token_at}
use Rattle.enc_plain.specs.Signatures.{signature_column, kind_in_table}
use Rattle.enc_plain.specs.Sound.{IsSound, row_count}
use Rattle.enc_rows.specs.Sums.{below}
use Rattle.enc_schema.specs.Children.{runs_in}
use Rattle.enc_schema.specs.Columns as columns
use Rattle.enc_base.specs.Tables as tables
use Rattle.enc_sigs.specs.Grammar.{sig_in, is_coded}
use Rattle.enc_sigs.specs.Moved.{sig_moved}
use Rattle.enc_sigs.specs.Spelling.{sig_bytes}
use Rattle.enc_sigs.specs.Tree.{SigTree}

-- the shortest spelling of a signature with its tokens moved; bytes that are none stay
abbrev pub spelled_or : (Token → Token) → List ℕ → Option SigTree → List ℕ
spelled_or f bytes (Some s) = sig_bytes (sig_moved f s)
spelled_or f bytes None = bytes

unfoldable pub signature_moved : (Token → Token) → ℕ → List ℕ → List ℕ
signature_moved f table bytes = spelled_or f bytes (sig_in is_coded (kind_in_table table bytes) bytes)

-- the column of a table that holds signatures
abbrev pub holds_signatures : ℕ → ℕ → Bool
holds_signatures table i = option_map_or (λ c. c == i) (signature_column table) false

-- a cell of a table's column with each token moved; other blobs than signatures keep their bytes
abbrev pub blob_moved : (Token → Token) → ℕ → Bool → List ℕ → List ℕ
blob_moved f table true bytes = signature_moved f table bytes
blob_moved f table false bytes = bytes

abbrev pub cell_moved : (Token → Token) → ℕ → ℕ → Cell → Cell
cell_moved f table i (number n) = number n
cell_moved f table i (text bytes) = text bytes
cell_moved f table i (blob bytes) = blob (blob_moved f table (holds_signatures table i) bytes)
cell_moved f table i (guid bytes) = guid bytes
cell_moved f table i (refer t) = refer (f t)
cell_moved f table i (body b) = body (option_map (body_moved f) b)
cell_moved f table i (field bytes) = field bytes

-- the cells of a row from a column on
unfoldable pub cells_moved : (Token → Token) → ℕ → ℕ → List Cell → List Cell
cells_moved f table i [] = []
cells_moved f table i (c ∷ rest) = cell_moved f table i c ∷ cells_moved f table (i + 1) rest

-- children of a table, and those of each run of a row
abbrev pub children_moved : (Token → Token) → ℕ → List ℕ → List ℕ
children_moved f child rows = map (λ row. (f (record { table = child; row = row })).row) rows

unfoldable pub kids_moved : (Token → Token) → List ℕ → List (List ℕ) → List (List ℕ)
kids_moved f (child ∷ children) (rows ∷ kids) = children_moved f child rows ∷ kids_moved f children kids
kids_moved f _ _ = []

-- a row with its cells and children
unfoldable pub row_moved : (Token → Token) → ℕ → Row → Row
row_moved f table r = record { cells = cells_moved f table 0 r.cells; kids = kids_moved f (runs_in table) r.kids }

-- the rows of a table in a new order
unfoldable pub rows_moved : (Token → Token) → ℕ → List ℕ → List Row → List Row
rows_moved f table order rows = map (λ row. row_moved f table (unwrap_or (row_at rows row) (childless table []))) order

-- the entry point moves with its row, and stays where it is the number of none
unfoldable pub entry_moved : (Token → Token) → Module → ℕ
entry_moved f m = if has_row m (token_of m.entry) then number_of (f (token_of m.entry)) else m.entry

-- the module whose tables have their rows in these orders
unfoldable pub module_with : Orders → Module → Module
module_with orders m = record {
  tables = map (λ table. rows_moved (moved_by orders) table (orders table) (rows_in m table))
      (below tables.table_count);
  resources = m.resources;
  entry = entry_moved (moved_by orders) m;
}

-- the module whose rows have the order of an ordinary one
unfoldable pub module_moved : Module → Module
module_moved m = module_with (new_order m) m

-- what is known of its methods: each has the points that it had
unfoldable pub pdb_moved : Module → PlainPdb → PlainPdb
pdb_moved m p t = p (old_of m t)

-- the rows of a table that move, each with its new place, and those of all tables
abbrev pub moves_of_row : Module → Token → List (Token × Token)
moves_of_row m t = if is_token (moved_by (new_order m) t) t then [] else (t, moved_by (new_order m) t) ∷ []

unfoldable pub moves_in : Module → ℕ → List (Token × Token)
moves_in m table = flat_map (λ row. moves_of_row m (record { table = table; row = row })) (standing_rows m table)

unfoldable pub moves_listed : Module → List (Token × Token)
moves_listed m = flat_map (moves_in m) (below tables.table_count)

-- the order of each table has each of its rows once, and nothing else
pub record AreOrders (m : Module) (orders : Orders) : Type 0 where
  pub each : (table : ℕ) → IsPermutation (standing_rows m table) (orders table)

-- whether a row of ClassLayout is of a type
abbrev pub is_layout_of : Module → ℕ → ℕ → Bool
is_layout_of m type row =
    is_token (token_at (cells_of m) (record { table = tables.class_layout; row = row }) columns.class_layout_parent)
    (record { table = tables.type_def; row = type })

-- the layouts of one type stay in their order, so that the first of them stays the first
pub record KeepLayouts (m : Module) (orders : Orders) : Type 0 where
  pub each : (type : ℕ) → filter (is_layout_of m type) (orders tables.class_layout)
      ≡ filter (is_layout_of m type) (standing_rows m tables.class_layout)

-- a sound module is sound in whatever orders its rows stand, as long as the layouts of one type keep theirs
abbrev pub OrdersKeepSound : Type 0
OrdersKeepSound = (m : Module) (orders : Orders) → AreOrders m orders → KeepLayouts m orders → IsSound m
    → IsSound (module_with orders m)
