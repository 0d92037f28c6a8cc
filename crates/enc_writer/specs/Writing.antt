-- For the contracts of private functions: what is written of a delta so far.
use Rattle.std.specs.Prelude.{◌≡◌, ℕ, ◌^◌, ◌<◌, Bool, true, false, ◌&&◌, ◌==◌, nat_lt, List, [], ◌∷◌, map, Some, None, slice_get, slice_index}
use Rattle.std.specs.List.{list_all}
use Rattle.std.specs.BTreeMap.{BTreeMap, get}
use Rattle.std.specs.Ordering.{nat_cmp}
use Rattle.enc_base.specs.declared.token.Token.{Token}
use Rattle.enc_meta.specs.Heaps.{Counted}
use Rattle.enc_meta.specs.Joined.{joined_user}
use Rattle.enc_schema.specs.Schema.{columns_in}
use Rattle.enc_base.specs.Tables as tables
use Rattle.enc_schema.specs.declared.column.Column.{Column}
use Rattle.enc_rows.specs.Written.{rows_at}
use Rattle.enc_plain.specs.Chain.{Chain}
use Rattle.enc_plain.specs.Sound.{number_fits}
use Rattle.enc_edit_list.specs.declared.edit.EditList.{EditList}
use Rattle.enc_rules.specs.Listed.{count_after}
use Rattle.enc_list_delta.specs.Delta.{is_edited, tokens_written, map_written, log_written, cells_written}
use Rattle.enc_meta.specs.BuiltLaws.{heaps_joined}
use Rattle.enc_list_delta.specs.Holds.{heaps_written, SaysModule, SayRows, PlacesBody, entry_numbers, token_numbers, is_listed_table, HoldDelta}
use Rattle.enc_list_delta.specs.Laws.{metadata_written}
use Rattle.enc_emit.specs.Written.{built_size}

abbrev pub method_token : ℕ → Token
method_token row = record { table = tables.method_def; row = row }

-- the methods that edits are about are known, each with the place of its body in the code, 0 where it has none
pub record MethodsPlaced (c : Chain) (l : EditList) (heaps : List Counted) (il : List ℕ)
    (methods : BTreeMap ℕ ℕ) : Type 0 where
  pub edited : (row place : ℕ) → get nat_cmp methods row ≡ Some place
      → is_edited c.plain l.edits (method_token row) ≡ true
  pub placed : (row place : ℕ) → get nat_cmp methods row ≡ Some place
      → PlacesBody (count_after c l.edits) (joined_user heaps) il place
      (slice_get (cells_written c.plain l.edits (method_token row)) 0)
  pub others : (row : ℕ) → get nat_cmp methods row ≡ None → is_edited c.plain l.edits (method_token row) ≡ false

-- each number of a row fits its column where indices take four bytes
abbrev pub row_fits_wide : List Column → List ℕ → Bool
row_fits_wide (column ∷ columns) (n ∷ cells) = number_fits column n && row_fits_wide columns cells
row_fits_wide _ _ = true

abbrev pub table_fits_wide : List (List (List ℕ)) → ℕ → Bool
table_fits_wide rows table = list_all (row_fits_wide (columns_in table)) (rows_at rows table)

-- the rows of all tables but one are as they were
abbrev pub OthersStay : ℕ → List (List (List ℕ)) → List (List (List ℕ)) → Type 0
OthersStay table old new = (k : ℕ) → (k == table) ≡ false → rows_at new k ≡ rows_at old k

-- the rows of a table are those of its edited rows, and fit
pub record IsTableWritten (c : Chain) (l : EditList) (heaps : List Counted) (il : List ℕ) (table : ℕ)
    (rows : List (List (List ℕ))) : Type 0 where
  pub say : SayRows c l heaps il (tokens_written c l.edits table) (rows_at rows table)
  pub fit : table_fits_wide rows table ≡ true

-- so is each listed table below one; and those from it on have no rows
pub record AreTablesWritten (c : Chain) (l : EditList) (heaps : List Counted) (il : List ℕ) (upto : ℕ)
    (rows : List (List (List ℕ))) : Type 0 where
  pub below : (table : ℕ) → table < upto → is_listed_table table ≡ true → IsTableWritten c l heaps il table rows
  pub behind : (table : ℕ) → nat_lt table upto ≡ false → rows_at rows table ≡ []
  pub unlisted : (table : ℕ) → is_listed_table table ≡ false → rows_at rows table ≡ []

-- Module has one row, which says what the list and the chain state, and fits
pub record IsModuleWritten (c : Chain) (l : EditList) (rows : List (List (List ℕ))) : Type 0 where
  pub numbers : List ℕ
  pub row : rows_at rows tables.«module» ≡ numbers ∷ []
  pub says : SaysModule c l (heaps_joined c.heaps (heaps_written c l)) (slice_index numbers)
  pub fit : table_fits_wide rows tables.«module» ≡ true

-- the rows of all tables are those of the delta
pub record AreRowsWritten (c : Chain) (l : EditList) (il : List ℕ) (rows : List (List (List ℕ))) : Type 0 where
  pub listed : (table : ℕ) → table < 64 → is_listed_table table ≡ true
      → IsTableWritten c l (heaps_joined c.heaps (heaps_written c l)) il table rows
  pub behind : (table : ℕ) → nat_lt table 64 ≡ false → rows_at rows table ≡ []
  pub single : IsModuleWritten c l rows
  pub log : rows_at rows tables.enc_log ≡ map entry_numbers (log_written c.plain l.edits)
  pub map_ : rows_at rows tables.enc_map ≡ map token_numbers (map_written c l.edits)

-- the metadata of a delta is the root of its heaps and of rows that hold what a list states
pub record IsMetadata (c : Chain) (l : EditList) (il bytes : List ℕ) : Type 0 where
  pub rows : List (List (List ℕ))
  pub held : HoldDelta c l il rows
  pub size : built_size (record { heaps = heaps_written c l; rows = rows }) true < 2 ^ 32
  pub root : bytes ≡ metadata_written c l rows
