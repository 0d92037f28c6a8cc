-- What the metadata of a delta says: its EncLog, its EncMap, and which row stands for which token.
use Rattle.std.specs.Prelude.{ℕ, suc, Bool, true, not, ◌&&◌, List, [], ◌∷◌, map, filter, position, Option, option_map, ◌==◌, Result, Ok, Err, replicate}
use Rattle.enc_base.specs.Token.{token_of, nth_row}
use Rattle.enc_base.specs.declared.token.Token.{Token}
use Rattle.enc_base.specs.declared.refusal.Refusal.{Refusal}
use Rattle.enc_meta.specs.declared.root.Root.{Root}
use Rattle.enc_meta.specs.Root.{root_of}
use Rattle.enc_meta.specs.Regions.{Region}
use Rattle.enc_meta.specs.Heaps.{part, heaps_of}
use Rattle.enc_rows.specs.Sums.{below}
use Rattle.enc_rows.specs.Layout.{Layout, rows_of, stream_tables}
use Rattle.enc_rows.specs.Source.{Source, raw_in}
use Rattle.enc_delta.specs.declared.log_entry.LogEntry.{LogEntry}
use Rattle.enc_rows.specs.declared.form.Form.TheVariants as form
use Rattle.enc_base.specs.Tables as tables
use Rattle.enc_schema.specs.Columns as columns

-- the token of the Module row, which log and map may have and which means nothing there
abbrev pub is_module : Token → Bool
is_module t = t.table == 0 && t.row == 1

-- the i-th entry of EncLog and the i-th token of EncMap, i from 0
unfoldable pub entry_at : Source → ℕ → LogEntry
entry_at s i = record {
  token = token_of (raw_in s (nth_row tables.enc_log i) columns.enc_log_token);
  operation = raw_in s (nth_row tables.enc_log i) columns.enc_log_func_code;
}

unfoldable pub map_token : Source → ℕ → Token
map_token s i = token_of (raw_in s (nth_row tables.enc_map i) columns.enc_map_token)

-- EncLog and EncMap as they stand
unfoldable pub log_in : Source → List LogEntry
log_in s = map (entry_at s) (below (rows_of s.layout tables.enc_log))

unfoldable pub map_in : Source → List Token
map_in s = map (map_token s) (below (rows_of s.layout tables.enc_map))

-- the tokens of EncMap but the Module's
unfoldable pub listed : Source → List Token
listed s = filter (λ t. not (is_module t)) (map_in s)

-- the tokens of one table: the k-th goes with the table's k-th row
abbrev pub of_table : ℕ → List Token → List Token
of_table table tokens = filter (λ (t : Token). t.table == table) tokens

-- the position of a token among its table's, from 1
unfoldable pub place_in : List Token → Token → Option ℕ
place_in tokens token = option_map suc (position (λ (t : Token). t.row == token.row) (of_table token.table tokens))

-- a delta's code stands from 0 on
abbrev pub loaded_code : List ℕ → List Region
loaded_code il = record { address = 0; bytes = il } ∷ []

-- the parts of a delta with this code, and metadata with this root and this layout
abbrev pub delta_source : List ℕ → List ℕ → Root → Layout → Source
delta_source bytes il root l = record {
  stream = part bytes root.tables;
  layout = l;
  heaps = heaps_of bytes root;
  loaded = loaded_code il;
  resources = [];
  entry = 0;
  bare = true;
}

-- the parts of a delta, or F1, F2, F6 of its metadata
abbrev pub source_with : List ℕ → List ℕ → Root → Result Layout Refusal → Result Source Refusal
source_with bytes il root (Ok l) = Ok (delta_source bytes il root l)
source_with bytes il root (Err e) = Err e

-- the layout of a delta's table stream, or F6
unfoldable pub delta_layout : List ℕ → Root → Result Layout Refusal
delta_layout bytes root = stream_tables bytes root.tables form.Delta root.jtd (replicate 64 0)

abbrev pub source_in : List ℕ → List ℕ → Result Root Refusal → Result Source Refusal
source_in bytes il (Ok root) = source_with bytes il root (delta_layout bytes root)
source_in bytes il (Err e) = Err e

unfoldable pub delta_of : List ℕ → List ℕ → Result Source Refusal
delta_of bytes il = source_in bytes il (root_of bytes)
