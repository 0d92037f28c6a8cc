-- The rows after a delta, cell by cell.
use Rattle.std.proofs.Common.{◌≡◌, ℕ, true, List, [], Option, Some, None, refl, ap, ◌∙◌}
use Rattle.std.specs.Prelude.{is_some, option_map, option_and_then, unwrap_or, slice_get}
use Rattle.enc_base.specs.Token.{nil}
use Rattle.enc_base.specs.declared.token.Token.{Token}
use Rattle.enc_meta.specs.Joined.{joined_text, joined_blob}
use Rattle.enc_schema.specs.declared.column.Column.{Column}
use Rattle.enc_schema.specs.declared.column.Column.TheVariants.{Text, Blob, Index, Coded}
use Rattle.enc_schema.specs.declared.column.Coding.{Coding}
use Rattle.enc_schema.specs.Schema.{column_in}
use Rattle.enc_schema.specs.Coding.{decoded}
use Rattle.enc_rows.specs.Source.{Source, raw_in}
use Rattle.enc_rows.proofs.Listed.{get_below}
use Rattle.enc_plain.specs.Cell.{Cell, Kind, number, text, blob, refer, numbers, texts, blobs, references, kind_of, kind_in, cell_count}
use Rattle.enc_plain.specs.Module.{cells_of}
use Rattle.enc_plain.specs.Chain.{Chain}
use Rattle.enc_plain.specs.Reading.{within, index_token, cell_read, cell_with}
use Rattle.enc_plain.specs.Rows.{cell_at, number_at, bytes_at, token_at, token_of_cell, bytes_of_cell}
use Rattle.enc_plain.proofs.Columns.{HasPlainKind, plain_kind, column_with, text_column, blob_column, in_cells, number_for}
use Rattle.enc_delta.specs.Delta.{listed, place_in}
use Rattle.enc_delta.specs.Context.{row_or_nil}
use Rattle.enc_delta.specs.Rules.{heaps_after, reading_after, rows_with}
use Rattle.enc_delta.specs.Rows.{cell_after, cells_after, rows_after}

-- the delta's row for a token at a place
abbrev pub own : Token → ℕ → Token
own t k = record { table = t.table; row = k }

-- a listed token has the cells of the delta's row, and any other those before
pub own_is : (c : Chain) (s : Source) (t : Token) (k : ℕ) → place_in (listed s) t ≡ Some k → rows_after c s t ≡ Some (cells_after c s (own t k))
unfolding rows_after
own_is c s t k there = rw there refl

pub old_is : (c : Chain) (s : Source) (t : Token) → place_in (listed s) t ≡ None → rows_after c s t ≡ cells_of c.plain t
unfolding rows_after
old_is c s t none = rw none refl

-- so it is a row, and any other is one where it was
pub has_own : (c : Chain) (s : Source) (t : Token) (k : ℕ) → place_in (listed s) t ≡ Some k → is_some (rows_after c s t) ≡ true
has_own c s t k there = ap is_some (own_is c s t k there)

pub has_old : (c : Chain) (s : Source) (t : Token) → place_in (listed s) t ≡ None → is_some (rows_after c s t) ≡ is_some (cells_of c.plain t)
has_old c s t none = ap is_some (old_is c s t none)

-- the cell that a column's number stands for, or 0
abbrev pub read_or : Chain → Source → Column → ℕ → Option Cell
read_or c s column n = Some (unwrap_or (cell_read (reading_after c s) column n) (number 0))

-- a cell of a listed token, in a column with a kind
own_cell : (c : Chain) (s : Source) (t : Token) (k i : ℕ) (column : Column) (kind : Kind) → place_in (listed s) t ≡ Some k → column_in t.table i ≡ Some column → kind_of column ≡ Some kind → HasPlainKind t.table i kind → cell_at (rows_after c s) t i ≡ read_or c s column (raw_in s (own t k) i)
unfolding cell_after cell_with
own_cell c s t k i column kind there is has plain =
    ap (option_and_then (λ (cells : List Cell). slice_get cells i)) (own_is c s t k there) ∙ get_below (λ j. unwrap_or (cell_after c s (own t k) j) (number 0)) (cell_count t.table) i (in_cells t.table i column is (ap is_some has)) ∙ rw (is, plain.body, plain.field) refl

-- its number, its text, its blob
pub number_own : (c : Chain) (s : Source) (t : Token) (k i : ℕ) → kind_in t.table i ≡ Some numbers → place_in (listed s) t ≡ Some k → number_at (rows_after c s) t i ≡ raw_in s (own t k) i
unfolding number_at
number_own c s t k i kind there =
    let plain = plain_kind _ _ numbers refl kind in
    let w = column_with _ _ plain.kind in
    rw (own_cell c s t k i w.0 numbers there w.1 w.2 plain, number_for (reading_after c s) w.0 (raw_in s (own t k) i) w.2) refl

text_or : (o : Option (List ℕ)) → bytes_of_cell (Some (unwrap_or (option_map text o) (number 0))) ≡ unwrap_or o []
text_or (Some bytes) = refl
text_or None = refl

blob_or : (o : Option (List ℕ)) → bytes_of_cell (Some (unwrap_or (option_map blob o) (number 0))) ≡ unwrap_or o []
blob_or (Some bytes) = refl
blob_or None = refl

token_or : (o : Option Token) → token_of_cell (Some (unwrap_or (option_map refer o) (number 0))) ≡ unwrap_or o nil
token_or (Some t) = refl
token_or None = refl

pub text_own : (c : Chain) (s : Source) (t : Token) (k i : ℕ) → kind_in t.table i ≡ Some texts → place_in (listed s) t ≡ Some k → bytes_at (rows_after c s) t i ≡ unwrap_or (joined_text (heaps_after c s) (raw_in s (own t k) i)) []
unfolding bytes_at cell_read reading_after
text_own c s t k i kind there =
    let plain = plain_kind _ _ texts refl kind in
    let w = column_with _ _ plain.kind in
    let e = w.1 ∙ ap (λ x. Some x) (text_column w.0 w.2) in
    rw (own_cell c s t k i Text texts there e refl plain) (text_or (joined_text (heaps_after c s) (raw_in s (own t k) i)))

pub blob_own : (c : Chain) (s : Source) (t : Token) (k i : ℕ) → kind_in t.table i ≡ Some blobs → place_in (listed s) t ≡ Some k → bytes_at (rows_after c s) t i ≡ unwrap_or (joined_blob (heaps_after c s) (raw_in s (own t k) i)) []
unfolding bytes_at cell_read reading_after
blob_own c s t k i kind there =
    let plain = plain_kind _ _ blobs refl kind in
    let w = column_with _ _ plain.kind in
    let e = w.1 ∙ ap (λ x. Some x) (blob_column w.0 w.2) in
    rw (own_cell c s t k i Blob blobs there e refl plain) (blob_or (joined_blob (heaps_after c s) (raw_in s (own t k) i)))

-- the token of an index, and of a coded one: nil where it names no row after
pub index_own : (c : Chain) (s : Source) (t : Token) (k i table : ℕ) → kind_in t.table i ≡ Some references → place_in (listed s) t ≡ Some k → column_in t.table i ≡ Some (Index table) → token_at (rows_after c s) t i ≡ row_or_nil (record { chain = c; delta = s }) (Some (index_token table (raw_in s (own t k) i)))
unfolding token_at cell_read reading_after
index_own c s t k i table kind there is =
    rw (own_cell c s t k i (Index table) references there is refl (plain_kind _ _ references refl kind)) (token_or (within (rows_with c (listed s)) (index_token table (raw_in s (own t k) i))))

pub coded_own : (c : Chain) (s : Source) (t : Token) (k i : ℕ) (coding : Coding) → kind_in t.table i ≡ Some references → place_in (listed s) t ≡ Some k → column_in t.table i ≡ Some (Coded coding) → token_at (rows_after c s) t i ≡ row_or_nil (record { chain = c; delta = s }) (decoded coding (raw_in s (own t k) i))
unfolding token_at cell_read reading_after
coded_own c s t k i coding kind there is =
    rw (own_cell c s t k i (Coded coding) references there is refl (plain_kind _ _ references refl kind)) (token_or (option_and_then (within (rows_with c (listed s))) (decoded coding (raw_in s (own t k) i))))

-- the rows before, seen through those after
pub number_old : (c : Chain) (s : Source) (t : Token) (i : ℕ) → place_in (listed s) t ≡ None → number_at (rows_after c s) t i ≡ number_at (cells_of c.plain) t i
unfolding number_at
number_old c s t i none = rw (old_is c s t none) refl

pub bytes_old : (c : Chain) (s : Source) (t : Token) (i : ℕ) → place_in (listed s) t ≡ None → bytes_at (rows_after c s) t i ≡ bytes_at (cells_of c.plain) t i
unfolding bytes_at
bytes_old c s t i none = rw (old_is c s t none) refl

pub token_old : (c : Chain) (s : Source) (t : Token) (i : ℕ) → place_in (listed s) t ≡ None → token_at (rows_after c s) t i ≡ token_at (cells_of c.plain) t i
unfolding token_at
token_old c s t i none = rw (old_is c s t none) refl

pub ruleset own_rows_steps = (index_own, coded_own, token_old)
