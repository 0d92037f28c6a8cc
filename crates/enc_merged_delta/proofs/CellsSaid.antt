-- Each number in a row of the merged delta says the cell that its token has after both, so none is an index or an offset of nothing.
use Rattle.std.proofs.Common.{◌≡◌, ℕ, Bool, true, false, length, Option, Some, None, refl, sym, ap, ◌∙◌, subst}
use Rattle.std.specs.Prelude.{◌&&◌, not, is_some, option_map, option_and_then, slice_get}
use Rattle.enc_base.specs.Order.{first_below}
use Rattle.enc_base.specs.Token.{nth_row}
use Rattle.enc_base.specs.declared.refusal.Place.TheVariants as place
use Rattle.enc_base.specs.declared.token.Token.{Token}
use Rattle.enc_plain.specs.Cell.{Cell, Kind, texts, blobs, guids, references, kind_of, is_body, is_field, kind_in, cell_kind}
use Rattle.enc_plain.specs.Chain.{Chain}
use Rattle.enc_plain.specs.Module.{cell_of}
use Rattle.enc_plain.specs.Reading.{Reading, cell_read, cell_with}
use Rattle.enc_image.proofs.SoundTables.{place_of}
use Rattle.enc_rows.specs.Layout.{rows_of}
use Rattle.enc_rows.specs.Source.{Source, raw_in}
use Rattle.enc_schema.specs.Schema.{columns_in, column_in, is_offset}
use Rattle.enc_base.specs.Tables as tables
use Rattle.enc_schema.specs.declared.column.Column.{Column}
use Rattle.enc_schema.specs.declared.column.Column.TheVariants.{Num8, Num16, Num32, Text, Guid, Blob, Index, Coded, Run}
use Rattle.enc_delta.specs.Delta.{listed, of_table}
use Rattle.enc_delta.specs.Rows.{cell_after, own_row}
use Rattle.enc_delta.specs.Rules.{broken, reading_after, is_index, cell_breaks, cell_fault, row_fault, table_fault, bad_index, bad_offset}
use Rattle.enc_merged_delta.specs.Laws.{KeepsMerged}
use Rattle.enc_merged_delta.specs.Merged.{MayMerge, SaysMerged, after_both, is_in_map}
use Rattle.enc_merged_delta.proofs.Silent.{all_silent}
use Rattle.enc_merged_delta.proofs.BothModules.{sound_both, row_of_both, NthToken, nth_token}

-- a cell of a listed token: what the row says, and what the module after both has
pub record CellSaid (c : Chain) (a b s : Source) (u : Token) (i : ℕ) (k : Kind) : Type 0 where
  pub cell : Cell
  pub said : cell_after c s (own_row s u) i ≡ Some cell
  pub there : cell_of (after_both c a b).plain u i ≡ Some cell
  pub kind : cell_kind cell ≡ k

cell_by : (c : Chain) (a b s : Source) (u : Token) (i : ℕ) (k : Kind) (o : Option Cell) → cell_after c s (own_row s u) i ≡ cell_of (after_both c a b).plain u i
    → cell_of (after_both c a b).plain u i ≡ o → option_map cell_kind o ≡ Some k → CellSaid c a b s u i k
cell_by c a b s u i k None said is kind = absurd cc
cell_by c a b s u i k (Some cell) said is kind = record { cell = cell; said = said ∙ is; there = is; kind = let e : cell_kind cell ≡ k = cc in e }

pub cell_said : (c : Chain) (a b s : Source) (u : Token) (i : ℕ) (k : Kind) → MayMerge c a b → SaysMerged c a b s → is_in_map s u ≡ true → kind_in u.table i ≡ Some k → CellSaid c a b s u i k
cell_said c a b s u i k may says there kind =
    let has = (sound_both c a b may).kinds.kinds u i k (row_of_both c a b s u may says there) kind in
    cell_by c a b s u i k (cell_of (after_both c a b).plain u i) ((says.rows u there).cells i k kind) refl has

-- a rule on columns that asks of none whose numbers are places or runs
abbrev AsksCells : (Column → Bool) → Type 0
AsksCells asks = (column : Column) → asks column ≡ true → (k : Kind) × (kind_of column ≡ Some k) × (column ≡ Num32 → ⊥)

indices_ask : AsksCells is_index
indices_ask (Index t) h = (references, refl, λ e. absurd cc)
indices_ask (Coded k) h = (references, refl, λ e. absurd cc)
indices_ask Num8 h = absurd cc
indices_ask Num16 h = absurd cc
indices_ask Num32 h = absurd cc
indices_ask Text h = absurd cc
indices_ask Guid h = absurd cc
indices_ask Blob h = absurd cc
indices_ask (Run t) h = absurd cc

offsets_ask : AsksCells is_offset
offsets_ask Text h = (texts, refl, λ e. absurd cc)
offsets_ask Guid h = (guids, refl, λ e. absurd cc)
offsets_ask Blob h = (blobs, refl, λ e. absurd cc)
offsets_ask Num8 h = absurd cc
offsets_ask Num16 h = absurd cc
offsets_ask Num32 h = absurd cc
offsets_ask (Index t) h = absurd cc
offsets_ask (Coded k) h = absurd cc
offsets_ask (Run t) h = absurd cc

-- places are numbers of four bytes
no_column : (t i k : ℕ) (column : Column) → column_in k 0 ≡ Some Num32 → column_in t i ≡ Some column → (column ≡ Num32 → ⊥) → (t ≡ k) × (i ≡ 0) → ⊥
no_column t i k column first is other at =
    let e : column_in k 0 ≡ Some column = subst (λ j. column_in k j ≡ Some column) at.1 (subst (λ n. column_in n i ≡ Some column) at.0 is) in
    let f : Some Num32 ≡ Some column = sym first ∙ e in
    let same : Num32 ≡ column = cc in
    other (sym same)

no_place : (t i : ℕ) (column : Column) → column_in t i ≡ Some column → (column ≡ Num32 → ⊥) → (is_body t i ≡ false) × (is_field t i ≡ false)
unfolding columns_in
no_place t i column is other = (by_body (is_body t i) refl, by_field (is_field t i) refl)
  where
    by_body : (b : Bool) → is_body t i ≡ b → b ≡ false
    by_body false e = refl
    by_body true e = absurd (no_column t i 0x06 column refl is other (place_of t i 0x06 e))

    by_field : (b : Bool) → is_field t i ≡ b → b ≡ false
    by_field false e = refl
    by_field true e = absurd (no_column t i 0x1D column refl is other (place_of t i 0x1D e))

plain_read : (r : Reading) (u : Token) (i : ℕ) (column : Column) (x : ℕ) → is_body u.table i ≡ false → is_field u.table i ≡ false → cell_with r u i column x ≡ cell_read r column x
unfolding cell_with
plain_read r u i column x body field = rw (body, field) refl

plain_cell : (c : Chain) (s : Source) (row : Token) (i : ℕ) (column : Column) → column_in row.table i ≡ Some column → is_body row.table i ≡ false → is_field row.table i ≡ false
    → cell_after c s row i ≡ cell_read (reading_after c s) column (raw_in s row i)
unfolding cell_after
plain_cell c s row i column is body field =
    ap (option_and_then (λ (k : Column). cell_with (reading_after c s) row i k (raw_in s row i))) is
    ∙ plain_read (reading_after c s) row i column (raw_in s row i) body field

plain_kind_of : (t i : ℕ) (column : Column) (k : Kind) → column_in t i ≡ Some column → kind_of column ≡ Some k → is_body t i ≡ false → is_field t i ≡ false → kind_in t i ≡ Some k
plain_kind_of t i column k is kind body field = rw (body, field, is) kind

cell_good : (c : Chain) (a b s : Source) (asks : Column → Bool) (u : Token) (t n i : ℕ) (column : Column) → AsksCells asks → MayMerge c a b → SaysMerged c a b s → NthToken s t n u
    → column_in t i ≡ Some column → cell_breaks c s asks (nth_row t n) i column ≡ false
cell_good c a b s asks u t n i column plain may says at is = by (asks column) refl
  where
    good : asks column ≡ true → is_some (cell_read (reading_after c s) column (raw_in s (nth_row t n) i)) ≡ true
    good ask =
        let p = plain column ask in
        let b_ = no_place t i column is p.2 in
        let kind : kind_in u.table i ≡ Some p.0 = ap (λ v. kind_in v i) at.own ∙ plain_kind_of t i column p.0 is p.1 b_.0 b_.1 in
        let cell = cell_said c a b s u i p.0 may says at.there kind in
        ap is_some (sym (plain_cell c s (nth_row t n) i column is b_.0 b_.1) ∙ ap (λ (row : Token). cell_after c s row i) (sym at.row) ∙ cell.said)

    by : (ask : Bool) → asks column ≡ ask → (asks column && not (is_some (cell_read (reading_after c s) column (raw_in s (nth_row t n) i)))) ≡ false
    by false ask = rw ask refl
    by true ask = rw (ask, good ask) refl

cells_good : (asks : Column → Bool) (c : Chain) (a b s : Source) → AsksCells asks → MayMerge c a b → SaysMerged c a b s → first_below (table_fault c s asks) tables.table_count ≡ None
unfolding table_fault row_fault cell_fault
cells_good asks c a b s plain may says =
    all_silent (table_fault c s asks) tables.table_count (λ t low. all_silent (row_fault c s asks t) (rows_of s.layout t) (λ n few. at_row t n (slice_get (of_table t (listed s)) n) refl))
  where
    at_cell : (t n i : ℕ) (u : Token) (o : Option Column) → NthToken s t n u → column_in t i ≡ o → option_and_then (λ (column : Column). broken (cell_breaks c s asks (nth_row t n) i column) (place.Cell u i)) o ≡ None
    at_cell t n i u None at is = refl
    at_cell t n i u (Some column) at is = ap (λ x. broken x (place.Cell u i)) (cell_good c a b s asks u t n i column plain may says at is)

    at_row : (t n : ℕ) (o : Option Token) → slice_get (of_table t (listed s)) n ≡ o
        → option_and_then (λ (token : Token). first_below (cell_fault c s asks token (nth_row t n)) (length (columns_in t))) o ≡ None
    at_row t n None is = refl
    at_row t n (Some u) is =
        all_silent (cell_fault c s asks u (nth_row t n)) (length (columns_in t)) (λ i few. at_cell t n i u (column_in t i) (nth_token c a b s t n u says is) refl)

-- E13
pub keeps_indices : KeepsMerged bad_index
unfolding bad_index
keeps_indices c a b s may says = cells_good is_index c a b s indices_ask may says

-- E14
pub keeps_offsets : KeepsMerged bad_offset
unfolding bad_offset
keeps_offsets c a b s may says = cells_good is_offset c a b s offsets_ask may says
