-- A delta that holds what an edit list states: by its parts, before they are bytes, and as it is read.
use Rattle.std.specs.Prelude.{◌≡◌, ℕ, ◌+◌, ◌<◌, Bool, true, not, ◌||◌, ◌==◌, List, [], ◌∷◌, length, map, Option, Some, None, slice_get, slice_index}
use Rattle.enc_base.specs.Token.{nth_row, number_of}
use Rattle.enc_base.specs.declared.token.Token.{Token}
use Rattle.enc_meta.specs.Built.{Built, heaps_built, with_guid}
use Rattle.enc_meta.specs.BuiltLaws.{IsGood, heaps_joined}
use Rattle.enc_meta.specs.Heaps.{Counted}
use Rattle.enc_meta.specs.Joined.{joined_text, joined_blob, joined_guid, joined_user}
use Rattle.enc_schema.specs.Columns as columns
use Rattle.enc_schema.specs.Schema.{column_in}
use Rattle.enc_base.specs.Tables as tables
use Rattle.enc_schema.specs.declared.column.Column.{Column}
use Rattle.enc_schema.specs.declared.column.Column.TheVariants.{Run}
use Rattle.enc_opcodes.specs.Body.{Body}
use Rattle.enc_rows.specs.Layout.{rows_of}
use Rattle.enc_rows.specs.Source.{Source, raw_in}
use Rattle.enc_rows.specs.Written.{rows_at, AreRows, IndicesFit}
use Rattle.enc_plain.specs.Bodies.{body_loaded, code_loaded, code_is_good}
use Rattle.enc_plain.specs.Cell.{Cell, body}
use Rattle.enc_plain.specs.Chain.{Chain, mvid_of, id_of}
use Rattle.enc_plain.specs.Reading.{Reading, cell_with}
use Rattle.enc_plain.specs.Sound.{IsSound}
use Rattle.enc_delta.specs.Delta.{loaded_code, log_in, map_in}
use Rattle.enc_delta.specs.Rules.{module_token}
use Rattle.enc_delta.specs.declared.log_entry.LogEntry.{LogEntry}
use Rattle.enc_edit_list.specs.Form.{list_fits}
use Rattle.enc_edit_list.specs.declared.edit.EditList.{EditList}
use Rattle.enc_rules.specs.First.{first_edit}
use Rattle.enc_rules.specs.Listed.{count_after}
use Rattle.enc_rules.specs.Rules.{heaps_with}
use Rattle.enc_list_delta.specs.Delta.{tokens_written, map_written, log_written, cells_written}

-- the list is of the form and breaks no rule after a chain whose module is sound
pub record MayFollow (c : Chain) (l : EditList) : Type 0 where
  pub form : list_fits l ≡ true
  pub rules : first_edit c l ≡ None
  pub sound : IsSound c.plain

-- the heaps of the delta: behind the chain's, what the edits bring, and the list's EncId
unfoldable pub heaps_written : Chain → EditList → Built
heaps_written c l = with_guid (heaps_with c l.edits l.edits) l.enc_id

-- by what the numbers of its rows are read: the joined heaps, the rows after the list, and its own code
abbrev pub reading_with : Chain → EditList → List Counted → List ℕ → Reading
reading_with c l heaps il = record {
  text = joined_text heaps;
  blob = joined_blob heaps;
  guid = joined_guid heaps;
  count = count_after c l.edits;
  code = body_loaded (loaded_code il) (joined_user heaps);
  field = λ row. [];
}

-- a number says a cell; a run says nothing
abbrev pub SaysCell : Reading → Token → ℕ → Column → ℕ → Option Cell → Type 0
SaysCell r u i (Run child) x cell = Unit {0}
SaysCell r u i column x cell = cell_with r u i column x ≡ cell

-- a body stands at a place of the code, and is good there; without a body the place is 0
pub record StandsIn (count : ℕ → ℕ) (users : ℕ → Option (List ℕ)) (il : List ℕ) (place : ℕ) (b : Body) : Type 0 where
  pub some : 0 < place
  pub meant : body_loaded (loaded_code il) users place ≡ Some b
  pub good : code_is_good count users (code_loaded (loaded_code il) place) ≡ true

abbrev pub PlacesBody : (ℕ → ℕ) → (ℕ → Option (List ℕ)) → List ℕ → ℕ → Option Cell → Type 0
PlacesBody count users il place (Some (body (Some b))) = StandsIn count users il place b
PlacesBody count users il place _ = place ≡ 0

-- the numbers of a row say the cells that the edits give it, and a method's body stands in the code
pub record SaysRow (c : Chain) (l : EditList) (heaps : List Counted) (il : List ℕ) (u : Token)
    (number : ℕ → ℕ) : Type 0 where
  pub each : (i : ℕ) (column : Column) → column_in u.table i ≡ Some column
      → SaysCell (reading_with c l heaps il) u i column (number i) (slice_get (cells_written c.plain l.edits u) i)
  pub body : (u.table == tables.method_def) ≡ true
      → PlacesBody (count_after c l.edits) (joined_user heaps) il (number 0)
      (slice_get (cells_written c.plain l.edits u) 0)

-- the numbers of the Module row: the next generation, and the numbers of the base's Mvid, of the list's EncId and of
-- the last EncId (ECMA-335 II.22.30)
pub record SaysModule (c : Chain) (l : EditList) (heaps : List Counted) (number : ℕ → ℕ) : Type 0 where
  pub generation : number columns.module_generation ≡ length c.ids + 1
  pub mvid : joined_guid heaps (number columns.module_mvid) ≡ Some (mvid_of c)
  pub enc_id : joined_guid heaps (number columns.module_enc_id) ≡ Some l.enc_id
  pub base : joined_guid heaps (number columns.module_enc_base_id) ≡ Some (id_of c (length c.ids))

abbrev pub entry_numbers : LogEntry → List ℕ
entry_numbers e = number_of e.token ∷ e.operation ∷ []

abbrev pub token_numbers : Token → List ℕ
token_numbers t = number_of t ∷ []

-- rows, one for each of some tokens, say what the edits give these
unfoldable pub SayRows : Chain → EditList → List Counted → List ℕ → List Token → List (List ℕ) → Type 0
SayRows c l heaps il [] [] = Unit {0}
SayRows c l heaps il (u ∷ tokens) (r ∷ rows) = SaysRow c l heaps il u (slice_index r) × SayRows c l heaps il tokens rows
SayRows c l heaps il _ _ = ⊥

-- the tables but Module, EncLog and EncMap
abbrev pub is_listed_table : ℕ → Bool
is_listed_table table = not (table == tables.«module» || table == tables.enc_log || table == tables.enc_map)

-- the heaps, the code and the rows of a delta hold what a list states after a chain
pub record HoldDelta (c : Chain) (l : EditList) (il : List ℕ) (rows : List (List (List ℕ))) : Type 0 where
  pub good : IsGood (heaps_written c l)
  pub numbers : AreRows rows
  pub fit : IndicesFit rows true
  pub single : (numbers : List ℕ) × (rows_at rows tables.«module» ≡ numbers ∷ [])
      × SaysModule c l (heaps_joined c.heaps (heaps_written c l)) (slice_index numbers)
  pub log : rows_at rows tables.enc_log ≡ map entry_numbers (log_written c.plain l.edits)
  pub map_ : rows_at rows tables.enc_map ≡ map token_numbers (map_written c l.edits)
  pub others : (table : ℕ) → is_listed_table table ≡ true
      → SayRows c l (heaps_joined c.heaps (heaps_written c l)) il (tokens_written c l.edits table) (rows_at rows table)

-- a delta that is read says what a list states after a chain
pub record SaysDelta (c : Chain) (l : EditList) (s : Source) : Type 0 where
  pub heaps : s.heaps ≡ heaps_built (heaps_written c l)
  pub good : IsGood (heaps_written c l)
  pub code : (il : List ℕ) × (s.loaded ≡ loaded_code il)
      × ((table n : ℕ) (u : Token) → is_listed_table table ≡ true
      → slice_get (tokens_written c l.edits table) n ≡ Some u
      → SaysRow c l (heaps_joined c.heaps (heaps_written c l)) il u (raw_in s (nth_row table n)))
  pub single : SaysModule c l (heaps_joined c.heaps (heaps_written c l)) (raw_in s module_token)
  pub log : log_in s ≡ log_written c.plain l.edits
  pub map_ : map_in s ≡ map_written c l.edits
  pub counts : (table : ℕ) → is_listed_table table ≡ true
      → rows_of s.layout table ≡ length (tokens_written c l.edits table)
