-- For the contracts of private functions: what is written of the merged delta so far.
use Rattle.std.specs.Prelude.{◌≡◌, ◌≤◌, ◌<◌, ℕ, ◌+◌, ◌^◌, ◌==◌, Bool, true, false, ◌||◌, is_some, List, [], ◌∷◌, ◌++◌, drop, filter, length, map}
use Rattle.std.specs.Prelude.{Some, Result, Ok, Err, nat_lt, unwrap_or, slice_get, slice_index}
use Rattle.std.specs.List.Sorted.{IsStrictlyIncreasing}
use Rattle.enc_base.specs.Token.{number_of, token_of}
use Rattle.enc_base.specs.declared.token.Token.{Token}
use Rattle.enc_emit.specs.Written.{root_size, root_written}
use Rattle.enc_meta.specs.Heaps.{Counted, nil_guid}
use Rattle.enc_meta.specs.Joined.{joined_guid}
use Rattle.enc_rows.specs.Source.{Source}
use Rattle.enc_rows.specs.Written.{AreRows, IndicesFit, heap_bits, rows_at, stream_of}
use Rattle.enc_schema.specs.Columns as columns
use Rattle.enc_schema.specs.Schema.{column_in}
use Rattle.enc_schema.specs.declared.column.Column.{Column}
use Rattle.enc_base.specs.Tables as tables
use Rattle.enc_plain.specs.Chain.{Chain, id_of, mvid_of}
use Rattle.enc_plain.specs.Sound.{IsSound}
use Rattle.enc_delta.specs.Delta.{delta_of, listed, log_in, of_table}
use Rattle.enc_delta.specs.Rows.{own_row}
use Rattle.enc_delta.specs.Rules.{counted, own_guid, stands_in}
use Rattle.enc_delta.specs.Seen.{WasRead}
use Rattle.enc_agg.specs.Extend.{chain_with, extended}
use Rattle.enc_agg.specs.Follows.{Follows}
use Rattle.enc_agg.specs.Seen.{History}
use Rattle.enc_reference_depth.specs.Depth.{IsShallow}
use Rattle.enc_merged_delta.specs.Held.{HaveShortCode, IsNumberOfBoth, RowHeld, heaps_with_merged, il_merged, shift_of}
use Rattle.enc_merged_delta.specs.Merged.{SaysMerged, after_both, guids_joined, has_tokens, is_in_map}
use Rattle.enc_list_delta.specs.Holds.{entry_numbers}
use Rattle.enc_ppdb.specs.PdbChain.{DebugDelta, PdbHistory, is_named_by, pdb_with}
use Rattle.enc_ppdb.specs.Written.{most_pdb_weight}
use Rattle.enc_pdb_writer.specs.Methods.{SaysMethods}
use Rattle.enc_checker.specs.Check.{new_code}
use Rattle.enc_emit.specs.declared.delta_bytes.DeltaBytes.{DeltaBytes}
use Rattle.enc_chain.specs.Goes.{GoesWith}
use Rattle.enc_merge.specs.Merges.{HasNumbersOfBoth, StandsForBoth, methods_listed}
use Rattle.enc_merge.specs.Points.{debug_of_rows}
use Rattle.enc_merge.specs.declared.fault.MergeFault.{MergeFault}
use Rattle.enc_merge.specs.declared.fault.MergeFault.TheVariants.{Memory, TooLarge, Deep}
use Rattle.enc_merge.specs.declared.rows.Newest.{Newest}

-- a chain, and two deltas that follow it
pub record Both : Type 0 where
  pub chain : Chain
  pub first : Source
  pub second : Source

-- the last two deltas of a history, and the chain before them: they follow it, and aren't too long
pub record AreLast (h : History) (x : Both) : Type 0 where
  pub deltas : h.deltas ≡ x.second ∷ x.first ∷ drop 2 h.deltas
  pub chain : x.chain ≡ chain_with h.base (drop 2 h.deltas)
  pub sound : IsSound x.chain.plain
  pub first_read : WasRead x.first
  pub second_read : WasRead x.second
  pub first : Follows x.chain x.first
  pub second : Follows (extended x.chain x.first) x.second
  pub stream : length x.first.stream + length x.second.stream ≤ 2 ^ 27
  pub code : HaveShortCode x.first x.second

-- the module after both
abbrev pub chain_of_both : Both → Chain
chain_of_both x = after_both x.chain x.first x.second

-- the heaps that are written: those of the two one behind the other, and each entry of `#GUID` that the chain has
unfoldable pub heaps_put : Both → Counted
heaps_put x = record {
  strings = x.first.heaps.strings ++ x.second.heaps.strings;
  users = x.first.heaps.users ++ x.second.heaps.users;
  blobs = x.first.heaps.blobs ++ x.second.heaps.blobs;
  guids = guids_joined (after_both x.chain x.first x.second).heaps;
}

-- the numbers of the tokens that one of the two lists, rising
pub record AreOfEither (first second : Source) (numbers : List ℕ) : Type 0 where
  pub rises : IsStrictlyIncreasing numbers
  pub each : (n : ℕ) → stands_in numbers n
      ≡ (stands_in (map number_of (listed first)) n || stands_in (map number_of (listed second)) n)

-- their tokens
abbrev pub tokens_of : List ℕ → List Token
tokens_of numbers = map token_of numbers

-- rows, one for each of some tokens, say what these have after both
unfoldable pub AreRowsHeld : Both → List Token → List (List ℕ) → Type 0
AreRowsHeld x [] [] = Unit {0}
AreRowsHeld x (u ∷ tokens) (r ∷ rows) = RowHeld x.chain x.first x.second u r × AreRowsHeld x tokens rows
AreRowsHeld x _ _ = ⊥

-- the numbers of the Module row: the first one's generation, and the numbers of the Mvid, of the second one's EncId
-- and of the first one's EncBaseId
pub record IsModuleHeld (x : Both) (number : ℕ → ℕ) : Type 0 where
  pub generation : number columns.module_generation ≡ length x.chain.ids + 1
  pub mvid : unwrap_or (joined_guid (heaps_with_merged x.chain x.first x.second) (number columns.module_mvid)) nil_guid
      ≡ mvid_of x.chain
  pub enc_id : unwrap_or (joined_guid (heaps_with_merged x.chain x.first x.second) (number columns.module_enc_id))
      nil_guid
      ≡ own_guid (extended x.chain x.first) x.second columns.module_enc_id
  pub base : unwrap_or (joined_guid (heaps_with_merged x.chain x.first x.second) (number columns.module_enc_base_id))
      nil_guid
      ≡ id_of x.chain (length x.chain.ids)

-- the rows of the merged delta
pub record AreBothTables (x : Both) (numbers : List ℕ) (rows : List (List (List ℕ))) : Type 0 where
  pub listed : (table : ℕ) → has_tokens table ≡ true
      → AreRowsHeld x (of_table table (tokens_of numbers)) (rows_at rows table)
  pub single : (row : List ℕ) × ((rows_at rows tables.«module» ≡ row ∷ []) × IsModuleHeld x (slice_index row))
  pub log : rows_at rows tables.enc_log ≡ map entry_numbers (counted (log_in x.first) ++ counted (log_in x.second))
  pub map_ : rows_at rows tables.enc_map ≡ map (λ (n : ℕ). n ∷ []) numbers

-- the newest row of a token: where the second lists it, its own row there, and the bodies move; else that of the
-- first, whose bodies stay
pub record IsNewest (x : Both) (u : Token) (n : Newest) : Type 0 where
  pub second : is_in_map x.second u ≡ true
      → (n.delta.now ≡ x.second) × ((n.row ≡ own_row x.second u) × (n.shift ≡ shift_of x.first))
  pub first : is_in_map x.second u ≡ false → (n.delta.now ≡ x.first) × ((n.row ≡ own_row x.first u) × (n.shift ≡ 0))

-- the first numbers of a row are those of both for a token
pub record FrontHeld (x : Both) (u : Token) (i : ℕ) (numbers : List ℕ) : Type 0 where
  pub count : length numbers ≡ i
  pub each : (j : ℕ) (column : Column) (n : ℕ) → column_in u.table j ≡ Some column → slice_get numbers j ≡ Some n
      → IsNumberOfBoth x.chain x.first x.second u j column n

-- rows of other tables than one stay
abbrev pub StayBut : ℕ → List (List (List ℕ)) → List (List (List ℕ)) → Type 0
StayBut table old new = (k : ℕ) → (k == table) ≡ false → rows_at new k ≡ rows_at old k

-- the rows for tokens are held, in the tables of these, and others stay as they were
pub record AreTokensHeld (x : Both) (tokens : List Token) (old new : List (List (List ℕ))) : Type 0 where
  pub listed : (table : ℕ) → has_tokens table ≡ true → AreRowsHeld x (of_table table tokens) (rows_at new table)
  pub others : (table : ℕ) → has_tokens table ≡ false → rows_at new table ≡ rows_at old table

-- the metadata of the merged delta: a root of its heaps and of rows that hold what the two say
pub record IsMetadataOfBoth (x : Both) (bytes : List ℕ) : Type 0 where
  pub numbers : List ℕ
  pub rows : List (List (List ℕ))
  pub tokens : AreOfEither x.first x.second numbers
  pub held : AreBothTables x numbers rows
  pub are : AreRows rows
  pub fit : IndicesFit rows true
  pub size : root_size true (stream_of rows true (heap_bits rows)) (heaps_put x) < 2 ^ 32
  pub root : bytes ≡ root_written true true (stream_of rows true (heap_bits rows)) (heaps_put x)

-- it is read with the merged code as a delta that says what the two say, by the numbers of both
pub record IsReadAsBoth (x : Both) (bytes : List ℕ) : Type 0 where
  pub source : Source
  pub read : delta_of bytes (il_merged x.first x.second) ≡ Ok source
  pub says : SaysMerged x.chain x.first x.second source
  pub numbers : HasNumbersOfBoth x.chain x.first x.second source

abbrev pub MetadataIsRead : Type 0
MetadataIsRead = (h : History) (x : Both) (bytes : List ℕ) → AreLast h x → IsShallow (chain_of_both x).plain
    → IsMetadataOfBoth x bytes → IsReadAsBoth x bytes

-- one of the two changes what is known of a method: it has a new body in it, or its PDB has a row for it
unfoldable pub changes_debug : Both → PdbHistory → Token → Bool
changes_debug x p m =
    is_some (new_code x.second m) || is_some (new_code x.first m) || is_named_by (slice_get p.deltas 0) m
    || is_named_by (slice_get p.deltas 1) m

-- the PDB isn't too heavy, or it is; want of memory tells nothing
abbrev pub TellsWeight : Result (Unit {0}) MergeFault → ℕ → Type 0
TellsWeight (Ok u) weight = nat_lt most_pdb_weight weight ≡ false
TellsWeight (Err TooLarge) weight = nat_lt most_pdb_weight weight ≡ true
TellsWeight (Err Memory) weight = Unit {0}
TellsWeight (Err (Deep t)) weight = ⊥

-- the methods whose rows are written, and what is known of these after both
abbrev pub methods_changed : Both → PdbHistory → List Token
methods_changed x p = filter (changes_debug x p) (methods_listed x.chain x.first x.second)

-- the PDB has a row for each of them, and says what is known of it
abbrev pub IsPdbOfBoth : Both → PdbHistory → List ℕ → Type 0
IsPdbOfBoth x p bytes =
    SaysMethods (debug_of_rows (methods_changed x p) (pdb_with p.base p.deltas))
    (map (λ (t : Token). t.row) (methods_changed x p)) bytes

-- the files hold what the two say
pub record IsFilesOfBoth (x : Both) (p : PdbHistory) (d : DeltaBytes) : Type 0 where
  pub meta : IsMetadataOfBoth x d.meta
  pub il : d.il ≡ il_merged x.first x.second
  pub pdb : IsPdbOfBoth x p d.pdb

-- so they stand for them
abbrev pub FilesOfBothStand : Type 0
FilesOfBothStand =
    (h : History) (p : PdbHistory) (x : Both) (d : DeltaBytes) (first second : DebugDelta) (older : List DebugDelta)
    → AreLast h x → IsShallow (chain_of_both x).plain → p.deltas ≡ second ∷ first ∷ older → GoesWith x.second second
    → GoesWith x.first first
    → IsFilesOfBoth x p d
    → StandsForBoth x.chain x.first x.second (pdb_with p.base older) (pdb_with p.base p.deltas) d
