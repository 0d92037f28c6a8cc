-- The delta that stands for two that follow a chain.
use Rattle.std.specs.Prelude.{◌≡◌, ◌≤◌, ℕ, ◌+◌, ◌^◌, true, false, List, [], ◌∷◌, ◌++◌, filter, length, map, Option, Some, None, Result, Ok, Err, nat_lt, slice_get}
use Rattle.enc_base.specs.Token.{nth_row}
use Rattle.enc_base.specs.declared.refusal.Refusal.{Refusal}
use Rattle.enc_base.specs.declared.token.Token.{Token}
use Rattle.enc_rows.specs.Source.{Source, raw_in}
use Rattle.enc_rows.specs.Sums.{below}
use Rattle.enc_schema.specs.Columns as columns
use Rattle.enc_schema.specs.Schema.{column_in}
use Rattle.enc_schema.specs.declared.column.Column.{Column}
use Rattle.enc_base.specs.Tables as tables
use Rattle.enc_plain.specs.Chain.{Chain, rows_before}
use Rattle.enc_plain.specs.Debug.{PlainPdb}
use Rattle.enc_delta.specs.Delta.{delta_of, log_in}
use Rattle.enc_delta.specs.Rows.{own_row}
use Rattle.enc_delta.specs.Rules.{counted, own_guid}
use Rattle.enc_agg.specs.Extend.{chain_with, extended}
use Rattle.enc_agg.specs.Seen.{History}
use Rattle.enc_ppdb.specs.Fault.{named_tokens}
use Rattle.enc_ppdb.specs.PdbChain.{DebugDelta, PdbHistory, debug_at, pdb_changed, pdb_with}
use Rattle.enc_ppdb.specs.Written.{IsNilOverSeveral, document_told, most_pdb_weight, pdb_weight}
use Rattle.enc_checker.specs.Check.{accepted, judged}
use Rattle.enc_checker.specs.Within.{debug_of_accepted}
use Rattle.enc_reference_depth.specs.Depth.{first_deep}
use Rattle.enc_merged_delta.specs.Held.{il_merged, il_of, number_of_both}
use Rattle.enc_merged_delta.specs.Merged.{after_both, heaps_merged, is_in_either, is_in_map}
use Rattle.enc_emit.specs.declared.delta_bytes.DeltaBytes.{DeltaBytes}
use Rattle.enc_merge.specs.Points.{debug_of_rows}
use Rattle.enc_merge.specs.declared.fault.MergeFault.{MergeFault}
use Rattle.enc_merge.specs.declared.fault.MergeFault.TheVariants.{Memory, TooLarge, Deep}

-- the methods that one of the two lists, by rising rows
unfoldable pub methods_listed : Chain → Source → Source → List Token
methods_listed c a b = filter (is_in_either a b)
    (map (nth_row tables.method_def) (below (rows_before (after_both c a b) tables.method_def)))

-- the weight of a plain PDB that has of another only these methods
unfoldable pub weight_of_both : Chain → Source → Source → PlainPdb → ℕ
weight_of_both c a b p = pdb_weight (debug_of_rows (methods_listed c a b) p) (length (methods_listed c a b))

-- each number of a row is that of the newest row of its token: an empty text has 0, a body of the second moves
-- behind those of the first, and no other moves
abbrev pub HasNumbersOfBoth : Chain → Source → Source → Source → Type 0
HasNumbersOfBoth c a b s =
    (u : Token) (i : ℕ) (column : Column) → is_in_map s u ≡ true → column_in u.table i ≡ Some column
    → raw_in s (own_row s u) i ≡ number_of_both c a b u i column

-- the files of a delta stand for two that follow a chain: they are accepted after it; the chain with them has the
-- module and the plain PDB of the chain with both, and the EncId of the second; their EncMap lists exactly what one of
-- the two lists; a method whose points have several documents has Document nil. Their heaps are those of the two
-- joined, and so is their IL, the first one's filled to four; the log has the pairs of the first and then of the second
pub record StandsForBoth (c : Chain) (a b : Source) (before after : PlainPdb) (d : DeltaBytes) : Type 0 where
  pub source : Source
  pub symbols : Source
  pub stands : judged c (delta_of d.meta d.il) (Some d.pdb) ≡ Ok (accepted source (Some symbols))
  pub means : (extended c source).plain ≡ (after_both c a b).plain
  pub debug : (method : Token) → pdb_changed before (debug_of_accepted (accepted source (Some symbols))) method
      ≡ after method
  pub enc_id : (extended c source).ids ≡ c.ids ++ own_guid (extended c a) b columns.module_enc_id ∷ []
  pub lists : (u : Token) → is_in_map source u ≡ is_in_either a b u
  pub heaps : source.heaps ≡ heaps_merged c a b
  pub il : d.il ≡ il_merged a b
  pub log : log_in source ≡ counted (log_in a) ++ counted (log_in b)
  pub numbers : HasNumbersOfBoth c a b source
  pub several : (k : ℕ) (t : Token) → slice_get (named_tokens symbols) k ≡ Some t
      → IsNilOverSeveral (debug_at (Some (symbols, nth_row tables.method_debug_information k))).points
      (document_told symbols k)

-- two deltas are merged, or not, as the PDB would be too heavy, or else a reference lies too deep in others; want of
-- memory tells nothing
abbrev pub MergesBoth : Chain → Source → Source → PlainPdb → PlainPdb → Result DeltaBytes MergeFault → Type 0
MergesBoth c a b before after (Ok d) =
    StandsForBoth c a b before after d × (nat_lt most_pdb_weight (weight_of_both c a b after) ≡ false)
    × (first_deep (after_both c a b).plain ≡ None)
MergesBoth c a b before after (Err TooLarge) = nat_lt most_pdb_weight (weight_of_both c a b after) ≡ true
MergesBoth c a b before after (Err (Deep t)) =
    (nat_lt most_pdb_weight (weight_of_both c a b after) ≡ false) × (first_deep (after_both c a b).plain ≡ Some t)
MergesBoth c a b before after (Err Memory) = Unit {0}

-- so it is of the last two of a base's deltas, the newest first, with what these say of sequence points
abbrev pub MergesLast : History → PdbHistory → Result DeltaBytes MergeFault → Type 0
MergesLast h p result =
    (a b : Source) (older : List Source) (x y : DebugDelta) (debugs : List DebugDelta) → h.deltas ≡ b ∷ a ∷ older
    → p.deltas ≡ y ∷ x ∷ debugs
    → MergesBoth (chain_with h.base older) a b (pdb_with p.base debugs) (pdb_with p.base p.deltas) result

-- the delta was read from files of at most 2^26 bytes; and so each of some was
pub record IsShortDelta (d : Source) : Type 0 where
  pub stream : length d.stream ≤ 2 ^ 26
  pub code : length (il_of d) ≤ 2 ^ 26

unfoldable pub AllShort : List Source → Type 0
AllShort [] = Unit {0}
AllShort (d ∷ deltas) = IsShortDelta d × AllShort deltas

-- a delta that was read isn't longer than its files
abbrev pub ReadIsShort : Type 0
ReadIsShort = (metadata code : List ℕ) (d : Source) → length metadata ≤ 2 ^ 26 → length code ≤ 2 ^ 26
    → delta_of metadata code ≡ Ok d → IsShortDelta d

-- the last two aren't too long
abbrev pub ShortLast : List Source → Type 0
ShortLast (b ∷ a ∷ older) = (length a.stream + length b.stream ≤ 2 ^ 27)
    × (length (il_of a) + length (il_of b) ≤ 2 ^ 27)
ShortLast _ = Unit {0}
