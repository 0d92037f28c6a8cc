-- Two deltas that follow one another, and the one delta that stands for both.
use Rattle.std.specs.Prelude.{◌≡◌, ◌⊎◌, ℕ, ◌+◌, ◌==◌, Bool, true, not, ◌||◌, List, [], ◌∷◌, ◌++◌, flat_map, length, map, Some, unwrap_or}
use Rattle.std.specs.List.{list_any}
use Rattle.std.specs.List.Sorted.{IsStrictlyIncreasing}
use Rattle.enc_base.specs.Token.{is_token, number_of}
use Rattle.enc_base.specs.declared.token.Token.{Token}
use Rattle.enc_meta.specs.Heaps.{Counted, counted_strings}
use Rattle.enc_meta.specs.Joined.{first_guid, guid_entries, joined_user}
use Rattle.enc_rows.specs.Layout.{rows_of}
use Rattle.enc_rows.specs.Source.{Source, raw_in}
use Rattle.enc_rows.specs.Sums.{below}
use Rattle.enc_schema.specs.Columns as columns
use Rattle.enc_base.specs.Tables as tables
use Rattle.enc_plain.specs.Bodies.{code_is_good, code_loaded}
use Rattle.enc_plain.specs.Cell.{Kind, kind_in}
use Rattle.enc_plain.specs.Chain.{Chain, id_of, mvid_of, rows_before}
use Rattle.enc_plain.specs.Module.{cell_of}
use Rattle.enc_plain.specs.Sound.{IsSound}
use Rattle.enc_delta.specs.Delta.{listed, log_in, of_table}
use Rattle.enc_delta.specs.Rows.{cell_after, own_row}
use Rattle.enc_delta.specs.Rules.{counted, module_token, own_guid}
use Rattle.enc_delta.specs.Seen.{WasRead}
use Rattle.enc_agg.specs.Extend.{extended}
use Rattle.enc_agg.specs.Follows.{Follows}
use Rattle.enc_reference_depth.specs.Depth.{IsShallow}

-- the chain with both deltas
abbrev pub after_both : Chain → Source → Source → Chain
after_both c a b = extended (extended c a) b

-- two deltas that were read from files follow a chain whose module is sound, one after the other, and in the module
-- after both no reference lies too deep
pub record MayMerge (c : Chain) (a b : Source) : Type 0 where
  pub sound : IsSound c.plain
  pub first_read : WasRead a
  pub second_read : WasRead b
  pub first : Follows c a
  pub second : Follows (extended c a) b
  pub shallow : IsShallow (after_both c a b).plain

-- a token that EncMap of a delta has, the Module's aside
abbrev pub is_in_map : Source → Token → Bool
is_in_map s u = list_any (λ t. is_token t u) (listed s)

-- a token that one of the two has
abbrev pub is_in_either : Source → Source → Token → Bool
is_in_either a b u = is_in_map a u || is_in_map b u

-- the entries of the joined `#GUID`, each from the first generation that has it
unfoldable pub guids_joined : List Counted → List ℕ
guids_joined heaps = flat_map (λ k. unwrap_or (first_guid (map (λ (h : Counted). h.guids) heaps) k) [])
    (below (guid_entries heaps))

-- the heaps of the merged delta: those of the two one behind the other, of `#Strings` the bytes that count; and each
-- entry of `#GUID` that the chain has
unfoldable pub heaps_merged : Chain → Source → Source → Counted
heaps_merged c a b = record {
  strings = counted_strings (a.heaps.strings ++ b.heaps.strings);
  users = a.heaps.users ++ b.heaps.users;
  blobs = a.heaps.blobs ++ b.heaps.blobs;
  guids = guids_joined (after_both c a b).heaps;
}

-- the tables whose rows tokens stand for
abbrev pub has_tokens : ℕ → Bool
has_tokens table = not (table == tables.«module» || table == tables.enc_log || table == tables.enc_map)

-- the row of a token says the cells that it has after both deltas; a method has place 0, or a good body stands there
pub record SaysRowMerged (c : Chain) (a b s : Source) (u : Token) : Type 0 where
  pub cells : (i : ℕ) (k : Kind) → kind_in u.table i ≡ Some k
      → cell_after c s (own_row s u) i ≡ cell_of (after_both c a b).plain u i
  pub body : (u.table == tables.method_def) ≡ true
      → (raw_in s (own_row s u) columns.method_def_rva ≡ 0)
      ⊎ (code_is_good (rows_before (after_both c a b)) (joined_user (c.heaps ++ s.heaps ∷ []))
      (code_loaded s.loaded (raw_in s (own_row s u) columns.method_def_rva)) ≡ true)

-- a delta that is read says what two that follow a chain say together
pub record SaysMerged (c : Chain) (a b s : Source) : Type 0 where
  pub generation : raw_in s module_token columns.module_generation ≡ length c.ids + 1
  pub mvid : own_guid c s columns.module_mvid ≡ mvid_of c
  pub base : own_guid c s columns.module_enc_base_id ≡ id_of c (length c.ids)
  pub enc_id : own_guid c s columns.module_enc_id ≡ own_guid (extended c a) b columns.module_enc_id
  pub heaps : s.heaps ≡ heaps_merged c a b
  pub log : log_in s ≡ counted (log_in a) ++ counted (log_in b)
  pub rises : IsStrictlyIncreasing (map number_of (listed s))
  pub tokens : (u : Token) → is_in_map s u ≡ is_in_either a b u
  pub counts : (table : ℕ) → has_tokens table ≡ true → rows_of s.layout table ≡ length (of_table table (listed s))
  pub rows : (u : Token) → is_in_map s u ≡ true → SaysRowMerged c a b s u
