-- What every case has.
use Rattle.std.specs.Prelude.{◌≡◌, ℕ, ◌+◌, ◌*◌, ◌^◌, ◌≤◌, List, true, Some, None, length, map, slice_get, take}
use Rattle.std.specs.List.{list_all}
use Rattle.enc_base.specs.declared.token.Token.{Token}
use Rattle.enc_meta.specs.Built.{with_guid}
use Rattle.enc_meta.specs.BuiltLaws.{heaps_joined}
use Rattle.enc_meta.specs.Joined.{joined_lengths}
use Rattle.enc_meta.specs.declared.heaps.HeapLengths.{HeapLengths}
use Rattle.enc_plain.specs.Chain.{Chain}
use Rattle.enc_plain.specs.Debug.{PlainPdb, unknown}
use Rattle.enc_rules.specs.First.{first_edit}
use Rattle.enc_rules.specs.Rules.{heaps_with}
use Rattle.enc_rewriter.specs.Limits.{rewrite_limit}
use Rattle.enc_rewriter.specs.Values.{heaps_for}
use Rattle.enc_rewriter.specs.Weight.{module_weight}
use Rattle.enc_edit_list.specs.declared.edit.EditList.{EditList}
use Rattle.enc_edit_list.specs.Form.{list_fits}
use Rattle.enc_pdb_writer.specs.Stated.{points_lie_within, pdb_edited}
use Rattle.enc_memory_module.specs.Applied.{MayApply}
use Rattle.enc_generator.specs.Generated.{generated_base, generated_lists, edited_by}

-- each list of a case is of the form
abbrev pub GeneratedFits : Type 0
GeneratedFits = (start count j : ℕ) (l : EditList) → count ≤ 64 → slice_get (generated_lists start count) j ≡ Some l
    → list_fits l ≡ true

-- each of its points stands in the code of its body
abbrev pub GeneratedLie : Type 0
GeneratedLie = (start count j : ℕ) (l : EditList) → slice_get (generated_lists start count) j ≡ Some l
    → list_all points_lie_within l.edits ≡ true

-- and it tells no point: a method of which nothing was known stays so, whatever methods its edits are about
abbrev pub GeneratedTellsNothing : Type 0
GeneratedTellsNothing = (start count j : ℕ) (l : EditList) (before : PlainPdb) (methods : List Token) (method : Token)
    → slice_get (generated_lists start count) j ≡ Some l → before method ≡ unknown
    → pdb_edited before methods l method ≡ unknown

-- and it may be applied to the module that stands before it
abbrev pub GeneratedMayApply : Type 0
GeneratedMayApply = (start count j : ℕ) (l : EditList) → count ≤ 64 → slice_get (generated_lists start count) j ≡ Some l
    → MayApply (edited_by generated_base (take j (generated_lists start count))) l

-- the generated base is little
abbrev pub BaseIsLittle : Type 0
BaseIsLittle = module_weight generated_base (heaps_for generated_base) ≤ 2 ^ 20

-- joined heaps behind so many lists of a case are little
pub record AreLittle (lists : ℕ) (h : HeapLengths) : Type 0 where
  pub strings : h.strings ≤ 2 ^ 20 + 2 ^ 13 * lists
  pub users : h.users ≤ 2 ^ 20 + 2 ^ 13 * lists
  pub blobs : h.blobs ≤ 2 ^ 20 + 2 ^ 13 * lists
  pub guids : h.guids ≤ 2 ^ 20 + 2 ^ 13 * lists

-- a chain of the generated base and deltas of these lists: its module is the base with the lists made directly, its
-- EncIds are theirs, and its heaps are little
pub record IsDrawnChain (lists : List EditList) (c : Chain) : Type 0 where
  pub plain : c.plain ≡ edited_by generated_base lists
  pub ids : c.ids ≡ map (λ (l : EditList). l.enc_id) lists
  pub heaps : AreLittle (length lists) (joined_lengths c.heaps)

-- no list of a case breaks a rule after those before it
abbrev pub GeneratedObeys : Type 0
GeneratedObeys = (start count j : ℕ) (l : EditList) (c : Chain) → count ≤ 64
    → slice_get (generated_lists start count) j ≡ Some l
    → IsDrawnChain (take j (generated_lists start count)) c → first_edit c l ≡ None

-- its delta's heaps, behind those of such a chain, are little
abbrev pub GeneratedStaysLittle : Type 0
GeneratedStaysLittle = (start count j : ℕ) (l : EditList) (c : Chain) → count ≤ 64
    → slice_get (generated_lists start count) j ≡ Some l
    → IsDrawnChain (take j (generated_lists start count)) c
    → AreLittle (j + 1) (joined_lengths (heaps_joined c.heaps (with_guid (heaps_with c l.edits l.edits) l.enc_id)))

-- the base with the first lists of a case, and a PDB in which nothing is known, pass no limit
abbrev pub GeneratedIsLight : Type 0
GeneratedIsLight = (start count j : ℕ) (p : PlainPdb) → count ≤ 64 → ((method : Token) → p method ≡ unknown)
    → rewrite_limit (edited_by generated_base (take j (generated_lists start count))) p ≡ None
