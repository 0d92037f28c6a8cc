-- Files that stand for an edit list after a chain.
use Rattle.std.specs.Prelude.{◌≡◌, ℕ, true, List, [], ◌∷◌, ◌++◌, length, Some, None, Result, Ok, Err, slice_get}
use Rattle.std.specs.List.{list_any}
use Rattle.enc_base.specs.Token.{is_token, nth_row}
use Rattle.enc_base.specs.declared.token.Token.{Token}
use Rattle.enc_plain.specs.Chain.{Chain, mvid_of, id_of}
use Rattle.enc_plain.specs.Debug.{PlainPdb}
use Rattle.enc_meta.specs.Joined.{joined_guid}
use Rattle.enc_meta.specs.Root.{root_of}
use Rattle.enc_meta.specs.declared.root.Root.{Root}
use Rattle.enc_rows.specs.Source.{Source}
use Rattle.enc_base.specs.Tables as tables
use Rattle.enc_delta.specs.Delta.{delta_of, listed}
use Rattle.enc_agg.specs.Extend.{extended}
use Rattle.enc_edit_list.specs.declared.edit.EditList.{EditList}
use Rattle.enc_rules.specs.Edited.{rows_edited, edited}
use Rattle.enc_rules.specs.First.{first_edit}
use Rattle.enc_ppdb.specs.Fault.{named_tokens}
use Rattle.enc_ppdb.specs.PdbChain.{debug_at, pdb_changed}
use Rattle.enc_ppdb.specs.Written.{IsNilOverSeveral, document_told}
use Rattle.enc_pdb_writer.specs.Stated.{pdb_edited}
use Rattle.enc_pdb_writer.specs.Written.{SaysEdits}
use Rattle.enc_checker.specs.Check.{accepted, judged}
use Rattle.enc_checker.specs.Within.{debug_of_accepted}
use Rattle.enc_list_delta.specs.Holds.{SaysDelta}
use Rattle.enc_emit.specs.declared.delta_bytes.DeltaBytes.{DeltaBytes}
use Rattle.enc_writer.specs.declared.fault.EditFault.{EditFault}
use Rattle.enc_writer.specs.declared.fault.EditFault.TheVariants.{Memory, Broken}

-- the files of a delta stand for an edit list after a chain: they are accepted; the chain with them has the module
-- and the plain PDB with all edits made
-- directly; their EncId is the list's; their EncMap lists, besides the Module, exactly the rows that edits are about
-- (those added, and the methods whose bodies
-- are replaced); a method whose points have several documents has Document nil
pub record StandsFor (c : Chain) (l : EditList) (d : DeltaBytes) : Type 0 where
  pub source : Source
  pub symbols : Source
  pub stands : judged c (delta_of d.meta d.il) (Some d.pdb) ≡ Ok (accepted source (Some symbols))
  pub means : (extended c source).plain ≡ edited c.plain l.edits
  pub debug : (before : PlainPdb) (method : Token)
      → pdb_changed before (debug_of_accepted (accepted source (Some symbols))) method
      ≡ pdb_edited before (rows_edited c.plain l.edits) l method
  pub enc_id : (extended c source).ids ≡ c.ids ++ l.enc_id ∷ []
  pub lists : (u : Token) → list_any (λ t. is_token t u) (listed source)
      ≡ list_any (λ t. is_token t u) (rows_edited c.plain l.edits)
  pub several : (k : ℕ) (t : Token) → slice_get (named_tokens symbols) k ≡ Some t
      → IsNilOverSeveral (debug_at (Some (symbols, nth_row tables.method_debug_information k))).points
      (document_told symbols k)

-- the metadata is in the form of a delta: an uncompressed table stream, and `#JTD` (II.24.2.1)
abbrev pub HasDeltaForm : List ℕ → Type 0
HasDeltaForm bytes = (root : Root) × ((root_of bytes ≡ Ok root) × ((root.uncompressed ≡ true) × (root.jtd ≡ true)))

-- files that are written for a list: they stand for it, their metadata has the form of a delta and says what it
-- states, and their PDB says its points
pub record IsWrittenFor (c : Chain) (l : EditList) (d : DeltaBytes) : Type 0 where
  pub rules : first_edit c l ≡ None
  pub stands : StandsFor c l d
  pub form : HasDeltaForm d.meta
  pub read : delta_of d.meta d.il ≡ Ok stands.source
  pub says : SaysDelta c l stands.source
  pub points : SaysEdits l (rows_edited c.plain l.edits) d.pdb

-- the files, or the first rule that the list breaks, with its edit; want of memory tells nothing
abbrev pub WritesEdits : Chain → EditList → Result DeltaBytes EditFault → Type 0
WritesEdits c l (Ok d) = IsWrittenFor c l d
WritesEdits c l (Err (Broken rule edit)) = first_edit c l ≡ Some (rule, edit)
WritesEdits c l (Err Memory) = Unit {0}

-- the Mvid of the module and the last EncId can be named in the joined `#GUID`
pub record NamesGuids (c : Chain) : Type 0 where
  pub mvid : (k : ℕ) × (joined_guid c.heaps k ≡ Some (mvid_of c))
  pub last : (k : ℕ) × (joined_guid c.heaps k ≡ Some (id_of c (length c.ids)))
