-- How calls end that write a delta.
use Rattle.std.specs.Prelude.{◌≡◌, ◌⊎◌, ℕ, Bool, if◌then◌else◌, List, [], ◌∷◌, drop, nat_lt}
use Rattle.std.specs.Prelude.{Option, Some, None, option_map, Result, Ok, Err}
use Rattle.enc_base.specs.declared.refusal.StreamName.TheVariants.{Pdb}
use Rattle.enc_base.specs.declared.token.Token.{Token}
use Rattle.enc_rows.specs.Source.{Source}
use Rattle.enc_plain.specs.Chain.{Chain}
use Rattle.enc_plain.specs.Debug.{PlainPdb}
use Rattle.enc_agg.specs.Extend.{chain_with}
use Rattle.enc_ppdb.specs.PdbChain.{pdb_with}
use Rattle.enc_ppdb.specs.Written.{most_pdb_weight}
use Rattle.enc_reference_depth.specs.Depth.{first_deep}
use Rattle.enc_edit_list.specs.declared.edit.EditList.{EditList}
use Rattle.enc_jobs.specs.Edits.{edits_said}
use Rattle.enc_jobs.specs.declared.fault.JobFault.{JobFault}
use Rattle.enc_jobs.specs.declared.fault.JobFault.TheVariants as fault
use Rattle.enc_merged_delta.specs.Merged.{after_both}
use Rattle.enc_merge.specs.Merges.{StandsForBoth, weight_of_both}
use Rattle.enc_rules.specs.First.{first_edit}
use Rattle.enc_writer.specs.Stands.{IsWrittenFor}
use Rattle.enc_emit.specs.declared.delta_bytes.DeltaBytes.{DeltaBytes}
use Rattle.enc_c.specs.declared.deltas.Unwritten.{Unwritten}
use Rattle.enc_c.specs.declared.deltas.Unwritten.TheVariants.{Only, Because}
use Rattle.enc_c.specs.declared.reason.Reason.TheVariants.{Json, Element, Edit, Heap, Deep}
use Rattle.enc_c.specs.declared.refusal.RefusalNumbers.{RefusalNumbers}
use Rattle.enc_c.specs.declared.status.Status.{Status}
use Rattle.enc_c.specs.declared.status.Status.TheVariants.{Refused, Memory, Closed, Limit, Few}
use Rattle.enc_c.specs.Compacted.{RefusesThree, TellsOfThree}
use Rattle.enc_c.specs.Reasons.{numbers_of_reason}
use Rattle.enc_c.specs.Saved.{Buffer, CopiesThree}
use Rattle.enc_c.specs.State.{State, chain_after, pdb_after}
use Rattle.enc_c.specs.Status.{number_of_status}

-- why two deltas that follow a chain aren't merged: the PDB would be too heavy, or else a reference lies too deep in
-- others
unfoldable pub unmerged_two : Chain → Source → Source → PlainPdb → Option Unwritten
unmerged_two c a b after =
    if nat_lt most_pdb_weight (weight_of_both c a b after) then Some (Because (Heap Pdb))
    else option_map (λ (t : Token). Because (Deep t)) (first_deep (after_both c a b).plain)

-- why the last two of a base's deltas, the newest first, aren't: there are fewer, or one of all is too long
abbrev pub unmerged_last : Bool → Source → List Source → PlainPdb → Option Unwritten
unmerged_last short base [] after = Some (Only Few)
unmerged_last short base (b ∷ []) after = Some (Only Few)
unmerged_last short base (b ∷ a ∷ older) after =
    if short then unmerged_two (chain_with base older) a b after else Some (Only Limit)

-- so it is of a state
unfoldable pub unmerged : State → Option Unwritten
unmerged s = unmerged_last s.short s.followed.base s.followed.deltas (pdb_after s)

-- the files of a delta stand for the last two
abbrev pub StandsForTwo : State → List Source → DeltaBytes → Type 0
StandsForTwo s (b ∷ a ∷ older) d =
    StandsForBoth (chain_with s.followed.base older) a b
    (pdb_with s.followed.debug (drop 2 s.followed.debugs)) (pdb_after s) d
StandsForTwo s deltas d = ⊥

-- for the last two of a state
abbrev pub StandsForLast : State → DeltaBytes → Type 0
StandsForLast s d = StandsForTwo s s.followed.deltas d

-- why a text is no edit list (L3 is of scripts alone)
abbrev pub reason_of_fault : JobFault → Unwritten
reason_of_fault fault.J1 = Because Json
reason_of_fault (fault.J2 n) = Because (Element n)
reason_of_fault fault.L3 = Only Limit
reason_of_fault fault.Memory = Only Memory

-- a rule that an edit breaks
abbrev pub reason_of_rule : ℕ × ℕ → Unwritten
reason_of_rule x = Because (Edit x.0 x.1)

-- why a list isn't written after a chain: its text is none, or it breaks a rule
abbrev pub unwritten_list : Chain → Result EditList JobFault → Option Unwritten
unwritten_list c (Ok l) = option_map reason_of_rule (first_edit c l)
unwritten_list c (Err fault) = Some (reason_of_fault fault)

-- so it is of a text after a state
unfoldable pub unwritten : List ℕ → State → Option Unwritten
unwritten text s = unwritten_list (chain_after s) (edits_said text)

-- the files of a delta are written for the edit list that a text says, and stand for it
abbrev pub StandsForList : Chain → Result EditList JobFault → DeltaBytes → Type 0
StandsForList c (Ok l) d = IsWrittenFor c l d
StandsForList c (Err fault) d = ⊥

-- the one that a text says, after a state
abbrev pub StandsForText : List ℕ → State → DeltaBytes → Type 0
StandsForText text s d = StandsForList (chain_after s) (edits_said text) d

-- a delta is given that stands for what is asked, where nothing is told against it, and else that is told; or there
-- is no memory
abbrev pub GivesDelta : Result DeltaBytes Unwritten → (DeltaBytes → Type 0) → Option Unwritten → Type 0
GivesDelta (Ok d) Stands why = (why ≡ None) × Stands d
GivesDelta (Err u) Stands why = (why ≡ Some u) ⊎ (u ≡ Only Memory)

-- why nothing is written by a status, and a reason by its numbers
abbrev pub TellsWhy : ℕ → RefusalNumbers → RefusalNumbers → Unwritten → Type 0
TellsWhy status old new (Only s) = (status ≡ number_of_status s) × (new ≡ old)
TellsWhy status old new (Because r) = (status ≡ number_of_status Refused) × (new ≡ numbers_of_reason r)

-- what a call comes to that writes metadata, code and a PDB into three buffers
pub record Delivery : Type 0 where
  pub status : ℕ
  pub meta : Buffer ℕ
  pub il : Buffer ℕ
  pub pdb : Buffer ℕ
  pub old : RefusalNumbers
  pub new : RefusalNumbers

-- one of these
abbrev pub delivery : ℕ → Buffer ℕ → Buffer ℕ → Buffer ℕ → RefusalNumbers → RefusalNumbers → Delivery
delivery status meta il pdb old new = record { status = status; meta = meta; il = il; pdb = pdb; old = old; new = new }

-- only a status is told
abbrev pub DeliversNone : Status → Delivery → Type 0
DeliversNone s w = TellsOfThree s w.status w.meta w.il w.pdb w.old w.new

-- the files of a delta that stands for what is asked are copied
pub record DeliversFiles (w : Delivery) (Stands : DeltaBytes → Type 0) : Type 0 where
  pub files : DeltaBytes
  pub stand : Stands files
  pub copied : CopiesThree w.status w.meta w.il w.pdb files.meta files.il files.pdb
  pub refusal : w.new ≡ w.old

-- so it is where nothing is told against it, and else that is told
abbrev pub DeliversUnless : Delivery → (DeltaBytes → Type 0) → Option Unwritten → Type 0
DeliversUnless w Stands None = DeliversFiles w Stands
DeliversUnless w Stands (Some (Only s)) = DeliversNone s w
DeliversUnless w Stands (Some (Because r)) = RefusesThree w.status w.meta w.il w.pdb w.new (numbers_of_reason r)

-- of an open handle, or there is no memory
abbrev pub Delivers : Delivery → Option State → (State → DeltaBytes → Type 0) → (State → Option Unwritten) → Type 0
Delivers w None Stands why = DeliversNone Closed w
Delivers w (Some s) Stands why = DeliversUnless w (Stands s) (why s) ⊎ DeliversNone Memory w
