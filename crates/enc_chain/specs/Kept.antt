-- What is kept of a base with the deltas that follow it: their rows, and what their PDBs say.
use Rattle.std.specs.Prelude.{◌≡◌, ◌<◌, ℕ, List, Option, None, Result, Ok, Err}
use Rattle.enc_base.specs.declared.refusal.Refusal.{Refusal}
use Rattle.enc_base.specs.declared.refusal.ReadFault.{ReadFault}
use Rattle.enc_base.specs.declared.refusal.ReadFault.TheVariants.{Memory, Refused}
use Rattle.enc_rows.specs.Source.{Source}
use Rattle.enc_plain.specs.Chain.{Chain}
use Rattle.enc_plain.specs.SoundDebug.{KnowsWithin}
use Rattle.enc_delta.specs.Judged.{first_meta}
use Rattle.enc_delta.specs.Seen.{WasRead}
use Rattle.enc_agg.specs.Extend.{chain_with}
use Rattle.enc_agg.specs.Prepared.{IsPrepared}
use Rattle.enc_agg.specs.Seen.{History, chain_of_all}
use Rattle.enc_agg.specs.declared.aggregate.Ready.{Ready}
use Rattle.enc_ppdb.specs.PdbChain.{PdbHistory, pdb_with}
use Rattle.enc_ppdb.specs.Told.{AreToldBy}
use Rattle.enc_checker.specs.Check.{Accepted, accepted, judged, new_bodies}
use Rattle.enc_checker.specs.Followed.{Followed, followed_by}
use Rattle.enc_checker.specs.Within.{method_count}
use Rattle.enc_chain.specs.Goes.{AllGo}
use Rattle.enc_chain.specs.declared.prepared.Prepared.{Prepared}

-- the base and its deltas, and the PDB of the base and what the deltas say of sequence points
pub record Kept : Type 0 where
  pub rows : History
  pub points : PdbHistory

-- without the room that is kept for more
abbrev pub followed : Kept → Followed
followed k = record {
  base = k.rows.base;
  deltas = k.rows.deltas;
  debug = k.points.base;
  debugs = k.points.deltas;
}

abbrev pub chain_of : Followed → Chain
chain_of f = chain_with f.base f.deltas

-- the PDBs know methods of the module alone
abbrev pub KnowsOwn : Kept → Type 0
KnowsOwn k = KnowsWithin (pdb_with k.points.base k.points.deltas) (method_count (chain_of_all k.rows))

-- and what they say goes with the deltas: what always holds of a chain
pub record IsWholeChain (k : Kept) : Type 0 where
  pub within : KnowsOwn k
  pub go : AllGo k.rows.deltas k.points.deltas

-- a delta that was read and its PDB break no rule after a chain
pub record IsAcceptedAfter (c : Chain) (d : Source) (pdb : Option Source) : Type 0 where
  pub read : WasRead d
  pub rules : first_meta c d ≡ None
  pub files : Option (List ℕ)
  pub judged_ok : judged c (Ok d) files ≡ Ok (accepted d pdb)

-- all memory is taken for a delta that was accepted after a chain
pub record IsReadyFor (k : Kept) (x : Prepared) : Type 0 where
  pub follows : IsAcceptedAfter (chain_of_all k.rows) x.rows.delta x.pdb
  pub rows : IsPrepared k.rows.base k.rows.deltas x.rows
  pub rows_room : 0 < k.rows.room
  pub points_room : 0 < k.points.room
  pub changed : x.changed ≡ new_bodies x.rows.delta
  pub told : AreToldBy k.points.deltas (record { pdb = x.pdb; changed = x.changed }) x.told

-- the same base and deltas, whatever room is kept for more
pub record IsSameHistory (new old : History) : Type 0 where
  pub base : new.base ≡ old.base
  pub deltas : new.deltas ≡ old.deltas

-- the rows of a delta are ready, and there is room for it
pub record IsRowsReady (h : History) (d : Source) (x : Ready) : Type 0 where
  pub delta : x.delta ≡ d
  pub rows : IsPrepared h.base h.deltas x
  pub room : 0 < h.room

-- the chain has the delta that was accepted; where it is refused, and where there is no memory, it stays
abbrev pub IsAppliedTo : {U : Type 0} → Followed → Followed → Result U ReadFault → Result Accepted Refusal → Type 0
IsAppliedTo old new (Ok u) said = (a : Accepted) × (said ≡ Ok a) × (new ≡ followed_by old a)
IsAppliedTo old new (Err (Refused e)) said = (said ≡ Err e) × (new ≡ old)
IsAppliedTo old new (Err Memory) said = new ≡ old
