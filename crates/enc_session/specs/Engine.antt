-- For the contracts of private functions: what is kept of a session but its watchers, when its parts stand for each
-- other, and what was made ready of a delta.
use Rattle.std.specs.Prelude.{◌≡◌, ◌≤◌, ℕ, List, Option, IsTrue}
use Rattle.enc_agg.specs.Extend.{extended}
use Rattle.enc_agg.specs.Seen.{chain_of_all, module_of_all, users_of_all}
use Rattle.enc_chain.specs.Kept.{IsReadyFor, followed}
use Rattle.enc_checker.specs.Followed.{Followed}
use Rattle.enc_dispatch.specs.Index.{StandsForModule}
use Rattle.enc_dispatch.specs.Ready.{IsPreparedFor}
use Rattle.enc_ppdb.specs.PdbChain.{pdb_with}
use Rattle.enc_rows.specs.Source.{Source}
use Rattle.enc_versions.specs.Commit.{last_row}
use Rattle.enc_versions.specs.StandFor.{AreVersionsOf}
use Rattle.enc_versions.specs.Version.{Version}
use Rattle.enc_frames.specs.Machine.{PlainCode, MachineState, state_meant}
use Rattle.enc_vm.specs.Texts.{machine_texts}
use Rattle.enc_session.specs.Codes.{new_versions}
use Rattle.enc_session.specs.declared.parts.Parts.{Parts}
use Rattle.enc_session.specs.declared.parts.Prepared.{Prepared}

-- a base with its deltas, and a machine over it
pub record PlainEngine : Type 0 where
  pub followed : Followed
  pub machine : MachineState PlainCode

-- the base with the deltas that follow it, by the parts that keep them
abbrev pub followed_in : Parts → Followed
followed_in p = followed p.joined

-- the index stands for the module, and the newest bodies for the module and its PDB
pub record AreParts (p : Parts) : Type 0 where
  pub index : StandsForModule p.dispatch (module_of_all p.joined.rows)
  pub bodies : AreVersionsOf (users_of_all p.joined.rows) (module_of_all p.joined.rows)
      (pdb_with p.joined.points.base p.joined.points.deltas) p.versions.methods

-- and each user text is there that the code of a frame names, so that each frame goes on in its own body
pub record IsEngine (p : Parts) (s : MachineState Version) : Type 0 where
  pub parts : AreParts p
  pub texts : IsTrue (machine_texts (users_of_all p.joined.rows) s)

-- what the machine means
abbrev pub machine_in : Parts → MachineState Version → MachineState PlainCode
machine_in p s = state_meant (users_of_all p.joined.rows) s

-- all memory is taken for a delta and its PDB
pub record IsDeltaReady (p : Parts) (d : Source) (pdb : Option Source) (x : Prepared) : Type 0 where
  pub delta : x.delta.rows.delta ≡ d
  pub debug : x.delta.pdb ≡ pdb
  pub ready : IsReadyFor p.joined x.delta
  pub codes : x.versions ≡ new_versions d pdb
  pub codes_room : last_row x.versions ≤ p.versions.capacity
  pub index : IsPreparedFor p.dispatch x.dispatch (extended (chain_of_all p.joined.rows) d).plain

-- parts that say the same, whatever their room
pub record SayTheSame (new old : Parts) : Type 0 where
  pub chain : followed new.joined ≡ followed old.joined
  pub methods : new.versions.methods ≡ old.versions.methods
  pub index : StandsForModule old.dispatch (module_of_all old.joined.rows)
      → StandsForModule new.dispatch (module_of_all old.joined.rows)
