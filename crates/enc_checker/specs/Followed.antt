-- A base with the deltas that follow it, and what their PDBs say.
use Rattle.std.specs.Prelude.{◌==◌, Bool, List, ◌∷◌, Option}
use Rattle.enc_base.specs.declared.refusal.Code.{Code}
use Rattle.enc_base.specs.declared.refusal.Code.TheVariants.{F, E}
use Rattle.enc_agg.specs.Extend.{chain_with}
use Rattle.enc_plain.specs.Debug.{PlainPdb}
use Rattle.enc_plain.specs.Module.{Module}
use Rattle.enc_ppdb.specs.PdbChain.{DebugDelta, pdb_with}
use Rattle.enc_rows.specs.Source.{Source}
use Rattle.enc_checker.specs.Check.{Accepted, new_bodies}

-- the base, its deltas, the newest first, its PDB, where it has one, and what the deltas say of sequence points
pub record Followed : Type 0 where
  pub base : Source
  pub deltas : List Source
  pub debug : Option Source
  pub debugs : List DebugDelta

-- with one more delta that was accepted
abbrev pub followed_by : Followed → Accepted → Followed
followed_by f a = record {
  base = f.base;
  deltas = a.delta ∷ f.deltas;
  debug = f.debug;
  debugs = record { pdb = a.pdb; changed = new_bodies a.delta } ∷ f.debugs;
}

-- the module and the plain PDB after all deltas
abbrev pub plain_of : Followed → Module
plain_of f = (chain_with f.base f.deltas).plain

abbrev pub debug_after : Followed → PlainPdb
debug_after f = pdb_with f.debug f.debugs

-- F12 and E22 refuse a PDB
abbrev pub is_of_pdb : Code → Bool
is_of_pdb (F n) = n == 12
is_of_pdb (E n) = n == 22
