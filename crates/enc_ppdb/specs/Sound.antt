-- When the plain PDB of a chain is sound.
use Rattle.std.specs.Prelude.{◌≡◌, List, Option, None}
use Rattle.enc_base.specs.declared.token.Token.{Token}
use Rattle.enc_plain.specs.Debug.{PlainPdb}
use Rattle.enc_plain.specs.SoundDebug.{IsSoundPdb}
use Rattle.enc_rows.specs.Source.{Source}
use Rattle.enc_ppdb.specs.Fault.{documents_fault, methods_fault}
use Rattle.enc_ppdb.specs.PdbChain.{pdb_changed}

-- no row of the file is refused
pub record IsGoodPdb (s : Source) : Type 0 where
  pub documents : documents_fault s ≡ None
  pub methods : methods_fault s ≡ None

-- with a delta that says this a sound plain PDB stays sound, whatever methods have a new body
abbrev pub KeepsSound : Option Source → Type 0
KeepsSound pdb = (before : PlainPdb) (changed : List Token) → IsSoundPdb before
    → IsSoundPdb (pdb_changed before (record { pdb = pdb; changed = changed }))
