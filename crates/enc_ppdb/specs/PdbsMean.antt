-- That a Portable PDB that is written of a plain PDB means it.
use Rattle.std.specs.Prelude.{ℕ, ◌<◌, ◌^◌, false, List}
use Rattle.enc_emit.specs.Written.{pdb_root_built, pdb_built_size}
use Rattle.enc_meta.specs.Built.{Built}
use Rattle.enc_meta.specs.BuiltLaws.{IsGood}
use Rattle.enc_plain.specs.Debug.{PlainPdb}
use Rattle.enc_plain.specs.SoundDebug.{IsSoundPdb, KnowsWithin}
use Rattle.enc_rows.specs.Written.{AreRows, IndicesFit}
use Rattle.enc_ppdb.specs.Written.{HoldPdb, pdb_stream, MeansPdb}

-- a PDB whose parts hold a sound plain PDB means it: its heaps are good, its rows are rows whose indices fit, and
-- its root is shorter than 2^32 bytes
abbrev pub PdbsMean : Type 0
PdbsMean = (p : PlainPdb) (methods entry : ℕ) (h : Built) (rows : List (List (List ℕ))) → IsSoundPdb p
    → KnowsWithin p methods → IsGood h → AreRows rows
    → IndicesFit rows false → HoldPdb p methods h rows
    → pdb_built_size (record { heaps = h; rows = rows }) (pdb_stream entry) < 2 ^ 32
    → MeansPdb p methods (pdb_root_built (record { heaps = h; rows = rows }) (pdb_stream entry))
