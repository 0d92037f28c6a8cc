-- Files that are read, whose delta breaks no rule and whose PDB is of it, are accepted.
use Rattle.std.proofs.Common.{◌≡◌, ℕ, List, Option, Some, None, refl}
use Rattle.std.specs.Prelude.{Ok, Result}
use Rattle.enc_base.specs.declared.refusal.Refusal.{Refusal}
use Rattle.enc_plain.specs.Chain.{Chain}
use Rattle.enc_rows.specs.Source.{Source}
use Rattle.enc_delta.specs.Judged.{first_meta}
use Rattle.enc_ppdb.specs.Fault.{pdb_delta_of}
use Rattle.enc_ppdb.specs.Misplaced.{first_misplaced}
use Rattle.enc_checker.specs.Check.{accepted, judged, with_pdb, code_sizes}

accepted_pdb : (s p : Source) (bytes : List ℕ) → pdb_delta_of bytes ≡ Ok p → first_misplaced p (code_sizes s) ≡ None → with_pdb s (Some bytes) ≡ Ok (accepted s (Some p))
unfolding with_pdb
accepted_pdb s p bytes read placed = rw (read, placed) refl

pub accepted_files : (c : Chain) (d : Result Source Refusal) (s p : Source) (bytes : List ℕ) → d ≡ Ok s → first_meta c s ≡ None → pdb_delta_of bytes ≡ Ok p → first_misplaced p (code_sizes s) ≡ None
    → judged c d (Some bytes) ≡ Ok (accepted s (Some p))
accepted_files c d s p bytes delta follows read placed = rw (delta, follows) (accepted_pdb s p bytes read placed)
