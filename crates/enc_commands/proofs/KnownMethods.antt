-- The PDB of a base, read for it, knows only methods that the base has.
use Rattle.std.proofs.Common.{◌≡◌, ℕ, List, Option, Some, None, Result, Ok, Err, refl, subst}
use Rattle.enc_base.specs.declared.refusal.Refusal.{Refusal}
use Rattle.enc_checker.specs.Within.{method_count, BaseKnowsWithin}
use Rattle.enc_image.specs.Base.{chain_of_base}
use Rattle.enc_plain.specs.SoundDebug.{KnowsWithin}
use Rattle.enc_ppdb.specs.Fault.{pdb_of}
use Rattle.enc_ppdb.specs.PdbChain.{pdb_begun}
use Rattle.enc_rows.specs.Source.{Source}
use Rattle.enc_commands.specs.Verdict.{there, base_pdb, in_file}

-- a base, with its PDB or without
base_by : (b : Source) (name : List ℕ) (r : Result Source Refusal) (p : Option Source) → ((x : Source) → r ≡ Ok x → KnowsWithin (pdb_begun (Some x)) (method_count (chain_of_base b))) → in_file name (there r) ≡ Ok p
    → KnowsWithin (pdb_begun p) (method_count (chain_of_base b))
base_by b name (Ok x) p each is = let e : Some x ≡ p = cc in subst (λ (o : Option Source). KnowsWithin (pdb_begun o) (method_count (chain_of_base b))) e (each x refl)
base_by b name (Err r) p each is = absurd cc

pub base_within : (b : Source) (name : List ℕ) (bytes : Option (List ℕ)) (p : Option Source) → BaseKnowsWithin → in_file name (base_pdb b bytes) ≡ Ok p → KnowsWithin (pdb_begun p) (method_count (chain_of_base b))
unfolding base_pdb
base_within b name None p law is = let e : None ≡ p = cc in subst (λ (o : Option Source). KnowsWithin (pdb_begun o) (method_count (chain_of_base b))) e (law.1 (method_count (chain_of_base b)))
base_within b name (Some bytes) p law is = base_by b name (pdb_of bytes (method_count (chain_of_base b))) p (λ x read. law.0 b bytes x read) is
