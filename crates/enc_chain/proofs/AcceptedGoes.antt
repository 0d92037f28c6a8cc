-- What the PDB of an accepted delta says goes with the delta.
use Rattle.std.proofs.Common.{◌≡◌, ℕ, List, Option, Some, None, Result, Ok, Err, refl, subst}
use Rattle.std.specs.Prelude.{option_map}
use Rattle.enc_base.specs.declared.refusal.Refusal.{Refusal}
use Rattle.enc_base.specs.declared.token.Token.{Token}
use Rattle.enc_rows.specs.Source.{Source}
use Rattle.enc_plain.specs.Chain.{Chain}
use Rattle.enc_delta.specs.Judged.{first_meta}
use Rattle.enc_ppdb.specs.Fault.{pdb_delta_of}
use Rattle.enc_ppdb.specs.Misplaced.{first_misplaced}
use Rattle.enc_checker.specs.Check.{Accepted, accepted, code_sizes, judged, new_bodies, placed_pdb, refused_row, unless, unless_broken, with_pdb}
use Rattle.enc_chain.specs.Goes.{GoesWith, PdbGoes}
use Rattle.enc_chain.specs.Kept.{IsAcceptedAfter}

-- the delta is the one that was judged, and its PDB goes with it
Goes : Source → Accepted → Type 0
Goes d a = (a.delta ≡ d) × PdbGoes a.delta a.pdb

goes_placed : (d p : Source) (a : Accepted) (o : Option Token) → first_misplaced p (code_sizes d) ≡ o → unless (option_map refused_row o) (accepted d (Some p)) ≡ Ok a → Goes d a
unfolding Goes
goes_placed d p a None is e = let same : accepted d (Some p) ≡ a = cc in subst (λ (x : Accepted). (x.delta ≡ d) × PdbGoes x.delta x.pdb) same (refl, is)
goes_placed d p a (Some t) is e = absurd cc

goes_read : (d : Source) (a : Accepted) (r : Result Source Refusal) → placed_pdb d r ≡ Ok a → Goes d a
goes_read d a (Ok p) e = goes_placed d p a (first_misplaced p (code_sizes d)) refl e
goes_read d a (Err f) e = absurd cc

goes_pdb : (d : Source) (a : Accepted) (pdb : Option (List ℕ)) → with_pdb d pdb ≡ Ok a → Goes d a
unfolding with_pdb Goes
goes_pdb d a None e = let same : accepted d None ≡ a = cc in subst (λ (x : Accepted). (x.delta ≡ d) × PdbGoes x.delta x.pdb) same (refl, tt)
goes_pdb d a (Some bytes) e = goes_read d a (pdb_delta_of bytes) e

goes_unbroken : (d : Source) (a : Accepted) (pdb : Option (List ℕ)) (o : Option Refusal) → unless_broken o d pdb ≡ Ok a → Goes d a
goes_unbroken d a pdb None e = goes_pdb d a pdb e
goes_unbroken d a pdb (Some f) e = absurd cc

pub accepted_delta : (c : Chain) (d : Source) (pdb : Option (List ℕ)) (a : Accepted) → judged c (Ok d) pdb ≡ Ok a → a.delta ≡ d
unfolding Goes
accepted_delta c d pdb a e = (goes_unbroken d a pdb (first_meta c d) e).0

pub accepted_goes : (c : Chain) (d : Source) (pdb : Option Source) → IsAcceptedAfter c d pdb → GoesWith d (record { pdb = pdb; changed = new_bodies d })
unfolding Goes
accepted_goes c d pdb h = let g = goes_unbroken d (accepted d pdb) h.files (first_meta c d) h.judged_ok in record { changed = refl; pdb = g.1 }
