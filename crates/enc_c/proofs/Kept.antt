-- A handle stays as it has to be with a delta that is accepted.
use Rattle.std.proofs.Common.{◌≡◌, ℕ, Bool, true, false, List, [], ◌∷◌, length, Option, Ok, Err, Result, refl, sym, subst, arith}
use Rattle.std.specs.Prelude.{◌&&◌}
use Rattle.std.proofs.lemmas.Bool.Decides.{nat_tests}
use Rattle.enc_base.specs.declared.refusal.Refusal.{Refusal}
use Rattle.enc_rows.specs.Source.{Source}
use Rattle.enc_plain.specs.Chain.{Chain}
use Rattle.enc_delta.specs.Delta.{delta_of}
use Rattle.enc_checker.specs.Check.{Accepted, judged}
use Rattle.enc_ppdb.specs.PdbChain.{DebugDelta}
use Rattle.enc_chain.specs.Goes.{AllGo}
use Rattle.enc_chain.proofs.AcceptedGoes.{accepted_delta}
use Rattle.enc_merge.specs.Merges.{AllShort, IsShortDelta, ReadIsShort}
use Rattle.enc_c.specs.State.{is_short_delta}

-- a delta that was read of short files, and is accepted
short_delta : (c : Chain) (meta il : List ℕ) (r : Result Source Refusal) (pdb : Option (List ℕ)) (a : Accepted) → ReadIsShort → delta_of meta il ≡ r → judged c r pdb ≡ Ok a → is_short_delta meta il ≡ true → IsShortDelta a.delta
unfolding is_short_delta
short_delta c meta il (Ok d) pdb a law read e is = subst IsShortDelta (sym (accepted_delta c d pdb a e)) (law meta il d (grind (arith, nat_tests)) (grind (arith, nat_tests)) read)
short_delta c meta il (Err f) pdb a law read e is = absurd cc

first_is : (s t : Bool) → (s && t) ≡ true → (s ≡ true) × (t ≡ true)
first_is true true e = (refl, refl)
first_is true false e = absurd cc
first_is false t e = absurd cc

-- one more delta
pub more_short : (c : Chain) (meta il : List ℕ) (pdb : Option (List ℕ)) (a : Accepted) (s : Bool) (deltas new : List Source) → ReadIsShort → judged c (delta_of meta il) pdb ≡ Ok a → (s ≡ true → AllShort deltas)
    → new ≡ a.delta ∷ deltas → (s && is_short_delta meta il) ≡ true → AllShort new
unfolding AllShort
more_short c meta il pdb a s deltas new law e short is both =
    let b = first_is s (is_short_delta meta il) both in
    subst AllShort (sym is) (short_delta c meta il (delta_of meta il) pdb a law refl e b.1, short b.0)

-- none are
pub short_none : (deltas : List Source) → deltas ≡ [] → AllShort deltas
unfolding AllShort
short_none deltas none = subst AllShort (sym none) tt

pub and_both : (s t : Bool) → s ≡ true → t ≡ true → (s && t) ≡ true
and_both s t one other = rw (one, other) refl

pub not_both : (b : Bool) → b ≡ false → b ≡ true → ⊥
not_both true e is = absurd cc
not_both false e is = absurd cc

-- as many deltas as what is said of their points
pub go_paired : (deltas : List Source) (debugs : List DebugDelta) → AllGo deltas debugs → length deltas ≡ length debugs
unfolding AllGo
go_paired [] [] all = refl
go_paired [] (x ∷ debugs) all = absurd all
go_paired (d ∷ deltas) [] all = absurd all
go_paired (d ∷ deltas) (x ∷ debugs) all = rw (go_paired deltas debugs all.1) refl
