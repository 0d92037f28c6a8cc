-- The least child, from the pairs as the program has them.
use Rattle.std.proofs.Common.{◌≡◌, ℕ, ◌≤◌, Bool, List, length, take, map, Option, refl, ap, ◌∙◌}
use Rattle.std.specs.Prelude.{filter}
use Rattle.std.proofs.lemmas.List.{take_all}
use Rattle.enc_base.specs.Token.{number_of}
use Rattle.enc_rows.specs.Source.{Source}
use Rattle.enc_plain.specs.Apply.{Attached}
use Rattle.enc_delta.specs.declared.pairs.Pair.{Pair}
use Rattle.enc_delta.specs.Rules.{least, at_token}
use Rattle.enc_delta.specs.Pairs.{attached_of}
use Rattle.enc_delta.specs.Members.{pair_seen}
use Rattle.enc_delta.specs.Changes.{least_child}
use Rattle.enc_delta.proofs.TwinsTold.{filtered}

pub least_told : (has : Attached → Bool) (s : Source) (pairs : List Pair) (k : ℕ) (o : Option ℕ) → length pairs ≤ k → map pair_seen pairs ≡ attached_of s → o ≡ least (map (λ (p : Pair). number_of p.child) (filter (λ (p : Pair). has (pair_seen p)) (take k pairs))) → at_token o ≡ least_child has s
least_told has s pairs k o past are is =
    rw (← are) (ap at_token (is ∙ ap (λ (xs : List Pair). least (map (λ (p : Pair). number_of p.child) (filter (λ (p : Pair). has (pair_seen p)) xs))) (take_all k pairs past) ∙ ap least (filtered (λ (p : Pair). has (pair_seen p)) has pairs (λ i l. refl))))
