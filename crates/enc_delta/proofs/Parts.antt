-- The first of a list of rules is the first of its parts.
use Rattle.std.proofs.Common.{◌≡◌, ℕ, List, [], ◌∷◌, ◌++◌, Option, Some, None, refl, ap, ◌∙◌}
use Rattle.std.specs.Prelude.{take, drop}
use Rattle.enc_base.specs.Order.{or_else}
use Rattle.enc_base.specs.declared.refusal.Refusal.{Refusal}
use Rattle.enc_rows.specs.Source.{Source}
use Rattle.enc_plain.specs.Chain.{Chain}
use Rattle.enc_delta.specs.Judged.{Rule, rules, first_of, first_meta, refused}
use Rattle.enc_delta.specs.Stops.{first_identity, first_lists, first_cells, first_members, first_signatures}

or_else_assoc : (o p q : Option Refusal) → or_else o (or_else p q) ≡ or_else (or_else o p) q
or_else_assoc None p q = refl
or_else_assoc (Some x) p q = refl

first_behind : (rs ts : List (ℕ × Rule)) (c : Chain) (s : Source) → first_of (rs ++ ts) c s ≡ or_else (first_of rs c s) (first_of ts c s)
first_behind [] ts c s = refl
first_behind (r ∷ rs) ts c s = ap (or_else (refused r.0 (r.1 c s))) (first_behind rs ts c s) ∙ or_else_assoc (refused r.0 (r.1 c s)) (first_of rs c s) (first_of ts c s)

pub first_parts : (c : Chain) (s : Source) → first_meta c s ≡ or_else (first_identity c s) (or_else (first_lists c s) (or_else (first_cells c s) (or_else (first_members c s) (first_signatures c s))))
unfolding first_meta first_identity first_lists first_cells first_members first_signatures
first_parts c s =
    first_behind (take 5 rules) (drop 5 rules) c s
    ∙ ap (or_else (first_of (take 5 rules) c s)) (first_behind (take 6 (drop 5 rules)) (drop 11 rules) c s
    ∙ ap (or_else (first_of (take 6 (drop 5 rules)) c s)) (first_behind (take 4 (drop 11 rules)) (drop 15 rules) c s
    ∙ ap (or_else (first_of (take 4 (drop 11 rules)) c s)) (first_behind (take 5 (drop 15 rules)) (drop 20 rules) c s)))
