-- Sections of clauses are written one behind the other, as long as there are more clauses than one takes.
use Rattle.std.proofs.Common.{◌≡◌, ℕ, zero, suc, ◌+◌, ◌-◌, ◌*◌, ◌^◌, ◌<◌, ◌≤◌, Bool, true, false, List, [], ◌∷◌, ◌++◌, length, take, drop, refl, sym, ap, ◌∙◌, arith}
use Rattle.std.specs.Prelude.{nat_le}
use Rattle.std.proofs.lemmas.List.{length-drop, append_assoc}
use Rattle.std.proofs.lemmas.Bool.Decides.{nat_tests}
use Rattle.enc_opcodes.specs.declared.code.Clause.{Clause}
use Rattle.enc_il.specs.Written.{most_clauses, data_section_written, sections_for, sections_written}

pub most_some : 0 < most_clauses
unfolding most_clauses
most_some = omega arith

pub most_few : 4 + 24 * most_clauses < 2 ^ 24
unfolding most_clauses
most_few = omega arith

-- as many sections as clauses are enough
enough : (n m : ℕ) (cs : List Clause) → 0 < length cs → length cs ≤ n → length cs ≤ m → sections_for n cs ≡ sections_for m cs
unfolding sections_for
enough zero m cs some hn hm = absurd (omega (arith, some, hn))
enough (suc n) zero cs some hn hm = absurd (omega (arith, some, hm))
enough (suc n) (suc m) cs some hn hm = by_test (nat_le (length cs) most_clauses) refl (λ more. enough n m (drop most_clauses cs) (omega (arith, more, length-drop most_clauses cs)) (omega (arith, more, most_some, length-drop most_clauses cs)) (omega (arith, more, most_some, length-drop most_clauses cs)))
  where
    by_test : (t : Bool) → nat_le (length cs) most_clauses ≡ t → (most_clauses < length cs → sections_for n (drop most_clauses cs) ≡ sections_for m (drop most_clauses cs)) → sections_for (suc n) cs ≡ sections_for (suc m) cs
    by_test true is next = rw is refl
    by_test false is next = rw is (ap (λ bytes. data_section_written true (take most_clauses cs) ++ bytes) (next (grind (arith, nat_tests))))

as_many : (cs : List Clause) → 0 < length cs → sections_written cs ≡ sections_for (length cs) cs
unfolding sections_written
as_many [] some = absurd (omega (arith, some))
as_many (c ∷ rest) some = refl

last_for : (n : ℕ) (cs : List Clause) → nat_le (length cs) most_clauses ≡ true → sections_for (suc n) cs ≡ data_section_written false cs
unfolding sections_for
last_for n cs is = rw is refl

more_for : (n : ℕ) (cs : List Clause) → nat_le (length cs) most_clauses ≡ false → sections_for (suc n) cs ≡ data_section_written true (take most_clauses cs) ++ sections_for n (drop most_clauses cs)
unfolding sections_for
more_for n cs is = rw is refl

-- as many clauses as one section takes are written in one
pub written_last : (cs : List Clause) → 0 < length cs → length cs ≤ most_clauses → sections_written cs ≡ data_section_written false cs
written_last cs some few =
    let e : length cs ≡ suc (length cs - 1) = omega arith in
    as_many cs some ∙ ap (λ n. sections_for n cs) e ∙ last_for (length cs - 1) cs (grind (arith, nat_tests))

-- and more in a first one and those behind it
pub written_more : (cs : List Clause) → most_clauses < length cs → sections_written cs ≡ data_section_written true (take most_clauses cs) ++ sections_written (drop most_clauses cs)
written_more cs many =
    let e : length cs ≡ suc (length cs - 1) = omega arith in
    let l = length-drop most_clauses cs in
    let next : sections_for (length cs - 1) (drop most_clauses cs) ≡ sections_written (drop most_clauses cs) = enough (length cs - 1) (length (drop most_clauses cs)) (drop most_clauses cs) (omega arith) (omega (arith, most_some)) (omega arith) ∙ sym (as_many (drop most_clauses cs) (omega arith)) in
    as_many cs (omega arith) ∙ ap (λ n. sections_for n cs) e ∙ more_for (length cs - 1) cs (grind (arith, nat_tests)) ∙ ap (λ bytes. data_section_written true (take most_clauses cs) ++ bytes) next

-- a loop that has written a section with another behind it
pub step_more : (cs : List Clause) (o n all : List ℕ) (front behind : List Clause) → most_clauses < length cs → front ≡ take most_clauses cs → behind ≡ drop most_clauses cs → o ++ sections_written cs ≡ all → n ≡ o ++ data_section_written true front → n ++ sections_written behind ≡ all
step_more cs o n all front behind many f b was now = rw (now, f, b, append_assoc, ← written_more cs many) was

pub ruleset written_steps = (written_last, written_more, most_some, most_few)
