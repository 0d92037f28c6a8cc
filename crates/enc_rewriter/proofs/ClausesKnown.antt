-- The clauses of a body, gathered section by section.
use Rattle.std.proofs.Common.{◌≡◌, ℕ, suc, Bool, true, false, List, [], ◌∷◌, ◌++◌, map, drop, Option, Some, None, refl, sym, ap, ◌∙◌}
use Rattle.std.specs.Prelude.{is_some}
use Rattle.std.specs.List.{list_all}
use Rattle.std.proofs.lemmas.List.{append_assoc, append-nil, map-append}
use Rattle.std.proofs.lemmas.List.Folds.{list_all-append}
use Rattle.enc_opcodes.specs.declared.code.Clause.{Clause}
use Rattle.enc_opcodes.specs.Clause.{Section, section_in, clause_size, clause_in, clauses_in, clauses_of}
use Rattle.enc_il.specs.Seen.{all_sections}
use Rattle.enc_il.specs.Written.{clause_fits}
use Rattle.enc_il.proofs.Sections.{clauses_last, clauses_more, all_none}
use Rattle.enc_rewriter.specs.Standing.{known_as}

-- one more clause
pub one_fits : (all after : List Clause) (c : Clause) → list_all clause_fits all ≡ true → clause_fits c ≡ true → after ≡ all ++ c ∷ [] → list_all clause_fits after ≡ true
one_fits all after c fit one is = ap (list_all clause_fits) is ∙ list_all-append clause_fits all (c ∷ []) ∙ rw (fit, one) refl

front_more : (fat : Bool) (n m : ℕ) (rest : List ℕ) → n ≡ suc m → clauses_in fat n rest ≡ clause_in fat rest ∷ clauses_in fat m (drop (clause_size fat) rest)
unfolding clauses_in
front_more fat n m rest is = rw is refl

pub more_known : (fat : Bool) (n m : ℕ) (rest : List ℕ) (all after first : List Clause) → n ≡ suc m → all ++ map known_as (clauses_in fat n rest) ≡ first → after ≡ all ++ known_as (clause_in fat rest) ∷ []
    → after ++ map known_as (clauses_in fat m (drop (clause_size fat) rest)) ≡ first
more_known fat n m rest all after first is so_far pushed =
    let c = known_as (clause_in fat rest) in
    let others = map known_as (clauses_in fat m (drop (clause_size fat) rest)) in
    ap (λ xs. xs ++ others) pushed
    ∙ append_assoc all (c ∷ []) others
    ∙ ap (λ xs. all ++ map known_as xs) (sym (front_more fat n m rest is))
    ∙ so_far

none_front : (fat : Bool) (n : ℕ) (rest : List ℕ) → n ≡ 0 → clauses_in fat n rest ≡ []
unfolding clauses_in
none_front fat n rest is = rw is refl

pub none_known : (fat : Bool) (n : ℕ) (rest : List ℕ) (all first : List Clause) → n ≡ 0 → all ++ map known_as (clauses_in fat n rest) ≡ first → all ≡ first
none_known fat n rest all first is so_far = sym (append-nil all) ∙ ap (λ xs. all ++ map known_as xs) (sym (none_front fat n rest is)) ∙ so_far

-- one more section, the last, or none
abbrev pub held : Section → List Clause
held s = clauses_in s.fat s.count s.clauses

pub last_known : (bytes : List ℕ) (x : Section × List ℕ) (all after first : List Clause) → section_in bytes ≡ Some x → x.0.more ≡ false → all ++ map known_as (clauses_of bytes) ≡ first → after ≡ all ++ map known_as (held x.0) → after ≡ first
last_known bytes x all after first is last so_far pushed = pushed ∙ ap (λ xs. all ++ map known_as xs) (sym (clauses_last bytes x is last)) ∙ so_far

pub section_known : (bytes : List ℕ) (x : Section × List ℕ) (all after first : List Clause) → section_in bytes ≡ Some x → x.0.more ≡ true → is_some (all_sections bytes) ≡ true → all ++ map known_as (clauses_of bytes) ≡ first
    → after ≡ all ++ map known_as (held x.0) → after ++ map known_as (clauses_of x.1) ≡ first
section_known bytes x all after first is more whole so_far pushed =
    ap (λ xs. xs ++ map known_as (clauses_of x.1)) pushed
    ∙ append_assoc all (map known_as (held x.0)) (map known_as (clauses_of x.1))
    ∙ ap (λ xs. all ++ xs) (sym (map-append known_as (held x.0) (clauses_of x.1)))
    ∙ ap (λ xs. all ++ map known_as xs) (sym (clauses_more bytes x is more whole))
    ∙ so_far

pub never_none : (bytes : List ℕ) → section_in bytes ≡ None → is_some (all_sections bytes) ≡ true → ⊥
never_none bytes none whole =
    let e : is_some (all_sections bytes) ≡ false = ap (λ (o : Option (List Section × List ℕ)). is_some o) (all_none bytes none) in
    absurd cc
