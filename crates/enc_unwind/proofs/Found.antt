-- The walk over the clauses finds what the definition says.
use Rattle.std.proofs.Common.{◌≡◌, ℕ, zero, suc, ◌+◌, Bool, true, false, List, [], ◌∷◌, ◌++◌, length, map, drop, Option, Some, None, refl, sym, ap, ◌∙◌, arith}
use Rattle.std.specs.Prelude.{is_some, option_and_then, slice_get, if◌then◌else◌}
use Rattle.std.proofs.Math.Path.{fun_ext}
use Rattle.std.proofs.lemmas.List.{map-append, length-map}
use Rattle.enc_base.specs.Order.{or_else, first_below}
use Rattle.enc_il.specs.Seen.{all_sections}
use Rattle.enc_il.proofs.Sections.{clauses_held, clauses_counted, clauses_none, clauses_last, clauses_more}
use Rattle.enc_opcodes.specs.declared.code.Clause.{Clause}
use Rattle.enc_opcodes.specs.Body.{Handler, handler_meant}
use Rattle.enc_opcodes.specs.Clause.{Section, clause_size, section_in, clause_in, clauses_in, clauses_of}
use Rattle.enc_unwind.specs.Search.{answer_at, first_clause, handlers_of}
use Rattle.enc_unwind.specs.Walk.{first_from}

or_none : {A : Type 0} (o : Option A) → or_else o None ≡ o
or_none None = refl
or_none (Some x) = refl

or_more : {A : Type 0} (a b c : Option A) → or_else (or_else a b) c ≡ or_else a (or_else b c)
or_more None b c = refl
or_more (Some x) b c = refl

-- the first place apart from those behind it
first_front : {A : Type 0} (rule : ℕ → Option A) (n : ℕ) → first_below rule (suc n) ≡ or_else (rule 0) (first_below (λ k. rule (suc k)) n)
unfolding first_below
first_front rule zero = sym (or_none (rule 0))
first_front rule (suc n) = ap (λ o. or_else o (rule (suc n))) (first_front rule n) ∙ or_more (rule 0) (first_below (λ k. rule (suc k)) n) (rule (suc n))

-- what the place j says where the first clause has the number k
abbrev answer_from : (ℕ → Handler → Bool) → ℕ → List Handler → ℕ → Option ℕ
answer_from test k cs j = option_and_then (λ (clause : Handler). if test (k + j) clause then Some (k + j) else None) (slice_get cs j)

one_more : (b : Bool) (k : ℕ) (rest : Option ℕ) → or_else (if b then Some k else None) rest ≡ (if b then Some k else rest)
one_more true k rest = refl
one_more false k rest = refl

at_front : (test : ℕ → Handler → Bool) (k : ℕ) (c : Handler) (cs : List Handler) → answer_from test k (c ∷ cs) 0 ≡ (if test k c then Some k else None)
at_front test k c cs = let e : k + 0 ≡ k = omega arith in rw e refl

behind_front : (test : ℕ → Handler → Bool) (k : ℕ) (c : Handler) (cs : List Handler) (j : ℕ) → answer_from test k (c ∷ cs) (suc j) ≡ answer_from test (k + 1) cs j
behind_front test k c cs j = let e : k + suc j ≡ k + 1 + j = omega arith in rw e refl

from_below : (test : ℕ → Handler → Bool) (k : ℕ) (cs : List Handler) → first_below (answer_from test k cs) (length cs) ≡ first_from test k cs
unfolding first_below first_from
from_below test k [] = refl
from_below test k (c ∷ cs) =
    let behind : (λ j. answer_from test k (c ∷ cs) (suc j)) ≡ answer_from test (k + 1) cs = fun_ext (behind_front test k c cs) in
    first_front (answer_from test k (c ∷ cs)) (length cs)
    ∙ ap (λ o. or_else o (first_below (λ j. answer_from test k (c ∷ cs) (suc j)) (length cs))) (at_front test k c cs)
    ∙ ap (λ rule. or_else (if test k c then Some k else None) (first_below rule (length cs))) behind
    ∙ ap (or_else (if test k c then Some k else None)) (from_below test (k + 1) cs)
    ∙ one_more (test k c) k (first_from test (k + 1) cs)

from_none : (test : ℕ → Handler → Bool) (cs : List Handler) (j : ℕ) → answer_at test cs j ≡ answer_from test 0 cs j
from_none test cs j = let e : 0 + j ≡ j = omega arith in rw e refl

-- the definition is the walk from the number 0 on
pub first_walked : (test : ℕ → Handler → Bool) (cs : List Handler) → first_clause test cs ≡ first_from test 0 cs
unfolding first_clause
first_walked test cs =
    let same : answer_at test cs ≡ answer_from test 0 cs = fun_ext (from_none test cs) in
    ap (λ rule. first_below rule (length cs)) same ∙ from_below test 0 cs

-- clauses and those behind them
first_append : (test : ℕ → Handler → Bool) (k : ℕ) (xs ys : List Handler) → first_from test k (xs ++ ys) ≡ or_else (first_from test k xs) (first_from test (k + length xs) ys)
unfolding first_from
first_append test k [] ys = let e : k + 0 ≡ k = omega arith in rw e refl
first_append test k (x ∷ xs) ys =
    let e : k + suc (length xs) ≡ k + 1 + length xs = omega arith in
    rw (e, first_append test (k + 1) xs ys) (by_test (test k x))
  where
    by_test : (b : Bool) → (if b then Some k else or_else (first_from test (k + 1) xs) (first_from test (k + 1 + length xs) ys)) ≡ or_else (if b then Some k else first_from test (k + 1) xs) (first_from test (k + 1 + length xs) ys)
    by_test true = refl
    by_test false = refl

-- the clauses of a section, one by one
pub clause_found : (test : ℕ → Handler → Bool) (k : ℕ) (fat : Bool) (n m : ℕ) (bytes : List ℕ) (clause : Clause) (all : Option ℕ) → n ≡ suc m → clause ≡ clause_in fat bytes → true ≡ test k (handler_meant clause)
    → first_from test k (map handler_meant (clauses_in fat n bytes)) ≡ all → Some k ≡ all
unfolding first_from clauses_in
clause_found test k fat n m bytes clause all e is passes so_far = rw (e, ← is, ← passes) at so_far

pub clause_passed : (test : ℕ → Handler → Bool) (k next : ℕ) (fat : Bool) (n m size : ℕ) (bytes rest : List ℕ) (clause : Clause) (all : Option ℕ) → n ≡ suc m → next ≡ k + 1 → size ≡ clause_size fat → rest ≡ drop size bytes
    → clause ≡ clause_in fat bytes → false ≡ test k (handler_meant clause) → first_from test k (map handler_meant (clauses_in fat n bytes)) ≡ all → first_from test next (map handler_meant (clauses_in fat m rest)) ≡ all
unfolding first_from clauses_in
clause_passed test k next fat n m size bytes rest clause all e more sized behind is fails so_far = rw (more, behind, sized) (rw (e, ← is, ← fails) at so_far)

pub no_clause : (test : ℕ → Handler → Bool) (k : ℕ) (fat : Bool) (n : ℕ) (bytes : List ℕ) (all : Option ℕ) → n ≡ 0 → first_from test k (map handler_meant (clauses_in fat n bytes)) ≡ all → None ≡ all
unfolding first_from clauses_in
no_clause test k fat n bytes all e so_far = rw e at so_far

-- the clauses of sections, section by section
abbrev held : Section → List Handler
held s = map handler_meant (clauses_held s)

held_counted : (s : Section) → length (held s) ≡ s.count
held_counted s = length-map (clauses_held s) handler_meant ∙ clauses_counted s.fat s.count s.clauses

section_alone : (test : ℕ → Handler → Bool) (k : ℕ) (bytes : List ℕ) (x : Section × List ℕ) → section_in bytes ≡ Some x → x.0.more ≡ false → first_from test k (handlers_of bytes) ≡ first_from test k (held x.0)
section_alone test k bytes x is last = ap (λ cs. first_from test k (map handler_meant cs)) (clauses_last bytes x is last)

section_followed : (test : ℕ → Handler → Bool) (k : ℕ) (bytes : List ℕ) (x : Section × List ℕ) → section_in bytes ≡ Some x → x.0.more ≡ true → is_some (all_sections bytes) ≡ true
    → first_from test k (handlers_of bytes) ≡ or_else (first_from test k (held x.0)) (first_from test (k + x.0.count) (handlers_of x.1))
section_followed test k bytes x is more whole =
    ap (λ cs. first_from test k (map handler_meant cs)) (clauses_more bytes x is more whole)
    ∙ ap (first_from test k) (map-append handler_meant (clauses_held x.0) (clauses_of x.1))
    ∙ first_append test k (held x.0) (handlers_of x.1)
    ∙ ap (λ n. or_else (first_from test k (held x.0)) (first_from test (k + n) (handlers_of x.1))) (held_counted x.0)

none_of : (o : Option ℕ) → is_some o ≡ false → o ≡ None
none_of None h = refl
none_of (Some x) h = absurd cc

some_first : (a b : Option ℕ) → is_some a ≡ true → or_else a b ≡ a
some_first None b h = absurd cc
some_first (Some x) b h = refl

-- one is found in the first section, none in the last, none in one that others follow
pub section_found : (test : ℕ → Handler → Bool) (k : ℕ) (bytes : List ℕ) (x : Section × List ℕ) (found all : Option ℕ) → section_in bytes ≡ Some x → is_some (all_sections bytes) ≡ true
    → found ≡ first_from test k (held x.0) → is_some found ≡ true → first_from test k (handlers_of bytes) ≡ all → found ≡ all
section_found test k bytes x found all is whole here some so_far = by_more x.0.more refl
  where
    by_more : (b : Bool) → x.0.more ≡ b → found ≡ all
    by_more false last = here ∙ sym (section_alone test k bytes x is last) ∙ so_far
    by_more true more =
        sym (some_first found (first_from test (k + x.0.count) (handlers_of x.1)) some)
        ∙ ap (λ o. or_else o (first_from test (k + x.0.count) (handlers_of x.1))) here
        ∙ sym (section_followed test k bytes x is more whole)
        ∙ so_far

pub section_last : (test : ℕ → Handler → Bool) (k : ℕ) (bytes : List ℕ) (x : Section × List ℕ) (found all : Option ℕ) → section_in bytes ≡ Some x → x.0.more ≡ false
    → found ≡ first_from test k (held x.0) → is_some found ≡ false → first_from test k (handlers_of bytes) ≡ all → None ≡ all
section_last test k bytes x found all is last here none so_far = sym (none_of found none) ∙ here ∙ sym (section_alone test k bytes x is last) ∙ so_far

pub section_passed : (test : ℕ → Handler → Bool) (k : ℕ) (bytes : List ℕ) (x : Section × List ℕ) (found all : Option ℕ) → section_in bytes ≡ Some x → x.0.more ≡ true → is_some (all_sections bytes) ≡ true
    → found ≡ first_from test k (held x.0) → is_some found ≡ false → first_from test k (handlers_of bytes) ≡ all → first_from test (k + x.0.count) (handlers_of x.1) ≡ all
section_passed test k bytes x found all is more whole here none so_far =
    ap (λ o. or_else o (first_from test (k + x.0.count) (handlers_of x.1))) (sym (none_of found none) ∙ here)
    ∙ sym (section_followed test k bytes x is more whole)
    ∙ so_far

-- sections of which one isn't whole have no clauses
pub nothing_found : (test : ℕ → Handler → Bool) (k : ℕ) (bytes : List ℕ) → all_sections bytes ≡ None → first_from test k (handlers_of bytes) ≡ None
unfolding first_from
nothing_found test k bytes none = rw (clauses_none bytes none) refl
