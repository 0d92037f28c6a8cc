-- The first edit that several rules tell, each asked by itself.
use Rattle.std.proofs.Common.{◌≡◌, ℕ, zero, suc, ◌+◌, ◌<◌, ◌≤◌, Bool, true, false, List, [], ◌∷◌, ◌++◌, Option, Some, None, refl, sym, ap, ◌∙◌, arith}
use Rattle.std.specs.Prelude.{nat_lt, if◌then◌else◌}
use Rattle.std.proofs.lemmas.Bool.Decides.{nat_tests}
use Rattle.enc_base.specs.Order.{or_else, first_below}
use Rattle.enc_base.proofs.First.{first_none, first_suc}
use Rattle.enc_plain.specs.Chain.{Chain}
use Rattle.enc_edit_list.specs.declared.edit.EditList.{EditList}
use Rattle.enc_rules.specs.First.{EditRule, first_such, first_at}
use Rattle.enc_rules.specs.Sooner.{sooner}

-- what a rule tells of an edit
abbrev pub told_at : ℕ → (ℕ → Bool) → ℕ → Option (ℕ × ℕ)
told_at rule test k = if test k then Some (rule, k + 1) else None

-- an answer tells an edit up to the n-th
abbrev pub IsUpTo : ℕ → Option (ℕ × ℕ) → Type 0
IsUpTo n None = Unit {0}
IsUpTo n (Some t) = t.1 ≤ n

-- and a place is one below n
abbrev pub IsBelow : ℕ → Option ℕ → Type 0
IsBelow n None = Unit {0}
IsBelow n (Some k) = k < n

-- it tells the n-th
abbrev pub IsOf : ℕ → Option (ℕ × ℕ) → Type 0
IsOf n None = Unit {0}
IsOf n (Some t) = t.1 ≡ n

not_sooner : (a b : ℕ) → b ≤ a → nat_lt a b ≡ false
not_sooner a b le = grind (arith, nat_tests)

is_sooner : (a b : ℕ) → a < b → nat_lt a b ≡ true
is_sooner a b lt = grind (arith, nat_tests)

both_told : (t : ℕ × ℕ) (rule k : ℕ) (later : Option (ℕ × ℕ)) (b : Bool) → nat_lt (k + 1) t.1 ≡ b → sooner (Some t) rule (Some k) ≡ or_else (sooner (Some t) rule (Some k)) later
both_told t rule k later true e = rw e refl
both_told t rule k later false e = rw e refl

-- one place more, of what is told up to it and at it
one_more : (rule n : ℕ) (before here : Option (ℕ × ℕ)) (place : Option ℕ) (b : Bool) → IsUpTo n before → IsOf (n + 1) here → IsBelow n place
    → sooner (or_else before here) rule (or_else place (if b then Some n else None)) ≡ or_else (sooner before rule place) (or_else here (if b then Some (rule, n + 1) else None))
one_more rule n (Some t) here (Some k) b up of low = both_told t rule k (or_else here (if b then Some (rule, n + 1) else None)) _ refl
one_more rule n (Some t) here None true up of low = rw (not_sooner (n + 1) t.1 (omega arith)) refl
one_more rule n (Some t) here None false up of low = refl
one_more rule n None None (Some k) b up of low = refl
one_more rule n None (Some h) (Some k) b up of low = rw (is_sooner (k + 1) h.1 (omega arith)) refl
one_more rule n None None None true up of low = refl
one_more rule n None None None false up of low = refl
one_more rule n None (Some h) None true up of low = rw (not_sooner (n + 1) h.1 (omega arith)) refl
one_more rule n None (Some h) None false up of low = refl

-- answers below n tell edits up to the n-th
up_to_more : (n : ℕ) (before here : Option (ℕ × ℕ)) → IsUpTo n before → IsOf (n + 1) here → IsUpTo (suc n) (or_else before here)
up_to_more n (Some t) here up of = omega arith
up_to_more n None (Some h) up of = omega arith
up_to_more n None None up of = tt

up_to : (answer : ℕ → Option (ℕ × ℕ)) (n : ℕ) → ((k : ℕ) → IsOf (k + 1) (answer k)) → IsUpTo n (first_below answer n)
up_to answer zero of = rw (first_none answer) tt
up_to answer (suc n) of = rw (first_suc answer n) (up_to_more n _ _ (up_to answer n of) (of n))

below_more : (n : ℕ) (before : Option ℕ) (b : Bool) → IsBelow n before → IsBelow (suc n) (or_else before (if b then Some n else None))
below_more n (Some k) b low = omega arith
below_more n None true low = omega arith
below_more n None false low = tt

is_below : (test : ℕ → Bool) (n : ℕ) → IsBelow n (first_such test n)
is_below test zero = rw (first_none (λ k. if test k then Some k else None)) tt
is_below test (suc n) = rw (first_suc (λ k. if test k then Some k else None) n) (below_more n _ (test n) (is_below test n))

-- what is told of two, one behind the other, is what is told of both at once
joined : (rule : ℕ) (answer : ℕ → Option (ℕ × ℕ)) (test : ℕ → Bool) (n : ℕ) → ((k : ℕ) → IsOf (k + 1) (answer k))
    → sooner (first_below answer n) rule (first_such test n) ≡ first_below (λ k. or_else (answer k) (told_at rule test k)) n
joined rule answer test zero of = rw (first_none answer, first_none (λ k. if test k then Some k else None), first_none (λ k. or_else (answer k) (told_at rule test k))) refl
joined rule answer test (suc n) of =
    rw (first_suc answer n, first_suc (λ k. if test k then Some k else None) n, first_suc (λ k. or_else (answer k) (told_at rule test k)) n)
    (one_more rule n (first_below answer n) (answer n) (first_such test n) (test n) (up_to answer n of) (of n) (is_below test n)
    ∙ ap (λ o. or_else o (or_else (answer n) (told_at rule test n))) (joined rule answer test n of))

-- rules that answer the same at each place
alike : (f h : ℕ → Option (ℕ × ℕ)) (n : ℕ) → ((k : ℕ) → f k ≡ h k) → first_below f n ≡ first_below h n
alike f h zero same = first_none f ∙ sym (first_none h)
alike f h (suc n) same = first_suc f n ∙ ap (λ o. or_else o (f n)) (alike f h n same) ∙ ap (or_else (first_below h n)) (same n) ∙ sym (first_suc h n)

-- several rules tell the edit that they are asked of
of_test : (rule k : ℕ) (b : Bool) (rest : Option (ℕ × ℕ)) → IsOf (k + 1) rest → IsOf (k + 1) (if b then Some (rule, k + 1) else rest)
of_test rule k true rest of = refl
of_test rule k false rest of = of

is_of : (rules : List (ℕ × EditRule)) (c : Chain) (l : EditList) (k : ℕ) → IsOf (k + 1) (first_at rules c l k)
is_of [] c l k = tt
is_of (r ∷ rules) c l k = of_test r.0 k (r.1 c l k) (first_at rules c l k) (is_of rules c l k)

-- and one rule more behind them is asked last
last_by : (rule k : ℕ) (b : Bool) (rest more : Option (ℕ × ℕ)) (all : Option (ℕ × ℕ)) → all ≡ or_else rest more → (if b then Some (rule, k + 1) else all) ≡ or_else (if b then Some (rule, k + 1) else rest) more
last_by rule k true rest more all e = refl
last_by rule k false rest more all e = e

last_rule : (rules : List (ℕ × EditRule)) (r : ℕ × EditRule) (c : Chain) (l : EditList) (k : ℕ) → first_at (rules ++ r ∷ []) c l k ≡ or_else (first_at rules c l k) (told_at r.0 (r.1 c l) k)
last_rule [] r c l k = refl
last_rule (x ∷ rules) r c l k = last_by x.0 k (x.1 c l k) (first_at rules c l k) (told_at r.0 (r.1 c l) k) (first_at (rules ++ r ∷ []) c l k) (last_rule rules r c l k)

-- nothing is told before any rule is asked
pub none_asked : (c : Chain) (l : EditList) (n : ℕ) → first_below (first_at [] c l) n ≡ None
none_asked c l zero = first_none (first_at [] c l)
none_asked c l (suc n) = first_suc (first_at [] c l) n ∙ ap (λ o. or_else o (first_at [] c l n)) (none_asked c l n)

-- after one rule more the first is told that any of them tells
pub asked : (front : List (ℕ × EditRule)) (r : ℕ × EditRule) (c : Chain) (l : EditList) (n : ℕ) (result told : Option (ℕ × ℕ)) (place : Option ℕ)
    → told ≡ first_below (first_at front c l) n → place ≡ first_such (r.1 c l) n → result ≡ sooner told r.0 place → result ≡ first_below (first_at (front ++ r ∷ []) c l) n
asked front r c l n result told place before here is =
    is ∙ ap (λ o. sooner o r.0 place) before
    ∙ ap (sooner (first_below (first_at front c l) n) r.0) here
    ∙ joined r.0 (first_at front c l) (r.1 c l) n (is_of front c l)
    ∙ alike _ _ n (λ k. sym (last_rule front r c l k))
