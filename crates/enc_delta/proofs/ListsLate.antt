-- Numbers that have one before them that isn't less, told by the greatest so far.
use Rattle.std.proofs.Common.{◌≡◌, ℕ, ◌+◌, ◌<◌, ◌≤◌, true, false, List, [], ◌∷◌, ◌++◌, Option, Some, None, refl, sym, ap, ◌∙◌, inl, inr, length, arith}
use Rattle.std.specs.Prelude.{if◌then◌else◌, nat_lt, nat_le, map, filter}
use Rattle.std.proofs.lemmas.Bool.{cases_lt}
use Rattle.std.proofs.lemmas.Bool.Decides.{nat_tests}
use Rattle.enc_base.specs.Token.{number_of}
use Rattle.enc_base.specs.declared.token.Token.{Token}
use Rattle.enc_delta.specs.Rules.{least, lesser, late}

-- the numbers below a bound that rises with them: one past the greatest so far
abbrev pub late_past : ℕ → List ℕ → List ℕ
late_past bound [] = []
late_past bound (n ∷ ns) = if nat_lt n bound then n ∷ late_past bound ns else late_past (n + 1) ns

-- the lesser of two, each perhaps not there
abbrev pub lesser_of : Option ℕ → Option ℕ → Option ℕ
lesser_of None o = o
lesser_of (Some n) o = lesser n o

-- one more number that is late, or that isn't
pub late_yes : (bound n : ℕ) (ns : List ℕ) → n < bound → late_past bound (n ∷ ns) ≡ n ∷ late_past bound ns
late_yes bound n ns h = grind (arith, nat_tests)

pub late_no : (bound n : ℕ) (ns : List ℕ) → bound ≤ n → late_past bound (n ∷ ns) ≡ late_past (n + 1) ns
late_no bound n ns h = grind (arith, nat_tests)

-- the order in which the least is taken does not matter
pub lesser_twice : (n : ℕ) (o p : Option ℕ) → lesser_of (lesser n o) p ≡ lesser_of o (lesser n p)
lesser_twice n None p = refl
lesser_twice n (Some m) None = ap (λ x. Some x) (omega arith)
lesser_twice n (Some m) (Some k) = ap (λ x. Some x) (omega arith)

pub lesser_none : (o : Option ℕ) → lesser_of o None ≡ o
lesser_none None = refl
lesser_none (Some n) = refl

empty : {A : Type 0} (xs : List A) → length xs < 1 → xs ≡ []
empty [] h = refl
empty (x ∷ xs) h = absurd (omega arith)

either_order : (o p : Option ℕ) → lesser_of o p ≡ lesser_of p o
either_order None None = refl
either_order None (Some n) = refl
either_order (Some n) None = refl
either_order (Some n) (Some m) = ap (λ x. Some x) (omega arith)

first_in : (n : ℕ) (o p : Option ℕ) → lesser_of (lesser n o) p ≡ lesser n (lesser_of o p)
first_in n None p = refl
first_in n (Some m) None = refl
first_in n (Some m) (Some k) = ap (λ x. Some x) (omega arith)

again : (n : ℕ) (o : Option ℕ) → lesser n (lesser n o) ≡ lesser n o
again n None = ap (λ x. Some x) (omega arith)
again n (Some m) = ap (λ x. Some x) (omega arith)

past : (n : ℕ) (o p : Option ℕ) → lesser_of o (lesser n p) ≡ lesser n (lesser_of o p)
past n o p = sym (lesser_twice n o p) ∙ first_in n o p

doubled : (n : ℕ) (o p : Option ℕ) → lesser_of (lesser n o) (lesser n p) ≡ lesser n (lesser_of o p)
doubled n o p = first_in n o (lesser n p) ∙ ap (λ q. lesser n q) (past n o p) ∙ again n (lesser_of o p)

in_turn : (o p q : Option ℕ) → lesser_of (lesser_of o p) q ≡ lesser_of o (lesser_of p q)
in_turn None p q = refl
in_turn (Some n) p q = first_in n p q

-- the least of two lists
least_both : (ns ms : List ℕ) → least (ns ++ ms) ≡ lesser_of (least ns) (least ms)
least_both [] ms = refl
least_both (n ∷ ns) ms = rw (least_both ns ms) (sym (first_in n (least ns) (least ms)))

-- the numbers below a bound
abbrev low : ℕ → List ℕ → List ℕ
low bound ns = filter (λ m. nat_lt m bound) ns

low_yes : (bound n : ℕ) (ns : List ℕ) → n < bound → low bound (n ∷ ns) ≡ n ∷ low bound ns
low_yes bound n ns h = let e : nat_lt n bound ≡ true = grind (arith, nat_tests) in rw e refl

low_no : (bound n : ℕ) (ns : List ℕ) → bound ≤ n → low bound (n ∷ ns) ≡ low bound ns
low_no bound n ns h = let e : nat_lt n bound ≡ false = grind (arith, nat_tests) in rw e refl

low_end : (bound : ℕ) (ns : List ℕ) → bound < 1 → low bound ns ≡ []
low_end bound [] h = refl
low_end bound (n ∷ ns) h = low_no bound n ns (omega arith) ∙ low_end bound ns h

up_to : (n m : ℕ) → nat_le m n ≡ nat_lt m (n + 1)
up_to n m = elim (cases_lt m (n + 1)) [ inl a ↦ grind (arith, nat_tests) | inr b ↦ grind (arith, nat_tests) ]

up_to_is : (n : ℕ) (ns : List ℕ) → filter (λ m. nat_le m n) ns ≡ low (n + 1) ns
up_to_is n [] = refl
up_to_is n (m ∷ ms) = rw (up_to n m, up_to_is n ms) refl

-- of two bounds the higher one leaves the least
low_both : (a b : ℕ) (ns : List ℕ) → a ≤ b → lesser_of (least (low a ns)) (least (low b ns)) ≡ least (low b ns)
low_both a b [] h = refl
low_both a b (n ∷ ns) h = elim (cases_lt n a) [
  | inl under ↦ rw (low_yes a n ns under, low_yes b n ns (omega arith)) (doubled n (least (low a ns)) (least (low b ns)) ∙ ap (λ o. lesser n o) (low_both a b ns h))
  | inr over ↦ elim (cases_lt n b) [
    | inl between ↦ rw (low_no a n ns over, low_yes b n ns between) (past n (least (low a ns)) (least (low b ns)) ∙ ap (λ o. lesser n o) (low_both a b ns h))
    | inr above ↦ rw (low_no a n ns over, low_no b n ns above) (low_both a b ns h)
  ]
]

-- the least late number by the bound: one that is below it, or one that is late among the rest
late_kept : (n : ℕ) (o p q : Option ℕ) → lesser_of p o ≡ o → lesser_of (lesser n o) (lesser_of p q) ≡ lesser n (lesser_of o q)
late_kept n o p q h = first_in n o (lesser_of p q) ∙ ap (λ r. lesser n r) (sym (in_turn o p q) ∙ ap (λ r. lesser_of r q) (either_order o p ∙ h))

late_left : (o p q : Option ℕ) → lesser_of o p ≡ p → lesser_of o (lesser_of p q) ≡ lesser_of p q
late_left o p q h = sym (in_turn o p q) ∙ ap (λ r. lesser_of r q) h

late_step : (bound n : ℕ) (ns : List ℕ) → lesser_of (least (low bound ns)) (least (late ns)) ≡ least (late_past bound ns) → lesser_of (least (low (n + 1) ns)) (least (late ns)) ≡ least (late_past (n + 1) ns) → lesser_of (least (low bound (n ∷ ns))) (lesser_of (least (low (n + 1) ns)) (least (late ns))) ≡ least (late_past bound (n ∷ ns))
late_step bound n ns here next = elim (cases_lt n bound) [
  | inl under ↦ rw (low_yes bound n ns under, late_yes bound n ns under) (late_kept n (least (low bound ns)) (least (low (n + 1) ns)) (least (late ns)) (low_both (n + 1) bound ns (omega arith)) ∙ ap (λ o. lesser n o) here)
  | inr over ↦ rw (low_no bound n ns over, late_no bound n ns over) (late_left (least (low bound ns)) (least (low (n + 1) ns)) (least (late ns)) (low_both bound (n + 1) ns (omega arith)) ∙ next)
]

late_by : (bound : ℕ) (ns : List ℕ) → lesser_of (least (low bound ns)) (least (late ns)) ≡ least (late_past bound ns)
late_by bound [] = refl
late_by bound (n ∷ ns) = rw (up_to_is n ns, least_both (low (n + 1) ns) (late ns)) (late_step bound n ns (late_by bound ns) (late_by (n + 1) ns))

-- nothing stands before the first
pub late_at : (ns : List ℕ) → least (late ns) ≡ least (late_past 0 ns)
late_at ns = let e = late_by 0 ns in rw (low_end 0 ns (omega arith)) at e

-- where all were seen, the best so far is the least
pub late_end : (best : Option ℕ) (bound : ℕ) (rest listed : List Token) → lesser_of best (least (late_past bound (map number_of rest))) ≡ least (late_past 0 (map number_of listed)) → length rest < 1 → best ≡ least (late (map number_of listed))
late_end best bound rest listed h short =
    let e = rw (empty rest short) at h in
    rw (late_at (map number_of listed)) (sym (lesser_none best) ∙ e)
