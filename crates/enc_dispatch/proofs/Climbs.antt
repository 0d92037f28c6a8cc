-- Climbs over a path, step by step.
use Rattle.std.proofs.Common.{◌≡◌, ℕ, zero, suc, ◌+◌, ◌-◌, ◌<◌, ◌≤◌, Bool, true, false, List, [], ◌∷◌, length, drop, Option, Some, None, is_some, IfSome, option_map, slice_get, refl, ap, ◌∙◌, arith}
use Rattle.std.specs.Prelude.{◌||◌, if◌then◌else◌}
use Rattle.std.specs.List.{list_any}
use Rattle.enc_base.specs.Token.{is_token}
use Rattle.enc_base.specs.declared.token.Token.{Token}
use Rattle.enc_dispatch.specs.declared.class_part.ClassPart.{ClassPart}
use Rattle.enc_dispatch.specs.Stored.{DispatchParts}
use Rattle.enc_dispatch.specs.Walked.{class_part, with_class, climb_in, has_interface_in, from_interface_in, path_with, place_on}

-- at its end, at what is no class, and at a class
pub climb_end : (d : DispatchParts) (n : ℕ) (t : Token) → n ≡ 0 → climb_in d n t ≡ []
unfolding climb_in
climb_end d n t e = rw e refl

pub climb_none : (d : DispatchParts) (n : ℕ) (t : Token) → class_part d t ≡ None → climb_in d n t ≡ []
unfolding climb_in
climb_none d zero t e = refl
climb_none d (suc n) t e = rw e refl

pub climb_next : (d : DispatchParts) (n : ℕ) (t : Token) (p : ClassPart) → 0 < n → class_part d t ≡ Some p → climb_in d n t ≡ t ∷ climb_in d (n - 1) p.base
unfolding climb_in
climb_next d zero t p low e = absurd (omega arith)
climb_next d (suc n) t p low e = let less : suc n - 1 ≡ n = omega arith in rw (less, e) refl

pub ruleset climb_steps = (climb_end, climb_none, climb_next)

-- where a path has an interface first
pub interface_end : (d : DispatchParts) (i : Token) (xs all : List Token) → xs ≡ [] → from_interface_in d i xs ≡ all → xs ≡ all
unfolding from_interface_in
interface_end d i xs all e is = e ∙ (rw e at is)

pub interface_here : (d : DispatchParts) (i t : Token) (xs rest all : List Token) → xs ≡ t ∷ rest → has_interface_in d t i ≡ true → from_interface_in d i xs ≡ all → xs ≡ all
unfolding from_interface_in
interface_here d i t xs rest all e h is = e ∙ (rw h at (rw e at is))

pub interface_next : (d : DispatchParts) (i t : Token) (xs rest all : List Token) → xs ≡ t ∷ rest → has_interface_in d t i ≡ false → from_interface_in d i xs ≡ all → from_interface_in d i rest ≡ all
unfolding from_interface_in
interface_next d i t xs rest all e h is = rw h at (rw e at is)

pub mapped_there : {A B : Type 0} (f : A → B) (o : Option A) → is_some (option_map f o) ≡ is_some o
mapped_there f None = refl
mapped_there f (Some x) = refl

there_by : (o : Option (List Token)) (t c : Token) (xs : List Token) → c ∷ xs ≡ path_with t o → is_some o ≡ true
there_by None t c xs e = absurd cc
there_by (Some rest) t c xs e = refl

some_by : (b : Bool) (o : Option (List Token)) (t c : Token) (xs from : List Token) (later : Bool) → (from ≡ path_with t o → is_some o ≡ later) → (if b then c ∷ xs else from) ≡ path_with t o → is_some o ≡ (b || later)
some_by true o t c xs from later step e = there_by o t c xs e
some_by false o t c xs from later step e = step e

pub interface_there : (d : DispatchParts) (i : Token) (xs : List Token) (t : Token) (o : Option (List Token)) → from_interface_in d i xs ≡ path_with t o → is_some o ≡ list_any (λ (c : Token). has_interface_in d c i) xs
unfolding from_interface_in
interface_there d i [] t None e = refl
interface_there d i [] t (Some rest) e = absurd cc
interface_there d i (c ∷ xs) t o e = some_by (has_interface_in d c i) o t c xs (from_interface_in d i xs) (list_any (λ (c : Token). has_interface_in d c i) xs) (interface_there d i xs t o) e

-- the first place of a class on a path
pub place_end : (base : Token) (xs : List Token) (n : ℕ) (all : Option ℕ) → xs ≡ [] → option_map (λ (k : ℕ). n + k) (place_on base xs) ≡ all → None ≡ all
unfolding place_on
place_end base xs n all e is = rw e at is

pub place_here : (base t : Token) (xs rest : List Token) (n : ℕ) (all : Option ℕ) → xs ≡ t ∷ rest → is_token t base ≡ true → option_map (λ (k : ℕ). n + k) (place_on base xs) ≡ all → Some n ≡ all
unfolding place_on
place_here base t xs rest n all e h is = let f : Some (n + 0) ≡ all = rw h at (rw e at is) in ap (λ (k : ℕ). Some k) (omega arith) ∙ f

later : (n : ℕ) (o : Option ℕ) → option_map (λ (k : ℕ). n + 1 + k) o ≡ option_map (λ (k : ℕ). n + k) (option_map suc o)
later n None = refl
later n (Some k) = ap (λ (j : ℕ). Some j) (omega arith)

pub place_next : (base t : Token) (xs rest : List Token) (n : ℕ) (all : Option ℕ) → xs ≡ t ∷ rest → is_token t base ≡ false → option_map (λ (k : ℕ). n + k) (place_on base xs) ≡ all → option_map (λ (k : ℕ). n + 1 + k) (place_on base rest) ≡ all
unfolding place_on
place_next base t xs rest n all e h is = later n (place_on base rest) ∙ (rw h at (rw e at is))

pub place_start : (o : Option ℕ) → option_map (λ (k : ℕ). 0 + k) o ≡ o
place_start None = refl
place_start (Some k) = ap (λ (j : ℕ). Some j) (omega arith)

pub place_within : (base : Token) (xs : List Token) (n : ℕ) → place_on base xs ≡ Some n → n ≤ length xs
unfolding place_on
place_within base [] n e = absurd cc
place_within base (c ∷ xs) n e = within_by (is_token c base) (place_on base xs) n xs (place_within base xs) e
  where
    within_some : (o : Option ℕ) (n : ℕ) (xs : List Token) → ((k : ℕ) → o ≡ Some k → k ≤ length xs) → option_map suc o ≡ Some n → n ≤ suc (length xs)
    within_some None n xs step e = absurd cc
    within_some (Some k) n xs step e = let f : suc k ≡ n = cc in omega (arith, f, step k refl)

    within_by : (b : Bool) (o : Option ℕ) (n : ℕ) (xs : List Token) → ((k : ℕ) → o ≡ Some k → k ≤ length xs) → (if b then Some 0 else option_map suc o) ≡ Some n → n ≤ suc (length xs)
    within_by true o n xs step e = let f : 0 ≡ n = cc in omega (arith, f)
    within_by false o n xs step e = within_some o n xs step e

-- the n-th class of a path
pub drop_tail : {A : Type 0} (xs : List A) (i : ℕ) (y : A) (ys : List A) → drop i xs ≡ y ∷ ys → (drop (suc i) xs ≡ ys) × (slice_get xs i ≡ Some y)
drop_tail [] zero y ys e = absurd cc
drop_tail [] (suc i) y ys e = absurd cc
drop_tail (x ∷ xs) zero y ys e = (cc, cc)
drop_tail (x ∷ xs) (suc i) y ys e = drop_tail xs i y ys e

pub drop_there : {A : Type 0} (xs : List A) (i : ℕ) → i < length xs → drop i xs ≡ [] → ⊥
drop_there [] i low e = absurd (omega arith)
drop_there (x ∷ xs) zero low e = absurd cc
drop_there (x ∷ xs) (suc i) low e = drop_there xs i (omega arith) e

-- a class stands where a path goes on
stands : (d : DispatchParts) (path : List Token) (i k : ℕ) (t : Token) → i < length path → drop i path ≡ climb_in d k t → (p : ClassPart) × (class_part d t ≡ Some p) × (0 < k)
unfolding climb_in
stands d path i zero t low e = absurd (drop_there path i low e)
stands d path i (suc k) t low e = by_part (class_part d t) refl e
  where
    by_part : (o : Option ClassPart) → class_part d t ≡ o → drop i path ≡ with_class t (climb_in d k) o → (p : ClassPart) × (class_part d t ≡ Some p) × (0 < suc k)
    by_part None is e = absurd (drop_there path i low e)
    by_part (Some p) is e = (p, is, omega arith)

pub nth_start : (d : DispatchParts) (n : ℕ) (t : Token) → drop 0 (climb_in d n t) ≡ climb_in d (n - 0) t
nth_start d n t = let e : n - 0 ≡ n = omega arith in rw e refl

pub nth_step : (d : DispatchParts) (path : List Token) (i all : ℕ) (t new : Token) → i < length path → drop i path ≡ climb_in d (all - i) t → IfSome (class_part d t) (λ p. new ≡ p.base) → drop (i + 1) path ≡ climb_in d (all - (i + 1)) new
nth_step d path i all t new low e next =
    let w = stands d path i (all - i) t low e in
    let one : i + 1 ≡ suc i = omega arith in
    let less : all - i - 1 ≡ all - (i + 1) = omega arith in
    let base : new ≡ w.0.base = rw w.1 at next in
    rw (one, base) ((drop_tail path i t (climb_in d (all - i - 1) w.0.base) (e ∙ climb_next d (all - i) t w.0 w.2 w.1)).0 ∙ ap (λ k. climb_in d k w.0.base) (less ∙ ap (λ k. all - k) one))

pub nth_end : (d : DispatchParts) (path : List Token) (i k : ℕ) (t : Token) → i < length path → drop i path ≡ climb_in d k t → slice_get path i ≡ Some t
nth_end d path i k t low e =
    let w = stands d path i k t low e in
    (drop_tail path i t (climb_in d (k - 1) w.0.base) (e ∙ climb_next d k t w.0 w.2 w.1)).1

pub ruleset nth_steps = (nth_start, nth_step, nth_end)
