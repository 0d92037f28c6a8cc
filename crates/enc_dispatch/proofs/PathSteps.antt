-- Climbs over a path of a module's classes, step by step.
use Rattle.std.proofs.Common.{◌≡◌, ℕ, zero, suc, ◌+◌, ◌-◌, ◌<◌, Bool, true, false, List, [], ◌∷◌, length, drop, Some, slice_get, refl, sym, ap, ◌∙◌, arith}
use Rattle.std.specs.Prelude.{◌==◌, if◌then◌else◌}
use Rattle.std.proofs.lemmas.Bool.{and_parts}
use Rattle.std.proofs.lemmas.Bool.Decides.{nat_tests}
use Rattle.enc_base.specs.declared.token.Token.{Token}
use Rattle.enc_plain.specs.Module.{Module, has_row}
use Rattle.enc_base.specs.Tables as tables
use Rattle.enc_plain.specs.ClassPath.{is_class, class_base, climb}
use Rattle.enc_dispatch.specs.Interfaces.{has_interface}
use Rattle.enc_dispatch.specs.Target.{from_interface}
use Rattle.enc_dispatch.proofs.Climbs.{drop_tail, drop_there}

-- at its end, at what is no class, and at a class
pub left_end : (m : Module) (n : ℕ) (t : Token) → n ≡ 0 → climb m n t ≡ []
unfolding climb
left_end m n t e = rw e refl

pub left_none : (m : Module) (n : ℕ) (t : Token) → is_class m t ≡ false → climb m n t ≡ []
unfolding climb
left_none m zero t e = refl
left_none m (suc n) t e = rw e refl

left_class : (m : Module) (n : ℕ) (t : Token) → 0 < n → is_class m t ≡ true → climb m n t ≡ t ∷ climb m (n - 1) (class_base m t)
unfolding climb
left_class m zero t low e = absurd (omega arith)
left_class m (suc n) t low e = let less : suc n - 1 ≡ n = omega arith in rw (less, e) refl

is_type : (m : Module) (t : Token) → is_class m t ≡ true → t.table ≡ tables.type_def
is_type m t e = let both = and_parts (t.table == tables.type_def) (has_row m t) e in grind (arith, nat_tests)

pub left_next : (m : Module) (n : ℕ) (t base : Token) → 0 < n → is_class m t ≡ true → (t.table ≡ tables.type_def → base ≡ class_base m t) → climb m n t ≡ t ∷ climb m (n - 1) base
left_next m n t base low e is = left_class m n t low e ∙ ap (λ u. t ∷ climb m (n - 1) u) (sym (is (is_type m t e)))

pub ruleset left_steps = (left_end, left_none, left_next)

-- where a path has an interface first
pub interface_end : (m : Module) (i : Token) (xs all : List Token) → xs ≡ [] → from_interface m i xs ≡ all → xs ≡ all
unfolding from_interface
interface_end m i xs all e is = e ∙ (rw e at is)

pub interface_here : (m : Module) (i t : Token) (xs rest all : List Token) → xs ≡ t ∷ rest → has_interface m t i ≡ true → from_interface m i xs ≡ all → xs ≡ all
unfolding from_interface
interface_here m i t xs rest all e h is = e ∙ (rw h at (rw e at is))

pub interface_next : (m : Module) (i t : Token) (xs rest all : List Token) → xs ≡ t ∷ rest → has_interface m t i ≡ false → from_interface m i xs ≡ all → from_interface m i rest ≡ all
unfolding from_interface
interface_next m i t xs rest all e h is = rw h at (rw e at is)

-- a class stands where a path goes on
stands : (m : Module) (path : List Token) (i k : ℕ) (t : Token) → i < length path → drop i path ≡ climb m k t → (is_class m t ≡ true) × (0 < k)
unfolding climb
stands m path i zero t low e = absurd (drop_there path i low e)
stands m path i (suc k) t low e = by_class (is_class m t) refl e
  where
    by_class : (b : Bool) → is_class m t ≡ b → drop i path ≡ (if b then t ∷ climb m k (class_base m t) else []) → (is_class m t ≡ true) × (0 < suc k)
    by_class false is e = absurd (drop_there path i low e)
    by_class true is e = (is, omega arith)

pub nth_start : (m : Module) (n : ℕ) (t : Token) → drop 0 (climb m n t) ≡ climb m (n - 0) t
nth_start m n t = let e : n - 0 ≡ n = omega arith in rw e refl

pub nth_step : (m : Module) (path : List Token) (i all : ℕ) (t new : Token) → i < length path → drop i path ≡ climb m (all - i) t → (t.table ≡ tables.type_def → new ≡ class_base m t) → drop (i + 1) path ≡ climb m (all - (i + 1)) new
nth_step m path i all t new low e next =
    let w = stands m path i (all - i) t low e in
    let one : i + 1 ≡ suc i = omega arith in
    let less : all - i - 1 ≡ all - (i + 1) = omega arith in
    rw one ((drop_tail path i t (climb m (all - i - 1) new) (e ∙ left_next m (all - i) t new w.1 w.0 next)).0 ∙ ap (λ k. climb m k new) (less ∙ ap (λ k. all - k) one))

pub nth_end : (m : Module) (path : List Token) (i k : ℕ) (t : Token) → i < length path → drop i path ≡ climb m k t → slice_get path i ≡ Some t
nth_end m path i k t low e =
    let w = stands m path i k t low e in
    (drop_tail path i t (climb m (k - 1) (class_base m t)) (e ∙ left_class m k t w.1 w.0)).1

pub ruleset nth_steps = (nth_start, nth_step, nth_end)
