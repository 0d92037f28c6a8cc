-- The walks over a module, step by step.
use Rattle.std.proofs.Common.{◌≡◌, ℕ, zero, suc, ◌+◌, ◌-◌, ◌<◌, ◌≤◌, Bool, true, false, List, [], ◌∷◌, length, drop, take, filter, reverse, Option, Some, None, option_map, slice_get, refl, sym, ap, ◌∙◌, arith}
use Rattle.std.specs.Prelude.{◌&&◌, ◌==◌, if◌then◌else◌}
use Rattle.enc_base.specs.declared.token.Token.{Token}
use Rattle.enc_plain.specs.Module.{Module, Row, row_of, has_row, kids_with, kids_of}
use Rattle.enc_plain.proofs.CellsOf.{has_cells}
use Rattle.enc_plain.specs.ClassPath.{is_class, path_of}
use Rattle.enc_dispatch.specs.Target.{turn, go_on, walk_down, class_target, given_by, first_given}
use Rattle.enc_dispatch.specs.Walked.{place_on}
use Rattle.enc_dispatch.specs.Walks.{method_at, first_method}
use Rattle.enc_dispatch.proofs.Reached.{before_is}
use Rattle.enc_dispatch.proofs.Turns.{reversed}

-- the walk down, at its end and a class further
pub walk_end : (m : Module) (declared : Token) (path : List Token) (left : ℕ) (current end : Token) → left ≡ 0 → walk_down m declared (reverse (take left path)) current ≡ end → current ≡ end
unfolding walk_down
walk_end m declared path left current end e is = rw e at is

walk_suc : (m : Module) (declared : Token) (path : List Token) (i : ℕ) (t current end : Token) (o : Option Token) → slice_get path i ≡ Some t → turn m declared current t ≡ o → walk_down m declared (reverse (take (suc i) path)) current ≡ end → go_on current (walk_down m declared (reverse (take i path))) o ≡ end
unfolding walk_down
walk_suc m declared path i t current end o at is e = rw is at (rw (reversed path i t at) at e)

pub walk_step : (m : Module) (declared : Token) (path : List Token) (left : ℕ) (t current end : Token) (o : Option Token) → 0 < left → slice_get path (left - 1) ≡ Some t → turn m declared current t ≡ o → walk_down m declared (reverse (take left path)) current ≡ end → go_on current (walk_down m declared (reverse (take (left - 1) path))) o ≡ end
walk_step m declared path left t current end o low at is e =
    let more : left ≡ suc (left - 1) = omega arith in
    walk_suc m declared path (left - 1) t current end o at is (ap (λ n. walk_down m declared (reverse (take n path)) current) (sym more) ∙ e)

-- the class walk, by the place of the declaring class
class_walk : (m : Module) (class declaring declared : Token) (o : Option ℕ) → place_on declaring (path_of m class) ≡ o → option_map (λ (n : ℕ). walk_down m declared (reverse (take n (path_of m class))) declared) o ≡ class_target m class declaring declared
unfolding class_target
class_walk m class declaring declared o is = rw (before_is declaring (path_of m class), is) (mapped o)
  where
    mapped : (o : Option ℕ) → option_map (λ (n : ℕ). walk_down m declared (reverse (take n (path_of m class))) declared) o ≡ option_map (λ (below : List Token). walk_down m declared (reverse below) declared) (option_map (λ (n : ℕ). take n (path_of m class)) o)
    mapped None = refl
    mapped (Some n) = refl

pub class_none : (m : Module) (class declaring declared : Token) → place_on declaring (path_of m class) ≡ None → class_target m class declaring declared ≡ None
class_none m class declaring declared is = sym (class_walk m class declaring declared None is)

pub class_some : (m : Module) (class declaring declared : Token) (n : ℕ) → place_on declaring (path_of m class) ≡ Some n → class_target m class declaring declared ≡ Some (walk_down m declared (reverse (take n (path_of m class))) declared)
class_some m class declaring declared n is = sym (class_walk m class declaring declared (Some n) is)

-- the first class that gives a method
pub given_end : (m : Module) (declared : Token) (xs : List Token) (all : Option (Token × Token)) → xs ≡ [] → first_given m declared xs ≡ all → None ≡ all
unfolding first_given
given_end m declared xs all e is = rw e at is

pub given_here : (m : Module) (declared t : Token) (xs rest : List Token) (method : Token) (all : Option (Token × Token)) → xs ≡ t ∷ rest → given_by m declared t ≡ Some method → first_given m declared xs ≡ all → Some (t, method) ≡ all
unfolding first_given
given_here m declared t xs rest method all e h is = rw h at (rw e at is)

pub given_next : (m : Module) (declared t : Token) (xs rest : List Token) (all : Option (Token × Token)) → xs ≡ t ∷ rest → given_by m declared t ≡ None → first_given m declared xs ≡ all → first_given m declared rest ≡ all
unfolding first_given
given_next m declared t xs rest all e h is = rw h at (rw e at is)

-- the first of some methods, given by their rows, that passes a test
abbrev pub first_of_rows : (Token → Bool) → List ℕ → Option Token
first_of_rows test rows = option_map method_at (slice_get (filter (λ (row : ℕ). test (method_at row)) rows) 0)

cut : (xs : List ℕ) (i x : ℕ) → slice_get xs i ≡ Some x → drop i xs ≡ x ∷ drop (i + 1) xs
cut [] i x e = absurd cc
cut (y ∷ xs) zero x e = let f : y ≡ x = cc in rw f refl
cut (y ∷ xs) (suc i) x e = let more : suc i + 1 ≡ suc (i + 1) = omega arith in rw more (cut xs i x e)

rows_by : (test : Token → Bool) (x : ℕ) (xs : List ℕ) (b : Bool) (all : Option Token) → test (method_at x) ≡ b → first_of_rows test (x ∷ xs) ≡ all → (if b then Some (method_at x) else first_of_rows test xs) ≡ all
rows_by test x xs true all is e = rw is at e
rows_by test x xs false all is e = rw is at e

rows_step : (test : Token → Bool) (xs : List ℕ) (i x : ℕ) (b : Bool) (all : Option Token) → slice_get xs i ≡ Some x → test (method_at x) ≡ b → first_of_rows test (drop i xs) ≡ all → (if b then Some (method_at x) else first_of_rows test (drop (i + 1) xs)) ≡ all
rows_step test xs i x b all at is e = rows_by test x (drop (i + 1) xs) b all is (ap (first_of_rows test) (sym (cut xs i x at)) ∙ e)

pub method_is : (t : Token) → t.table ≡ 0x06 → t ≡ method_at t.row
method_is t e = ap (λ n. record { table = n; row = t.row }) e

pub method_here : (test : Token → Bool) (xs : List ℕ) (i : ℕ) (t : Token) (all : Option Token) → t.table ≡ 0x06 → slice_get xs i ≡ Some t.row → test t ≡ true → first_of_rows test (drop i xs) ≡ all → Some t ≡ all
method_here test xs i t all table at is e = ap (λ u. Some u) (method_is t table) ∙ rows_step test xs i t.row true all at (ap test (sym (method_is t table)) ∙ is) e

pub method_next : (test : Token → Bool) (xs : List ℕ) (i : ℕ) (t : Token) (all : Option Token) → t.table ≡ 0x06 → slice_get xs i ≡ Some t.row → test t ≡ false → first_of_rows test (drop i xs) ≡ all → first_of_rows test (drop (i + 1) xs) ≡ all
method_next test xs i t all table at is e = rows_step test xs i t.row false all at (ap test (sym (method_is t table)) ∙ is) e

past : (xs : List ℕ) (i : ℕ) → length xs ≤ i → drop i xs ≡ []
past [] zero e = refl
past [] (suc i) e = refl
past (x ∷ xs) zero e = absurd (omega arith)
past (x ∷ xs) (suc i) e = past xs i (omega arith)

pub method_end : (test : Token → Bool) (xs : List ℕ) (i : ℕ) (all : Option Token) → length xs ≤ i → first_of_rows test (drop i xs) ≡ all → None ≡ all
method_end test xs i all low e = rw (past xs i low) at e

-- what is no class has no methods
no_row : (m : Module) (t : Token) → has_row m t ≡ false → row_of m t ≡ None
no_row m t absent = by_row (row_of m t) refl
  where
    by_row : (o : Option Row) → row_of m t ≡ o → row_of m t ≡ None
    by_row None e = e
    by_row (Some r) e = let f : true ≡ false = sym (has_cells m t ∙ rw e refl) ∙ absent in absurd cc

no_kids : (m : Module) (class : Token) → is_class m class ≡ false → kids_of m class 0x06 ≡ []
unfolding kids_of
no_kids m class absent = by_table (class.table == 0x02) absent
  where
    by_table : (b : Bool) → (b && has_row m class) ≡ false → (if b then kids_with (row_of m class) 0x06 else []) ≡ []
    by_table false absent = refl
    by_table true absent = rw (no_row m class absent) refl

pub no_methods : (m : Module) (test : Token → Bool) (class : Token) → is_class m class ≡ false → first_method m test class ≡ None
unfolding first_method
no_methods m test class absent = rw (no_kids m class absent) refl

pub ruleset class_steps = (class_none, class_some)
