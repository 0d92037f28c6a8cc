-- What the index reads of the rows that were there stays, where each listed row keeps it.
use Rattle.std.proofs.Common.{◌≡◌, ℕ, zero, suc, ◌+◌, ◌≤◌, Bool, true, false, List, [], ◌∷◌, ◌++◌, Option, Some, None, slice_get, refl, sym, ap, subst, ◌∙◌, inl, inr, ◌⊎◌, arith}
use Rattle.std.specs.Prelude.{◌&&◌, ◌||◌, ◌==◌, bytes_eq, nat_le, cond, count_by, flat_map, length, if◌then◌else◌}
use Rattle.std.specs.List.{list_any, list_all}
use Rattle.std.proofs.lemmas.Bool.{and_parts, or_cases, or_left, or_right, eqb-true}
use Rattle.std.proofs.lemmas.Bool.Decides.{nat_tests}
use Rattle.std.proofs.lemmas.Slice.Eq.{bytes_eq-Decides}
use Rattle.enc_base.specs.Token.{is_token}
use Rattle.enc_base.specs.declared.token.Token.{Token}
use Rattle.enc_plain.specs.Alike.{signatures_alike}
use Rattle.enc_plain.specs.Module.{Module, Row, rows_in, row_at, row_of, has_row, cells_of, kids_at, kids_with, kids_of, owner_of}
use Rattle.enc_plain.specs.Rows.{number_at, bytes_at, token_at}
use Rattle.enc_plain.specs.Sound.{row_count, all_kids, IsSound}
use Rattle.enc_plain.proofs.Applied.{same_is}
use Rattle.enc_plain.proofs.Owned.{count_cons, count_append, kid_owner, has_owner}
use Rattle.enc_schema.specs.Children.{is_child_table, owner_table}
use Rattle.enc_dispatch.specs.Changed.{is_listed, IsChangedBy}
use Rattle.enc_dispatch.specs.Keeps.{most_compared, keeps_signature, keeps_method, keeps_class, is_read_by_likeness, is_read, keeps_row, keeps}
use Rattle.enc_dispatch.specs.Walks.{method_at}
use Rattle.enc_dispatch.proofs.Equivalence.{equal_alike}
use Rattle.enc_dispatch.proofs.References.{RefsStay, number_by, bytes_by, token_by}

-- what is read of a method and of a class
pub record MethodStays (m n : Module) (u : Token) : Type 0 where
  pub flags : number_at (cells_of n) u 2 ≡ number_at (cells_of m) u 2
  pub name : bytes_at (cells_of n) u 3 ≡ bytes_at (cells_of m) u 3
  pub signature : signatures_alike (cells_of n) 0x06 (bytes_at (cells_of m) u 4) (bytes_at (cells_of n) u 4) ≡ true

pub record ClassStays (m n : Module) (u : Token) : Type 0 where
  pub flags : number_at (cells_of n) u 0 ≡ number_at (cells_of m) u 0
  pub base : token_at (cells_of n) u 3 ≡ token_at (cells_of m) u 3

pub record IsKept (m n : Module) : Type 0 where
  pub counts : (table : ℕ) → row_count m table ≤ row_count n table
  pub refs : RefsStay m n
  pub impls : (u : Token) → has_row m u ≡ true → u.table ≡ 0x19 → cells_of n u ≡ cells_of m u
  pub interfaces : (u : Token) → has_row m u ≡ true → u.table ≡ 0x09 → cells_of n u ≡ cells_of m u
  pub locals : (u : Token) → has_row m u ≡ true → u.table ≡ 0x11 → cells_of n u ≡ cells_of m u
  pub classes : (u : Token) → has_row m u ≡ true → u.table ≡ 0x02 → ClassStays m n u
  pub methods : (u : Token) → has_row m u ≡ true → u.table ≡ 0x06 → MethodStays m n u

-- a listed row keeps what is read
keeps_listed : (m n : Module) (listed : List Token) (u : Token) → list_all (keeps m n) listed ≡ true → is_listed listed u ≡ true → keeps m n u ≡ true
keeps_listed m n [] u all is = absurd cc
keeps_listed m n (t ∷ rest) u all is =
    let a = and_parts (keeps m n t) (list_all (keeps m n) rest) all in
    elim (or_cases (is_token t u) (is_listed rest u) is) [
      | inl same ↦ subst (λ v. keeps m n v ≡ true) (same_is t u same) a.0
      | inr later ↦ keeps_listed m n rest u a.1 later
    ]

row_keeps : (m n : Module) (listed : List Token) (u : Token) → list_all (keeps m n) listed ≡ true → has_row m u ≡ true → is_listed listed u ≡ true → keeps_row m n u ≡ true
unfolding keeps
row_keeps m n listed u all there is = let k = keeps_listed m n listed u all is in rw there at k

eq_of : (a b : ℕ) → (a == b) ≡ true → a ≡ b
eq_of a b h = eqb-true a b h

back : (a b : ℕ) → (a == b) ≡ true → b ≡ a
back a b h = sym (eqb-true a b h)

bytes_back : (a b : List ℕ) → bytes_eq a b ≡ true → b ≡ a
bytes_back a b h = sym ((bytes_eq-Decides a b).0 h)

signature_told : (m n : Module) (u : Token) → keeps_signature m n u ≡ true → signatures_alike (cells_of n) 0x06 (bytes_at (cells_of m) u 4) (bytes_at (cells_of n) u 4) ≡ true
unfolding keeps_signature
signature_told m n u h =
    let alike = signatures_alike (cells_of n) 0x06 (bytes_at (cells_of m) u 4) (bytes_at (cells_of n) u 4) in
    let short = nat_le (length (bytes_at (cells_of m) u 4)) most_compared in
    elim (or_cases (bytes_eq (bytes_at (cells_of m) u 4) (bytes_at (cells_of n) u 4)) (short && alike) h) [
      | inl same ↦ equal_alike (cells_of n) (bytes_at (cells_of m) u 4) (bytes_at (cells_of n) u 4) ((bytes_eq-Decides (bytes_at (cells_of m) u 4) (bytes_at (cells_of n) u 4)).0 same)
      | inr other ↦ (and_parts short alike other).1
    ]

method_told : (m n : Module) (u : Token) → keeps_method m n u ≡ true → MethodStays m n u
unfolding keeps_method
method_told m n u h =
    let a = and_parts (number_at (cells_of m) u 2 == number_at (cells_of n) u 2 && bytes_eq (bytes_at (cells_of m) u 3) (bytes_at (cells_of n) u 3)) (keeps_signature m n u) h in
    let b = and_parts (number_at (cells_of m) u 2 == number_at (cells_of n) u 2) (bytes_eq (bytes_at (cells_of m) u 3) (bytes_at (cells_of n) u 3)) a.0 in
    record {
      flags = back (number_at (cells_of m) u 2) (number_at (cells_of n) u 2) b.0;
      name = bytes_back (bytes_at (cells_of m) u 3) (bytes_at (cells_of n) u 3) b.1;
      signature = signature_told m n u a.1;
    }

class_told : (m n : Module) (u : Token) → keeps_class m n u ≡ true → ClassStays m n u
unfolding keeps_class
class_told m n u h =
    let a = and_parts (number_at (cells_of m) u 0 == number_at (cells_of n) u 0) (is_token (token_at (cells_of m) u 3) (token_at (cells_of n) u 3)) h in
    record {
      flags = back (number_at (cells_of m) u 0) (number_at (cells_of n) u 0) a.0;
      base = sym (same_is (token_at (cells_of m) u 3) (token_at (cells_of n) u 3) a.1);
    }

method_row : (m n : Module) (u : Token) → u.table ≡ 0x06 → keeps_row m n u ≡ true → keeps_method m n u ≡ true
unfolding keeps_row
method_row m n u e h = let test : (u.table == 0x06) ≡ true = ap (λ t. t == 0x06) e in rw test at h

class_row : (m n : Module) (u : Token) → u.table ≡ 0x02 → keeps_row m n u ≡ true → keeps_class m n u ≡ true
unfolding keeps_row
class_row m n u e h =
    let not_method : (u.table == 0x06) ≡ false = ap (λ t. t == 0x06) e in
    let test : (u.table == 0x02) ≡ true = ap (λ t. t == 0x02) e in
    rw (not_method, test) at h

-- a row of the other tables isn't listed
not_kept : (m n : Module) (u : Token) (x y z : Bool) → (u.table == 0x06) ≡ x → (u.table == 0x02) ≡ y → is_read u.table ≡ z → (x ≡ true → ⊥) → (y ≡ true → ⊥) → z ≡ true → keeps_row m n u ≡ true → ⊥
unfolding keeps_row
not_kept m n u true y z ex ey ez first second is h = first refl
not_kept m n u false true z ex ey ez first second is h = second refl
not_kept m n u false false z ex ey ez first second is h = let f = rw (ex, ey, ez, is) at h in absurd cc

not_at : (t k : ℕ) (test : ℕ → Bool) → (t == k) ≡ true → test t ≡ true → test k ≡ false → ⊥
not_at t k test e h other = let f : test k ≡ true = subst (λ j. test j ≡ true) (eqb-true t k e) h in let g : true ≡ false = sym f ∙ other in absurd cc

read_stays : (m n : Module) (listed : List Token) (u : Token) → IsChangedBy m n listed → list_all (keeps m n) listed ≡ true → has_row m u ≡ true → is_read u.table ≡ true → cells_of n u ≡ cells_of m u
read_stays m n listed u changed all there read = by_listed (is_listed listed u) refl
  where
    by_listed : (b : Bool) → is_listed listed u ≡ b → cells_of n u ≡ cells_of m u
    by_listed false e = changed.same u there e
    by_listed true e =
        absurd (not_kept m n u (u.table == 0x06) (u.table == 0x02) (is_read u.table) refl refl refl (λ x. not_at u.table 0x06 is_read x read refl) (λ y. not_at u.table 0x02 is_read y read refl) read (row_keeps m n listed u all there e))

reference_read : (t : ℕ) → is_read_by_likeness t ≡ true → is_read t ≡ true
reference_read t h =
    or_left (is_read_by_likeness t || t == 0x19 || t == 0x09) (t == 0x11) (or_left (is_read_by_likeness t || t == 0x19) (t == 0x09) (or_left (is_read_by_likeness t) (t == 0x19) h))

pub kept : (m n : Module) (listed : List Token) → IsChangedBy m n listed → list_all (keeps m n) listed ≡ true → IsKept m n
kept m n listed changed all = record {
  counts = changed.counts;
  refs = λ u there is. read_stays m n listed u changed all there (reference_read u.table is);
  impls = λ u there e. read_stays m n listed u changed all there (ap is_read e);
  interfaces = λ u there e. read_stays m n listed u changed all there (ap is_read e);
  locals = λ u there e. read_stays m n listed u changed all there (ap is_read e);
  classes = λ u there e. class_by u there e (is_listed listed u) refl;
  methods = λ u there e. method_by u there e (is_listed listed u) refl;
}
  where
    class_by : (u : Token) → has_row m u ≡ true → u.table ≡ 0x02 → (b : Bool) → is_listed listed u ≡ b → ClassStays m n u
    class_by u there e true is = class_told m n u (class_row m n u e (row_keeps m n listed u all there is))
    class_by u there e false is = let same = changed.same u there is in record { flags = number_by (cells_of n) (cells_of m) u 0 same; base = token_by (cells_of n) (cells_of m) u 3 same }

    method_by : (u : Token) → has_row m u ≡ true → u.table ≡ 0x06 → (b : Bool) → is_listed listed u ≡ b → MethodStays m n u
    method_by u there e true is = method_told m n u (method_row m n u e (row_keeps m n listed u all there is))
    method_by u there e false is =
        let same = changed.same u there is in
        record {
          flags = number_by (cells_of n) (cells_of m) u 2 same;
          name = bytes_by (cells_of n) (cells_of m) u 3 same;
          signature = equal_alike (cells_of n) (bytes_at (cells_of m) u 4) (bytes_at (cells_of n) u 4) (sym (bytes_by (cells_of n) (cells_of m) u 4 same));
        }

-- children are rows
counted_some : (p : ℕ → Bool) (xs : List ℕ) → list_any p xs ≡ true → 1 ≤ count_by p xs
counted_some p [] h = absurd cc
counted_some p (x ∷ xs) h = by_test (p x) refl (count_cons p x xs) (or_cases (p x) (list_any p xs) h) (counted_some p xs)
  where
    by_test : (b : Bool) → p x ≡ b → count_by p (x ∷ xs) ≡ cond (p x) 1 0 + count_by p xs → (p x ≡ true) ⊎ (list_any p xs ≡ true) → (list_any p xs ≡ true → 1 ≤ count_by p xs) → 1 ≤ count_by p (x ∷ xs)
    by_test true e count either step = let f : count_by p (x ∷ xs) ≡ 1 + count_by p xs = count ∙ ap (λ b. cond b 1 0 + count_by p xs) e in omega (arith, f)
    by_test false e count (inl here) step = let f : true ≡ false = sym here ∙ e in absurd cc
    by_test false e count (inr later) step = let f : count_by p (x ∷ xs) ≡ 0 + count_by p xs = count ∙ ap (λ b. cond b 1 0 + count_by p xs) e in omega (arith, f, step later)

in_rows : (p : ℕ → Bool) (f : Row → List ℕ) (rows : List Row) (i : ℕ) (x : Row) → slice_get rows i ≡ Some x → list_any p (f x) ≡ true → 1 ≤ count_by p (flat_map f rows)
in_rows p f [] i x e h = absurd cc
in_rows p f (r ∷ rows) zero x e h =
    let is : r ≡ x = cc in
    let some = counted_some p (f r) (rw is h) in
    omega (arith, count_append p (f r) (flat_map f rows), some)
in_rows p f (r ∷ rows) (suc i) x e h = omega (arith, count_append p (f r) (flat_map f rows), in_rows p f rows i x e h)

cond_some : (n : ℕ) (b : Bool) → n ≡ cond b 1 0 → 1 ≤ n → b ≡ true
cond_some n true e some = refl
cond_some n false e some = absurd (omega (arith, e, some))

row_places : (table k : ℕ) (rows : List Row) (row : ℕ) → list_any (λ j. j == k) (kids_with (row_at rows row) table) ≡ true → 1 ≤ count_by (λ j. j == k) (flat_map (λ (r : Row). kids_at r table) rows)
row_places table k rows zero h = absurd cc
row_places table k rows (suc i) h = by_row (slice_get rows i) refl h
  where
    by_row : (o : Option Row) → slice_get rows i ≡ o → list_any (λ j. j == k) (kids_with o table) ≡ true → 1 ≤ count_by (λ j. j == k) (flat_map (λ (r : Row). kids_at r table) rows)
    by_row None e h = absurd cc
    by_row (Some x) e h = in_rows (λ j. j == k) (λ (r : Row). kids_at r table) rows i x e h

kid_counted : (m : Module) (u : Token) (table k : ℕ) → is_child_table table ≡ true → list_any (λ j. j == k) (kids_of m u table) ≡ true → 1 ≤ count_by (λ j. j == k) (all_kids m table)
unfolding kids_of row_of
kid_counted m u table k child h = by_table (u.table == owner_table table) refl (rw child at h)
  where
    by_table : (b : Bool) → (u.table == owner_table table) ≡ b → list_any (λ j. j == k) (if b then kids_with (row_at (rows_in m u.table) u.row) table else []) ≡ true → 1 ≤ count_by (λ j. j == k) (all_kids m table)
    by_table false e h = absurd cc
    by_table true e h =
        let is : u.table ≡ owner_table table = eq_of u.table (owner_table table) e in
        subst (λ t. 1 ≤ count_by (λ j. j == k) (flat_map (λ (r : Row). kids_at r table) (rows_in m t))) is (row_places table k (rows_in m u.table) u.row h)

pub kid_there : (m : Module) (u : Token) (k : ℕ) → IsSound m → list_any (λ j. j == k) (kids_of m u 0x06) ≡ true → has_row m (method_at k) ≡ true
unfolding has_row
kid_there m u k sound h =
    let b = cond_some (count_by (λ j. j == k) (all_kids m 0x06)) (nat_le 1 k && nat_le k (length (rows_in m 0x06))) (sound.owners.owned.once 0x06 k refl) (kid_counted m u 0x06 k refl h) in
    grind (arith, nat_tests, b)

-- a list each of whose rows is a method that is there
abbrev pub AllThere : Module → List ℕ → Type 0
AllThere m [] = Unit {0}
AllThere m (x ∷ xs) = (has_row m (method_at x) ≡ true) × AllThere m xs

all_there : (m : Module) (xs : List ℕ) → ((k : ℕ) → list_any (λ j. j == k) xs ≡ true → has_row m (method_at k) ≡ true) → AllThere m xs
all_there m [] each = tt
all_there m (x ∷ xs) each = (
  each x (or_left (x == x) (list_any (λ j. j == x) xs) (grind (arith, nat_tests))),
  all_there m xs (λ k later. each k (or_right (x == k) (list_any (λ j. j == k) xs) later)),
)

pub kids_there : (m : Module) (u : Token) → IsSound m → AllThere m (kids_of m u 0x06)
kids_there m u sound = all_there m (kids_of m u 0x06) (λ k h. kid_there m u k sound h)

-- a method keeps its owner
any_left : (p : ℕ → Bool) (xs ys : List ℕ) → list_any p xs ≡ true → list_any p (xs ++ ys) ≡ true
any_left p [] ys h = absurd cc
any_left p (x ∷ xs) ys h = elim (or_cases (p x) (list_any p xs) h) [
  | inl here ↦ or_left (p x) (list_any p (xs ++ ys)) here
  | inr later ↦ or_right (p x) (list_any p (xs ++ ys)) (any_left p xs ys later)
]

method_child : is_child_table 0x06 ≡ true
method_child = refl

pub row_bounds : (m : Module) (k : ℕ) → has_row m (method_at k) ≡ true → (1 ≤ k) × (k ≤ length (rows_in m 0x06))
unfolding has_row
row_bounds m k h = (grind (arith, nat_tests), grind (arith, nat_tests))

pub owner_kept : (m n : Module) (listed : List Token) (k : ℕ) → IsSound m → IsSound n → IsChangedBy m n listed → has_row m (method_at k) ≡ true → owner_of n (method_at k) ≡ owner_of m (method_at k)
owner_kept m n listed k sound new changed there =
    let low = row_bounds m k there in
    let w = has_owner m (method_at k) sound.owners.owned method_child low.0 low.1 in
    let kids = changed.kids w.owner 0x06 in
    let has : list_any (λ j. j == k) (kids_of n w.owner 0x06) ≡ true = rw kids.1 (any_left (λ j. j == k) (kids_of m w.owner 0x06) kids.0 w.has) in
    kid_owner n w.owner (method_at k) new.owners.owned method_child has ∙ sym w.is
