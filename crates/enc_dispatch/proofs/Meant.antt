-- The walks over the index are those over the module that it stands for.
use Rattle.std.proofs.Common.{◌≡◌, ℕ, zero, suc, ◌+◌, ◌<◌, ◌≤◌, Bool, true, false, List, [], ◌∷◌, ◌++◌, length, take, reverse, Option, Some, None, IsTrue, IfSome, is_some, option_map, slice_get, refl, sym, ap, subst, ◌∙◌, arith}
use Rattle.std.specs.Prelude.{◌&&◌, ◌||◌, ◌==◌, nat_lt, nat_le, if◌then◌else◌}
use Rattle.std.specs.List.{list_any}
use Rattle.std.proofs.lemmas.Bool.{and_parts}
use Rattle.std.proofs.lemmas.Bool.Decides.{nat_tests}
use Rattle.std.proofs.lemmas.List.{reverse-append}
use Rattle.enc_base.specs.Order.{or_else, first_below}
use Rattle.enc_base.specs.Token.{nth_row, is_token}
use Rattle.enc_base.specs.declared.token.Token.{Token}
use Rattle.enc_base.proofs.First.{first_suc, first_none}
use Rattle.enc_plain.specs.Module.{Module, rows_in, has_row}
use Rattle.enc_plain.specs.Sound.{row_count}
use Rattle.enc_base.specs.Tables as tables
use Rattle.enc_dispatch.specs.declared.class_part.ClassPart.{ClassPart}
use Rattle.enc_dispatch.specs.declared.impl_part.ImplPart.{ImplPart}
use Rattle.enc_plain.specs.ClassPath.{is_class, class_base, climb, path_of, is_on_path, extends}
use Rattle.enc_dispatch.specs.Interfaces.{has_interface, says_interface, implements}
use Rattle.enc_dispatch.specs.Walks.{impl_class, impl_body, impl_declaration, impl_at, impl_of, method_at}
use Rattle.enc_dispatch.specs.Target.{from_interface, is_interface}
use Rattle.enc_dispatch.specs.Index.{StandsForModule}
use Rattle.enc_dispatch.specs.Stored.{DispatchParts, class_at, impl_for}
use Rattle.enc_dispatch.specs.Parts.{nth_part}
use Rattle.enc_dispatch.specs.Walked.{class_part, with_class, climb_in, path_in, extends_in, has_interface_in, implements_in, earlier_impl, body_row, impl_in, from_interface_in}

-- a part is there where its row is
part_there : {A : Type 0} (xs : List A) (i : ℕ) → i < length xs → (p : A) × (slice_get xs i ≡ Some p)
part_there [] i low = absurd (omega arith)
part_there (x ∷ xs) zero low = (x, refl)
part_there (x ∷ xs) (suc i) low = part_there xs i (omega arith)

part_past : {A : Type 0} (xs : List A) (i : ℕ) → length xs ≤ i → slice_get xs i ≡ None
part_past [] i high = refl
part_past (x ∷ xs) zero high = absurd (omega arith)
part_past (x ∷ xs) (suc i) high = part_past xs i (omega arith)

-- the n-th part from 1 of as many as a table has rows
pub record HasPart {A : Type 0} (xs : List A) (t : Token) : Type 0 where
  pub place : ℕ
  pub part : A
  pub is : nth_part xs t.row ≡ Some part
  pub row : t ≡ nth_row t.table place
  pub at : slice_get xs place ≡ Some part

row_low : (r n : ℕ) → (nat_lt 0 r && nat_le r n) ≡ true → (0 < r) × (r ≤ n)
row_low r n h = (grind (arith, nat_tests), grind (arith, nat_tests))

has_part_at : {A : Type 0} (xs : List A) (table r : ℕ) → 0 < r → r ≤ length xs → HasPart xs (record { table = table; row = r })
has_part_at xs table zero low high = absurd (omega arith)
has_part_at xs table (suc i) low high =
    let w = part_there xs i (omega arith) in
    let e : suc i ≡ i + 1 = omega arith in
    record { place = i; part = w.0; is = w.1; row = ap (λ r. record { table = table; row = r }) e; at = w.1 }

pub has_part : {A : Type 0} (xs : List A) (m : Module) (t : Token) → length xs ≡ row_count m t.table → has_row m t ≡ true → HasPart xs t
unfolding has_row
has_part xs m t size there =
    let w = row_low t.row (length (rows_in m t.table)) there in
    has_part_at xs t.table t.row w.0 (omega (arith, w.1, size))

no_part_at : {A : Type 0} (xs : List A) (r n : ℕ) → length xs ≡ n → (nat_lt 0 r && nat_le r n) ≡ false → nth_part xs r ≡ None
no_part_at xs zero n size h = refl
no_part_at xs (suc i) n size h = let high : n < suc i = grind (arith, nat_tests) in part_past xs i (omega (arith, high, size))

no_part : {A : Type 0} (xs : List A) (m : Module) (t : Token) → length xs ≡ row_count m t.table → has_row m t ≡ false → nth_part xs t.row ≡ None
unfolding has_row
no_part xs m t size there = no_part_at xs t.row (length (rows_in m t.table)) size there

-- the part of a class
pub record HasClass (d : DispatchParts) (m : Module) (t : Token) : Type 0 where
  pub part : ClassPart
  pub is : class_part d t ≡ Some part
  pub base : part.base ≡ class_base m t
  pub interface : part.is_interface ≡ is_interface m t

table_of_class : (t : Token) → (t.table == 0x02) ≡ true → t.table ≡ 0x02
table_of_class t h = grind (arith, nat_tests)

class_part_is : (d : DispatchParts) (t : Token) → (t.table == 0x02) ≡ true → class_part d t ≡ nth_part d.classes t.row
unfolding class_part
class_part_is d t e = rw e refl

pub class_there : (d : DispatchParts) (m : Module) (t : Token) → StandsForModule d m → is_class m t ≡ true → HasClass d m t
class_there d m t stands h =
    let w = and_parts (t.table == 0x02) (has_row m t) h in
    let table = table_of_class t w.0 in
    let p = has_part d.classes m t (stands.class_count ∙ ap (row_count m) (sym table)) w.1 in
    let row : t ≡ nth_row 0x02 p.place = p.row ∙ ap (λ n. nth_row n p.place) table in
    let of = stands.classes p.place p.part p.at in
    record { part = p.part; is = class_part_is d t w.0 ∙ p.is; base = of.base ∙ ap (class_base m) (sym row); interface = of.interface ∙ ap (is_interface m) (sym row) }

pub class_none : (d : DispatchParts) (m : Module) (t : Token) → StandsForModule d m → is_class m t ≡ false → class_part d t ≡ None
unfolding class_part
class_none d m t stands h = by_table (t.table == 0x02) refl h
  where
    by_table : (b : Bool) → (t.table == 0x02) ≡ b → (b && has_row m t) ≡ false → (if b then nth_part d.classes t.row else None) ≡ None
    by_table false is h = refl
    by_table true is h = no_part d.classes m t (stands.class_count ∙ ap (row_count m) (sym (table_of_class t is))) h

-- a climb
climb_by : (d : DispatchParts) (m : Module) (n : ℕ) (t : Token) (b : Bool) → StandsForModule d m → ((u : Token) → climb_in d n u ≡ climb m n u) → is_class m t ≡ b → with_class t (climb_in d n) (class_part d t) ≡ (if b then t ∷ climb m n (class_base m t) else [])
climb_by d m n t true stands same is =
    let c = class_there d m t stands is in
    rw c.is (ap (λ xs. t ∷ xs) (same c.part.base ∙ ap (climb m n) c.base))
climb_by d m n t false stands same is = rw (class_none d m t stands is) refl

pub climb_is : (d : DispatchParts) (m : Module) (n : ℕ) (t : Token) → StandsForModule d m → climb_in d n t ≡ climb m n t
unfolding climb_in climb
climb_is d m zero t stands = refl
climb_is d m (suc n) t stands = climb_by d m n t (is_class m t) stands (λ u. climb_is d m n u stands) refl

pub path_is : (d : DispatchParts) (m : Module) (t : Token) → StandsForModule d m → path_in d t ≡ path_of m t
path_is d m t stands = climb_is d m (length d.classes) t stands ∙ ap (λ n. climb m n t) stands.class_count

-- each is a class
abbrev pub AreClasses : Module → List Token → Type 0
AreClasses m [] = Unit {0}
AreClasses m (c ∷ rest) = (is_class m c ≡ true) × AreClasses m rest

classes_by : (m : Module) (n : ℕ) (t : Token) (b : Bool) → is_class m t ≡ b → AreClasses m (climb m n (class_base m t)) → AreClasses m (if b then t ∷ climb m n (class_base m t) else [])
classes_by m n t true is rest = (is, rest)
classes_by m n t false is rest = tt

climb_classes : (m : Module) (n : ℕ) (t : Token) → AreClasses m (climb m n t)
unfolding climb
climb_classes m zero t = tt
climb_classes m (suc n) t = classes_by m n t (is_class m t) refl (climb_classes m n (class_base m t))

pub path_classes : (d : DispatchParts) (m : Module) (t : Token) → StandsForModule d m → AreClasses m (path_in d t)
path_classes d m t stands = subst (AreClasses m) (sym (path_is d m t stands)) (climb_classes m (row_count m tables.type_def) t)

pub taken_classes : (m : Module) (n : ℕ) (xs : List Token) → AreClasses m xs → AreClasses m (take n xs)
taken_classes m zero xs are = tt
taken_classes m (suc n) [] are = tt
taken_classes m (suc n) (x ∷ xs) are = (are.0, taken_classes m n xs are.1)

joined_classes : (m : Module) (xs ys : List Token) → AreClasses m xs → AreClasses m ys → AreClasses m (xs ++ ys)
joined_classes m [] ys a b = b
joined_classes m (x ∷ xs) ys a b = (a.0, joined_classes m xs ys a.1 b)

pub reversed_classes : (m : Module) (xs : List Token) → AreClasses m xs → AreClasses m (reverse xs)
reversed_classes m [] are = tt
reversed_classes m (x ∷ xs) are = subst (AreClasses m) (sym (reverse-append (x ∷ []) xs)) (joined_classes m (reverse xs) (x ∷ []) (reversed_classes m xs are.1) (are.0, tt))

pub class_row : (m : Module) (c : Token) → is_class m c ≡ true → c ≡ class_at c.row
class_row m c h = ap (λ t. record { table = t; row = c.row }) (table_of_class c (and_parts (c.table == 0x02) (has_row m c) h).0)

pub class_has_row : (m : Module) (c : Token) → is_class m c ≡ true → IsTrue (has_row m (class_at c.row))
class_has_row m c h = subst (λ t. has_row m t ≡ true) (class_row m c h) (and_parts (c.table == 0x02) (has_row m c) h).1

-- interfaces
has_interface_is : (d : DispatchParts) (m : Module) (c i : Token) → StandsForModule d m → is_class m c ≡ true → has_interface_in d c i ≡ has_interface m c i
unfolding has_interface_in has_interface
has_interface_is d m c i stands is =
    ap is_some (stands.interfaces c.row i) ∙ ap (λ t. is_some (first_below (says_interface m t i) (row_count m tables.interface_impl))) (sym (class_row m c is))

any_interface : (d : DispatchParts) (m : Module) (i : Token) (xs : List Token) → StandsForModule d m → AreClasses m xs → list_any (λ (c : Token). has_interface_in d c i) xs ≡ list_any (λ (c : Token). has_interface m c i) xs
any_interface d m i [] stands are = refl
any_interface d m i (c ∷ xs) stands are = rw (has_interface_is d m c i stands are.0, any_interface d m i xs stands are.1) refl

pub implements_is : (d : DispatchParts) (m : Module) (class i : Token) → StandsForModule d m → implements_in d class i ≡ implements m class i
implements_is d m class i stands =
    any_interface d m i (path_in d class) stands (path_classes d m class stands) ∙ ap (list_any (λ (c : Token). has_interface m c i)) (path_is d m class stands)

pub extends_is : (d : DispatchParts) (m : Module) (class base : Token) → StandsForModule d m → extends_in d class base ≡ extends m class base
extends_is d m class base stands = ap (is_on_path base) (path_is d m class stands)

pub from_is : (d : DispatchParts) (m : Module) (i : Token) (xs : List Token) → StandsForModule d m → AreClasses m xs → from_interface_in d i xs ≡ from_interface m i xs
unfolding from_interface_in from_interface
from_is d m i [] stands are = refl
from_is d m i (c ∷ xs) stands are = rw (has_interface_is d m c i stands are.0, from_is d m i xs stands are.1) refl

from_by : (m : Module) (c : Token) (xs from : List Token) (b : Bool) → AreClasses m (c ∷ xs) → AreClasses m from → AreClasses m (if b then c ∷ xs else from)
from_by m c xs from true are rest = are
from_by m c xs from false are rest = rest

pub from_classes : (d : DispatchParts) (m : Module) (i : Token) (xs : List Token) → AreClasses m xs → AreClasses m (from_interface_in d i xs)
unfolding from_interface_in
from_classes d m i [] are = tt
from_classes d m i (c ∷ xs) are = from_by m c xs (from_interface_in d i xs) (has_interface_in d c i) are (from_classes d m i xs are.1)

-- rows of MethodImpl for either of two methods
abbrev given : Option ImplPart → Option Token
given o = option_map (λ (p : ImplPart). method_at p.body) o

numbered : (m : Module) (class a k : ℕ) → IfSome (impl_for m class a k) (λ p. p.number ≡ k)
unfolding impl_for
numbered m class a k = by_test (is_token (impl_class m k) (class_at class) && (impl_body m k).table == 0x06 && is_token (impl_declaration m k) (method_at a))
  where
    by_test : (b : Bool) → IfSome {T = ImplPart} (if b then Some (record { number = k; body = (impl_body m k).row }) else None) (λ p. p.number ≡ k)
    by_test true = refl
    by_test false = tt

below_by : (n : ℕ) (o r : Option ImplPart) → IfSome o (λ p. p.number < n) → IfSome r (λ p. p.number ≡ n) → IfSome (or_else o r) (λ p. p.number < suc n)
below_by n (Some p) r low is = omega (arith, low)
below_by n None (Some q) low is = omega (arith, is)
below_by n None None low is = tt

below : (m : Module) (class a n : ℕ) → IfSome (first_below (impl_for m class a) n) (λ p. p.number < n)
below m class a zero = rw (first_none (impl_for m class a)) tt
below m class a (suc n) = rw (first_suc (impl_for m class a) n) (below_by n (first_below (impl_for m class a) n) (impl_for m class a n) (below m class a n) (numbered m class a n))

test_is : (a b : ℕ) (t : Bool) → nat_le a b ≡ t → (p q : ImplPart) → (if nat_le a b then Some p else Some q) ≡ (if t then Some p else Some q)
test_is a b t e p q = ap (λ s. if s then Some p else Some q) e

or_earlier : (n : ℕ) (o u r s : Option ImplPart) → IfSome o (λ p. p.number < n) → IfSome u (λ p. p.number < n) → IfSome r (λ p. p.number ≡ n) → IfSome s (λ p. p.number ≡ n) → or_else (given (earlier_impl o u)) (given (earlier_impl r s)) ≡ given (earlier_impl (or_else o r) (or_else u s))
or_earlier n None None r s lo lu er es = refl
or_earlier n (Some p) None r None lo lu er es = refl
or_earlier n (Some p) None r (Some q) lo lu er es = let t : nat_le p.number q.number ≡ true = grind (arith, nat_tests, lo, es) in rw t refl
or_earlier n None (Some q) None s lo lu er es = refl
or_earlier n None (Some q) (Some p) s lo lu er es = let t : nat_le p.number q.number ≡ false = grind (arith, nat_tests, lu, er) in rw t refl
or_earlier n (Some p) (Some q) r s lo lu er es = or_some (nat_le p.number q.number)
  where
    or_some : (b : Bool) → or_else (given (if b then Some p else Some q)) (given (earlier_impl r s)) ≡ given (if b then Some p else Some q)
    or_some true = refl
    or_some false = refl

body_is : (m : Module) (k : ℕ) → ((impl_body m k).table == 0x06) ≡ true → impl_body m k ≡ method_at (impl_body m k).row
body_is m k h = let e : (impl_body m k).table ≡ 0x06 = grind (arith, nat_tests) in ap (λ t. record { table = t; row = (impl_body m k).row }) e

le_itself : (k : ℕ) → nat_le k k ≡ true
le_itself k = grind (arith, nat_tests)

at_by : (k row : ℕ) (body : Token) (a t b c : Bool) → (t ≡ true → body ≡ method_at row)
    → (if a && t && (b || c) then Some body else None) ≡ given (earlier_impl (if a && t && b then Some (record { number = k; body = row }) else None) (if a && t && c then Some (record { number = k; body = row }) else None))
at_by k row body false t b c is = refl
at_by k row body true false b c is = refl
at_by k row body true true false false is = refl
at_by k row body true true false true is = ap (λ t. Some t) (is refl)
at_by k row body true true true false is = ap (λ t. Some t) (is refl)
at_by k row body true true true true is = rw (le_itself k) (ap (λ t. Some t) (is refl))

at_is : (m : Module) (class a b k : ℕ) → impl_at m (class_at class) (method_at a) (method_at b) k ≡ given (earlier_impl (impl_for m class a k) (impl_for m class b k))
unfolding impl_at impl_for
at_is m class a b k =
    at_by k (impl_body m k).row (impl_body m k) (is_token (impl_class m k) (class_at class)) ((impl_body m k).table == 0x06)
    (is_token (impl_declaration m k) (method_at a)) (is_token (impl_declaration m k) (method_at b)) (body_is m k)

first_is : (m : Module) (class a b n : ℕ) → first_below (impl_at m (class_at class) (method_at a) (method_at b)) n ≡ given (earlier_impl (first_below (impl_for m class a) n) (first_below (impl_for m class b) n))
first_is m class a b zero = rw (first_none (impl_at m (class_at class) (method_at a) (method_at b)), first_none (impl_for m class a), first_none (impl_for m class b)) refl
first_is m class a b (suc n) =
    rw (first_suc (impl_at m (class_at class) (method_at a) (method_at b)) n, first_suc (impl_for m class a) n, first_suc (impl_for m class b) n, first_is m class a b n, at_is m class a b n)
    (or_earlier n (first_below (impl_for m class a) n) (first_below (impl_for m class b) n) (impl_for m class a n) (impl_for m class b n)
    (below m class a n) (below m class b n) (numbered m class a n) (numbered m class b n))

given_mapped : (o : Option ImplPart) → given o ≡ option_map method_at (option_map body_row o)
given_mapped None = refl
given_mapped (Some p) = refl

pub impl_is : (d : DispatchParts) (m : Module) (c : Token) (a b : ℕ) → StandsForModule d m → is_class m c ≡ true → impl_of m c (method_at a) (method_at b) ≡ option_map method_at (impl_in d c a b)
unfolding impl_of impl_in
impl_is d m c a b stands is =
    ap (λ t. first_below (impl_at m t (method_at a) (method_at b)) (row_count m tables.method_impl)) (class_row m c is)
    ∙ first_is m c.row a b (row_count m tables.method_impl)
    ∙ rw (stands.impls c.row a, stands.impls c.row b) (given_mapped _)
