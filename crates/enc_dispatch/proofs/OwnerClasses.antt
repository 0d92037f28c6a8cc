-- The classes of methods behind the first so many.
use Rattle.std.proofs.Common.{◌≡◌, ℕ, zero, suc, ◌+◌, ◌-◌, ◌<◌, ◌≤◌, Bool, true, false, List, [], ◌∷◌, length, filter, take, get_or, set, slice_get, Option, Some, None, option_map, refl, sym, ap, subst, ◌∙◌, inl, inr, ◌⊎◌, arith}
use Rattle.std.specs.Prelude.{◌||◌, ◌==◌, nat_lt, position, if◌then◌else◌}
use Rattle.std.specs.List.{list_any}
use Rattle.std.specs.List.Sorted.{IsPermutation}
use Rattle.std.proofs.lemmas.Bool.{or_cases, or_left, or_right, eqb-true, eq-eqb}
use Rattle.std.proofs.lemmas.List.{get_or-set_same, get_or-set_other, take_more}
use Rattle.std.proofs.lemmas.Option.{slice_get_within, slice_get-get_or, get_or_from_slice_get}
use Rattle.std.proofs.lemmas.Bool.Decides.{nat_tests}
use Rattle.std.proofs.lemmas.List.Sorted.{list_any-IsPermutation}
use Rattle.enc_base.specs.Token.{nth_row}
use Rattle.enc_base.specs.declared.token.Token.{Token}
use Rattle.enc_plain.specs.Module.{Module, rows_in, has_row, has_kid, kids_of, owner_of}
use Rattle.enc_plain.specs.Sound.{row_count, IsSound}
use Rattle.enc_plain.proofs.Owned.{position_cons, kid_owner, has_owner}
use Rattle.enc_base.specs.Tables as tables
use Rattle.enc_dispatch.specs.Growth.{later_kids, AreOwners, EachLater, IsClassOfMethod}
use Rattle.enc_dispatch.specs.Parts.{EachPart}
use Rattle.enc_dispatch.specs.Stored.{class_at}
use Rattle.enc_dispatch.specs.Walks.{method_at}
use Rattle.enc_dispatch.proofs.Kept.{kid_there, row_bounds}
use Rattle.enc_dispatch.proofs.Owns.{any_end}

position_low : {X : Type 0} (p : X → Bool) (xs : List X) (i : ℕ) → position p xs ≡ Some i → i < length xs
position_low p [] i e = absurd cc
position_low p (x ∷ xs) i e = by_test (p x) (position p xs) (position_low p xs) (sym (position_cons p x xs) ∙ e)
  where
    by_test : (b : Bool) (o : Option ℕ) → ((j : ℕ) → o ≡ Some j → j < length xs) → (if b then Some 0 else option_map suc o) ≡ Some i → i < length (x ∷ xs)
    by_test true o low e = let f : 0 ≡ i = cc in omega (arith, f)
    by_test false None low e = absurd cc
    by_test false (Some j) low e = let f : suc j ≡ i = cc in omega (arith, f, low j refl)

class_bounds : (m : Module) (class : ℕ) → has_row m (class_at class) ≡ true → (0 < class) × (class ≤ row_count m tables.type_def)
unfolding has_row
class_bounds m class h = (grind (arith, nat_tests), grind (arith, nat_tests))

pub class_there : (m : Module) (i : ℕ) → i < length (rows_in m 0x02) → has_row m (nth_row 0x02 i) ≡ true
unfolding has_row
class_there m i low = grind (arith, nat_tests, low)

-- what owns a method is a class that is there
pub owner_there : (m : Module) (row : ℕ) (o : Token) → owner_of m (method_at row) ≡ Some o → (o ≡ class_at o.row) × (has_row m (class_at o.row) ≡ true)
unfolding owner_of
owner_there m row o e = by_place (position (has_kid (method_at row)) (rows_in m 0x02)) (position_low (has_kid (method_at row)) (rows_in m 0x02)) e
  where
    by_place : (p : Option ℕ) → ((j : ℕ) → p ≡ Some j → j < length (rows_in m 0x02)) → option_map (nth_row 0x02) p ≡ Some o → (o ≡ class_at o.row) × (has_row m (class_at o.row) ≡ true)
    by_place None low e = absurd cc
    by_place (Some i) low e =
        let f : nth_row 0x02 i ≡ o = cc in
        let same : o ≡ class_at o.row = subst (λ (t : Token). t ≡ class_at t.row) f refl in
        (same, subst (λ (t : Token). has_row m t ≡ true) same (subst (λ (t : Token). has_row m t ≡ true) f (class_there m i (low i refl))))

pub row_class : (m : Module) (row : ℕ) (o : Token) → owner_of m (method_at row) ≡ Some o → owner_of m (method_at row) ≡ Some (class_at o.row)
row_class m row o e = e ∙ ap (λ (t : Token). Some t) (owner_there m row o e).0

-- the class of each method behind the first so many is listed, up to a row
abbrev pub AreListed : Module → ℕ → ℕ → List ℕ → Type 0
AreListed m read last owners = (row class : ℕ) → read < row → row ≤ last → owner_of m (method_at row) ≡ Some (class_at class) → list_any (λ (c : ℕ). c == class) owners ≡ true

-- an element of a list stands in it
stands_at : (xs : List ℕ) (i x : ℕ) → slice_get xs i ≡ Some x → list_any (λ (c : ℕ). c == x) xs ≡ true
stands_at [] i x e = absurd cc
stands_at (y ∷ xs) zero x e = let f : y ≡ x = cc in or_left (y == x) (list_any (λ (c : ℕ). c == x) xs) (grind (arith, nat_tests, f))
stands_at (y ∷ xs) (suc i) x e = or_right (y == x) (list_any (λ (c : ℕ). c == x) xs) (stands_at xs i x e)

-- and one that stands in it is an element
pub record IsElement (xs : List ℕ) (x : ℕ) : Type 0 where
  pub place : ℕ
  pub at : slice_get xs place ≡ Some x

element : (xs : List ℕ) (x : ℕ) → list_any (λ (c : ℕ). c == x) xs ≡ true → IsElement xs x
element [] x h = absurd cc
element (y ∷ xs) x h = elim (or_cases (y == x) (list_any (λ (c : ℕ). c == x) xs) h) [
  | inl here ↦ record { place = 0; at = ap (λ z. Some z) (eqb-true y x here) }
  | inr later ↦ let e = element xs x later in record { place = suc e.place; at = e.at }
]

some_there : (xs : List ℕ) (i : ℕ) → i < length xs → (x : ℕ) × (slice_get xs i ≡ Some x)
some_there [] i low = absurd (omega (arith, low))
some_there (y ∷ xs) zero low = (y, refl)
some_there (y ∷ xs) (suc i) low = some_there xs i (omega (arith, low))

listed_each : (m : Module) (read last : ℕ) (owners : List ℕ) → read + length owners ≡ last → EachLater (IsClassOfMethod m) read owners → AreListed m read last owners
listed_each m read last owners size each row class low high is =
    let w = some_there owners (row - 1 - read) (omega (arith, low, high, size)) in
    let e : read + (row - 1 - read) + 1 ≡ row = omega (arith, low) in
    let f : Some (class_at w.0) ≡ Some (class_at class) = sym (each (row - 1 - read) w.0 w.1) ∙ ap (λ r. owner_of m (method_at r)) e ∙ is in
    let g : class_at w.0 ≡ class_at class = cc in
    let h : w.0 ≡ class = ap (λ (t : Token). t.row) g in
    subst (λ c. list_any (λ (k : ℕ). k == c) owners ≡ true) h (stands_at owners (row - 1 - read) w.0 w.1)

there_each : (m : Module) (read : ℕ) (owners : List ℕ) → EachLater (IsClassOfMethod m) read owners → (class : ℕ) → list_any (λ (c : ℕ). c == class) owners ≡ true → has_row m (class_at class) ≡ true
there_each m read owners each class h =
    let e = element owners class h in
    (owner_there m (read + e.place + 1) (class_at class) (each e.place class e.at)).1

-- all of them
filter_nothing : (f : ℕ → Bool) (xs : List ℕ) → ((k : ℕ) → list_any (λ (j : ℕ). j == k) xs ≡ true → f k ≡ false) → filter f xs ≡ []
filter_nothing f [] none = refl
filter_nothing f (x ∷ xs) none =
    let here : f x ≡ false = none x (or_left (x == x) (list_any (λ (j : ℕ). j == x) xs) (grind (arith, nat_tests))) in
    rw here (filter_nothing f xs (λ k h. none k (or_right (x == k) (list_any (λ (j : ℕ). j == k) xs) h)))

unlisted : (m : Module) (read last class : ℕ) (owners : List ℕ) → IsSound m → row_count m tables.method_def ≤ last → AreListed m read last owners → list_any (λ (c : ℕ). c == class) owners ≡ false → later_kids m read class ≡ []
unlisted m read last class owners sound high are not = filter_nothing (λ (row : ℕ). nat_lt read row) (kids_of m (class_at class) 0x06) (λ k h. by_test k h (nat_lt read k) refl)
  where
    by_test : (k : ℕ) → list_any (λ (j : ℕ). j == k) (kids_of m (class_at class) 0x06) ≡ true → (b : Bool) → nat_lt read k ≡ b → nat_lt read k ≡ false
    by_test k h false t = t
    by_test k h true t =
        let low : read < k = grind (arith, nat_tests) in
        let b = row_bounds m k (kid_there m (class_at class) k sound h) in
        let owner = kid_owner m (class_at class) (method_at k) sound.owners.owned refl h in
        let f : true ≡ false = sym (are k class low (omega (arith, b.1, high)) owner) ∙ not in
        absurd cc

owners_told : (m : Module) (read last : ℕ) (owners : List ℕ) → IsSound m → row_count m tables.method_def ≤ last → ((class : ℕ) → list_any (λ (c : ℕ). c == class) owners ≡ true → has_row m (class_at class) ≡ true) → AreListed m read last owners → AreOwners m read owners
owners_told m read last owners sound high there are = record {
  there = there;
  all = λ class. by_test class (list_any (λ (c : ℕ). c == class) owners) refl;
}
  where
    by_test : (class : ℕ) (b : Bool) → list_any (λ (c : ℕ). c == class) owners ≡ b → (list_any (λ (c : ℕ). c == class) owners ≡ true) ⊎ (later_kids m read class ≡ [])
    by_test class true t = inl t
    by_test class false t = inr (unlisted m read last class owners sound high are t)

owners_sorted : (m : Module) (read : ℕ) (owners sorted : List ℕ) → IsPermutation owners sorted → AreOwners m read owners → AreOwners m read sorted
owners_sorted m read owners sorted same are = record {
  there = λ class h. are.there class (list_any-IsPermutation (λ (c : ℕ). c == class) owners sorted same ∙ h);
  all = λ class. elim (are.all class) [
    | inl listed ↦ inl (sym (list_any-IsPermutation (λ (c : ℕ). c == class) owners sorted same) ∙ listed)
    | inr none ↦ inr none
  ];
}

pub owners_each : (m : Module) (read : ℕ) (owners sorted : List ℕ) → IsSound m → read + length owners ≡ row_count m tables.method_def → EachLater (IsClassOfMethod m) read owners → IsPermutation owners sorted → AreOwners m read sorted
owners_each m read owners sorted sound size each same =
    owners_sorted m read owners sorted same (owners_told m read (row_count m tables.method_def) owners sound (omega arith) (there_each m read owners each) (listed_each m read (row_count m tables.method_def) owners size each))

-- the classes of methods, put in their places class by class
abbrev pub IsPut : Module → ℕ → List ℕ → Type 0
IsPut m n owners = (k class : ℕ) → 0 < class → class ≤ n → list_any (λ (j : ℕ). j == k + 1) (kids_of m (class_at class) tables.method_def) ≡ true → get_or owners k 0 ≡ class

put_by : (b : Bool) (class old new : ℕ) → new ≡ (if b then class else old) → (b ≡ true → new ≡ class) × (b ≡ false → new ≡ old)
put_by true class old new e = (λ h. e, λ h. absurd cc)
put_by false class old new e = (λ h. absurd cc, λ h. e)

kid_low : (m : Module) (class k : ℕ) → IsSound m → list_any (λ (j : ℕ). j == k + 1) (kids_of m (class_at class) tables.method_def) ≡ true → k < row_count m tables.method_def
kid_low m class k sound h = let b = row_bounds m (k + 1) (kid_there m (class_at class) (k + 1) sound h) in omega (arith, b.1)

kid_class : (m : Module) (class k : ℕ) → IsSound m → list_any (λ (j : ℕ). j == k + 1) (kids_of m (class_at class) tables.method_def) ≡ true → owner_of m (method_at (k + 1)) ≡ Some (class_at class)
kid_class m class k sound h = kid_owner m (class_at class) (method_at (k + 1)) sound.owners.owned refl h

one_class : (m : Module) (a b k : ℕ) → IsSound m → list_any (λ (j : ℕ). j == k + 1) (kids_of m (class_at a) tables.method_def) ≡ true → list_any (λ (j : ℕ). j == k + 1) (kids_of m (class_at b) tables.method_def) ≡ true → a ≡ b
one_class m a b k sound h i =
    let f : Some (class_at a) ≡ Some (class_at b) = sym (kid_class m a k sound h) ∙ kid_class m b k sound i in
    let g : class_at a ≡ class_at b = cc in
    ap (λ (t : Token). t.row) g

pub class_put : (m : Module) (n : ℕ) (owners new : List ℕ) → IsSound m → length owners ≡ row_count m tables.method_def → IsPut m n owners
    → ((k : ℕ) → k < length owners → get_or new k 0 ≡ (if list_any (λ (j : ℕ). j == k + 1) (kids_of m (class_at (n + 1)) tables.method_def) then n + 1 else get_or owners k 0)) → IsPut m (n + 1) new
class_put m n owners new sound size put each k class some high h =
    let low : k < length owners = omega (arith, size, kid_low m class k sound h) in
    let told = put_by (list_any (λ (j : ℕ). j == k + 1) (kids_of m (class_at (n + 1)) 0x06)) (n + 1) (get_or owners k 0) (get_or new k 0) (each k low) in
    by_test (list_any (λ (j : ℕ). j == k + 1) (kids_of m (class_at (n + 1)) 0x06)) refl told
  where
    by_test : (b : Bool) → list_any (λ (j : ℕ). j == k + 1) (kids_of m (class_at (n + 1)) 0x06) ≡ b → (list_any (λ (j : ℕ). j == k + 1) (kids_of m (class_at (n + 1)) 0x06) ≡ true → get_or new k 0 ≡ n + 1) × (list_any (λ (j : ℕ). j == k + 1) (kids_of m (class_at (n + 1)) 0x06) ≡ false → get_or new k 0 ≡ get_or owners k 0) → get_or new k 0 ≡ class
    by_test true e told = told.0 e ∙ one_class m (n + 1) class k sound e h
    by_test false e told = told.1 e ∙ put k class some (by_place (class == n + 1) refl e) h
      where
        by_place : (b : Bool) → (class == n + 1) ≡ b → list_any (λ (j : ℕ). j == k + 1) (kids_of m (class_at (n + 1)) 0x06) ≡ false → class ≤ n
        by_place true same not =
            let f : class ≡ n + 1 = grind (arith, nat_tests) in
            let g : true ≡ false = sym h ∙ ap (λ c. list_any (λ (j : ℕ). j == k + 1) (kids_of m (class_at c) 0x06)) f ∙ not in
            absurd cc
        by_place false same not = grind (arith, nat_tests, high)

pub all_put : (m : Module) (owners : List ℕ) → IsSound m → length owners ≡ row_count m tables.method_def → IsPut m (row_count m tables.type_def) owners → EachPart (IsClassOfMethod m) owners
all_put m owners sound size put k class e =
    let low : k < length owners = slice_get_within owners k class e in
    let w = has_owner m (method_at (k + 1)) sound.owners.owned refl (omega arith) (omega (arith, low, size)) in
    let o = owner_there m (k + 1) w.owner w.is in
    let has : list_any (λ (j : ℕ). j == k + 1) (kids_of m (class_at w.owner.row) 0x06) ≡ true = ap (λ (t : Token). list_any (λ (j : ℕ). j == k + 1) (kids_of m t 0x06)) (sym o.0) ∙ w.has in
    let b = class_bounds m w.owner.row o.1 in
    let is : w.owner.row ≡ class = sym (put k w.owner.row b.0 b.1 has) ∙ get_or_from_slice_get owners k class 0 e in
    w.is ∙ ap (λ (t : Token). Some t) o.0 ∙ ap (λ r. Some (class_at r)) is

-- kids are among the rows
pub kids_low : (m : Module) (class count i : ℕ) (kids : List ℕ) → IsSound m → kids ≡ kids_of m (class_at class) tables.method_def → count ≡ row_count m tables.method_def → i < length kids → (0 < get_or kids i 0) × (get_or kids i 0 ≤ count)
kids_low m class count i kids sound are size low =
    let at = slice_get-get_or kids i 0 low in
    let h : list_any (λ (j : ℕ). j == get_or kids i 0) (kids_of m (class_at class) 0x06) ≡ true = ap (list_any (λ (j : ℕ). j == get_or kids i 0)) (sym are) ∙ stands_at kids i (get_or kids i 0) at in
    let b = row_bounds m (get_or kids i 0) (kid_there m (class_at class) (get_or kids i 0) sound h) in
    (omega (arith, b.0), omega (arith, b.1, size))

-- a class put at one place more
pub place_put : (owners old : List ℕ) (kids : List ℕ) (i class n : ℕ) → i < length kids → 0 < get_or kids i 0 → get_or kids i 0 ≤ length owners → n < length owners → get_or owners n 0 ≡ (if list_any (λ (k : ℕ). k == n + 1) (take i kids) then class else get_or old n 0)
    → get_or (set owners (get_or kids i 0 - 1) class) n 0 ≡ (if list_any (λ (k : ℕ). k == n + 1) (take (i + 1) kids) then class else get_or old n 0)
place_put owners old kids i class n low some high less was =
    by_place (get_or kids i 0 == n + 1) refl
    ∙ ap (λ b. if b then class else get_or old n 0) (sym (ap (list_any (λ (k : ℕ). k == n + 1)) (take_more kids i 0 low) ∙ any_end (n + 1) (get_or kids i 0) (take i kids)))
  where
    or_true : (b : Bool) → (b || true) ≡ true
    or_true true = refl
    or_true false = refl

    or_false : (b : Bool) → (b || false) ≡ b
    or_false true = refl
    or_false false = refl

    by_place : (b : Bool) → (get_or kids i 0 == n + 1) ≡ b → get_or (set owners (get_or kids i 0 - 1) class) n 0 ≡ (if list_any (λ (k : ℕ). k == n + 1) (take i kids) || b then class else get_or old n 0)
    by_place true e =
        let f : get_or kids i 0 ≡ n + 1 = grind (arith, nat_tests) in
        let g : get_or kids i 0 - 1 ≡ n = omega (arith, f) in
        rw (g, or_true (list_any (λ (k : ℕ). k == n + 1) (take i kids))) (get_or-set_same owners n class 0 less)
    by_place false e =
        let f : n ≡ get_or kids i 0 - 1 → ⊥ = λ same. let h : get_or kids i 0 ≡ n + 1 = omega (arith, same, some) in let z : true ≡ false = sym (eq-eqb (get_or kids i 0) (n + 1) h) ∙ e in absurd cc in
        rw (or_false (list_any (λ (k : ℕ). k == n + 1) (take i kids))) (get_or-set_other owners (get_or kids i 0 - 1) n class 0 f ∙ was)
