-- Which row owns a child, and how many children a row has, where each child row has just one owner.
use Rattle.std.proofs.Common.{◌≡◌, ℕ, zero, suc, ◌+◌, ◌<◌, ◌≤◌, Bool, true, false, List, [], ◌∷◌, ◌++◌, length, Option, Some, None, refl, sym, ap, ◌∙◌, inl, inr, cond, arith}
use Rattle.std.specs.Prelude.{IsTrue, ◌≢◌, ◌==◌, ◌&&◌, ◌||◌, not, if◌then◌else◌, slice_get, flat_map, count_by, position, option_map, nat_le, nat_lt, filter}
use Rattle.std.specs.List.{list_any, position_or_len}
use Rattle.std.proofs.lemmas.Bool.{cases_lt, cases_eq}
use Rattle.std.proofs.lemmas.Bool.Decides.{nat_tests}
use Rattle.std.proofs.lemmas.List.{length-append}
use Rattle.std.proofs.lemmas.List.Sums.{sum_by-cons, sum_by-append}
use Rattle.enc_base.specs.declared.token.Token.{Token}
use Rattle.enc_base.specs.Token.{nth_row}
use Rattle.enc_schema.specs.Children.{is_child_table, owner_table}
use Rattle.enc_plain.specs.Module.{Module, Row, rows_in, row_at, row_of, has_row, kids_at, kids_with, kids_of, owner_of}
use Rattle.enc_plain.specs.Sound.{all_kids, IsOwned}

position_from : (b : Bool) (n k : ℕ) → (if nat_lt (if not b then 1 + n else 0) (suc k) then Some (if not b then 1 + n else 0) else None) ≡ (if b then Some 0 else option_map suc (if nat_lt n k then Some n else None))
position_from true n k = let less : nat_lt 0 (suc k) ≡ true = grind (arith, nat_tests) in rw less refl
position_from false n k = behind (nat_lt n k) n (nat_lt (1 + n) (suc k)) (grind (arith, nat_tests))
  where
    behind : (b : Bool) (n : ℕ) (d : Bool) → d ≡ b → (if d then Some (1 + n) else None) ≡ option_map suc (if b then Some n else None)
    behind true n d e = let more : 1 + n ≡ suc n = omega arith in rw (e, more) refl
    behind false n d e = rw e refl

-- the first place among one more
pub position_cons : {X : Type 0} (p : X → Bool) (x : X) (xs : List X) → position p (x ∷ xs) ≡ (if p x then Some 0 else option_map suc (position p xs))
position_cons p x xs = position_from (p x) (position_or_len p xs) (length xs)

-- counting one more, and two lists
pub count_cons : {X : Type 0} (p : X → Bool) (x : X) (xs : List X) → count_by p (x ∷ xs) ≡ cond (p x) 1 0 + count_by p xs
count_cons p x xs = sum_by-cons (λ y. cond (p y) 1 0) x xs

pub count_append : {X : Type 0} (p : X → Bool) (xs ys : List X) → count_by p (xs ++ ys) ≡ count_by p xs + count_by p ys
count_append p xs ys = sum_by-append (λ y. cond (p y) 1 0) xs ys

some_counted : (b rest : Bool) (n : ℕ) → (b || rest) ≡ true → (rest ≡ true → 1 ≤ n) → 1 ≤ cond b 1 0 + n
some_counted true rest n h f = omega arith
some_counted false rest n h f = let some = f h in omega arith

any_count : (p : ℕ → Bool) (xs : List ℕ) → list_any p xs ≡ true → 1 ≤ count_by p xs
any_count p [] h = absurd cc
any_count p (x ∷ xs) h = rw (count_cons p x xs) (some_counted (p x) (list_any p xs) (count_by p xs) h (any_count p xs))

any_counted : (b rest : Bool) (n : ℕ) → 1 ≤ cond b 1 0 + n → (1 ≤ n → rest ≡ true) → (b || rest) ≡ true
any_counted true rest n h f = refl
any_counted false rest n h f = f (omega arith)

count_any : (p : ℕ → Bool) (xs : List ℕ) → 1 ≤ count_by p xs → list_any p xs ≡ true
count_any p [] h = absurd (omega arith)
count_any p (x ∷ xs) h = any_counted (p x) (list_any p xs) (count_by p xs) (rw (count_cons p x xs) at h) (count_any p xs)

row_counted : (p : ℕ → Bool) (f : Row → List ℕ) (rows : List Row) (i : ℕ) (x : Row) → slice_get rows i ≡ Some x → list_any p (f x) ≡ true → 1 ≤ count_by p (flat_map f rows)
row_counted p f [] i x e h = absurd cc
row_counted p f (r ∷ rows) zero x e h =
    let is : r ≡ x = cc in
    let here = any_count p (f r) (rw is h) in
    rw (count_append p (f r) (flat_map f rows)) (omega arith)
row_counted p f (r ∷ rows) (suc i) x e h =
    let rest = row_counted p f rows i x e h in
    rw (count_append p (f r) (flat_map f rows)) (omega arith)

not_both : (p : ℕ → Bool) (xs : List ℕ) (n : ℕ) (b : Bool) → list_any p xs ≡ b → count_by p xs + n ≤ 1 → 1 ≤ n → list_any p xs ≡ false
not_both p xs n true e le some = let here = any_count p xs e in absurd (omega arith)
not_both p xs n false e le some = e

-- where all children have it at most once, the row that has it is the first that has it
only_row : (p : ℕ → Bool) (f : Row → List ℕ) (rows : List Row) (i : ℕ) (x : Row) → count_by p (flat_map f rows) ≤ 1 → slice_get rows i ≡ Some x → list_any p (f x) ≡ true → position (λ (r : Row). list_any p (f r)) rows ≡ Some i
only_row p f [] i x le e h = absurd cc
only_row p f (r ∷ rows) zero x le e h =
    let is : r ≡ x = cc in
    let here : list_any p (f r) ≡ true = rw is h in
    position_cons (λ (y : Row). list_any p (f y)) r rows ∙ rw here refl
only_row p f (r ∷ rows) (suc i) x le e h =
    let few = rw (count_append p (f r) (flat_map f rows)) at le in
    let here : list_any p (f r) ≡ false = not_both p (f r) (count_by p (flat_map f rows)) (list_any p (f r)) refl few (row_counted p f rows i x e h) in
    let less : count_by p (flat_map f rows) ≤ 1 = omega arith in
    position_cons (λ (y : Row). list_any p (f y)) r rows ∙ rw (here, only_row p f rows i x less e h) refl

-- some row has what all children have
pub record HasIt (p : ℕ → Bool) (f : Row → List ℕ) (rows : List Row) : Type 0 where
  pub at : ℕ
  pub row : Row
  pub get : slice_get rows at ≡ Some row
  pub has : list_any p (f row) ≡ true

found_row : (p : ℕ → Bool) (f : Row → List ℕ) (r : Row) (rows : List Row) (b : Bool) → list_any p (f r) ≡ b → 1 ≤ count_by p (f r) + count_by p (flat_map f rows) → (1 ≤ count_by p (flat_map f rows) → HasIt p f rows) → HasIt p f (r ∷ rows)
found_row p f r rows true e h rest = record { at = 0; row = r; get = refl; has = e }
found_row p f r rows false e h rest =
    let none : count_by p (f r) ≡ 0 = not_counted (count_by p (f r)) (λ some. count_any p (f r) some) e in
    let w = rest (omega arith) in
    record { at = suc w.at; row = w.row; get = w.get; has = w.has }
  where
    not_counted : (n : ℕ) {b : Bool} → (1 ≤ n → b ≡ true) → b ≡ false → n ≡ 0
    not_counted zero f e = refl
    not_counted (suc n) f e = let t = f (omega arith) in absurd cc

some_row : (p : ℕ → Bool) (f : Row → List ℕ) (rows : List Row) → 1 ≤ count_by p (flat_map f rows) → HasIt p f rows
some_row p f [] h = absurd (omega arith)
some_row p f (r ∷ rows) h = found_row p f r rows (list_any p (f r)) refl (rw (count_append p (f r) (flat_map f rows)) at h) (some_row p f rows)

once_few : (m : Module) (child : Token) → IsOwned m → is_child_table child.table ≡ true → count_by (λ k. k == child.row) (all_kids m child.table) ≤ 1
once_few m child owned there = at_most _ _ (owned.once child.table child.row there)
  where
    at_most : (n : ℕ) (b : Bool) → n ≡ cond b 1 0 → n ≤ 1
    at_most n true e = omega arith
    at_most n false e = omega arith

owner_at : (m : Module) (child : Token) (i : ℕ) (x : Row) → IsOwned m → is_child_table child.table ≡ true → slice_get (rows_in m (owner_table child.table)) i ≡ Some x → list_any (λ k. k == child.row) (kids_at x child.table) ≡ true → owner_of m child ≡ Some (nth_row (owner_table child.table) i)
unfolding owner_of
owner_at m child i x owned there get has = rw (only_row (λ k. k == child.row) (λ (r : Row). kids_at r child.table) (rows_in m (owner_table child.table)) i x (once_few m child owned there) get has) refl

in_row : (m : Module) (child : Token) (row : ℕ) (o : Option Row) → IsOwned m → is_child_table child.table ≡ true → row_at (rows_in m (owner_table child.table)) row ≡ o → list_any (λ k. k == child.row) (kids_with o child.table) ≡ true → owner_of m child ≡ Some (record { table = owner_table child.table; row = row })
in_row m child row None owned there e h = absurd cc
in_row m child zero (Some x) owned there e h = absurd cc
in_row m child (suc i) (Some x) owned there e h =
    let s : i + 1 ≡ suc i = omega arith in
    owner_at m child i x owned there e h ∙ ap (λ n. Some (record { table = owner_table child.table; row = n })) s

in_kids : (m : Module) (u child : Token) (b : Bool) → IsOwned m → is_child_table child.table ≡ true → (u.table == owner_table child.table) ≡ b → list_any (λ k. k == child.row) (if b then kids_with (row_of m u) child.table else []) ≡ true → owner_of m child ≡ Some u
unfolding row_of
in_kids m u child false owned there e h = absurd cc
in_kids m u child true owned there e h =
    let is : u.table ≡ owner_table child.table = grind (arith, nat_tests) in
    let kids : list_any (λ k. k == child.row) (kids_with (row_at (rows_in m (owner_table child.table)) u.row) child.table) ≡ true = rw is at h in
    in_row m child u.row _ owned there refl kids ∙ ap (λ t. Some (record { table = t; row = u.row })) (sym is)

-- the row that has a child owns it
pub kid_owner : (m : Module) (u child : Token) → IsOwned m → is_child_table child.table ≡ true → list_any (λ k. k == child.row) (kids_of m u child.table) ≡ true → owner_of m child ≡ Some u
unfolding kids_of
kid_owner m u child owned there h = in_kids m u child (u.table == owner_table child.table) owned there refl (rw there at h)

-- each child row has an owner that has it
pub record HasOwner (m : Module) (child : Token) : Type 0 where
  pub owner : Token
  pub is : owner_of m child ≡ Some owner
  pub has : list_any (λ k. k == child.row) (kids_of m owner child.table) ≡ true

row_there : (rows : List Row) (i : ℕ) (x : Row) → slice_get rows i ≡ Some x → row_at rows (i + 1) ≡ Some x
row_there rows i x e = let s : i + 1 ≡ suc i = omega arith in rw s e

kids_there : (m : Module) (table i : ℕ) (x : Row) → is_child_table table ≡ true → slice_get (rows_in m (owner_table table)) i ≡ Some x → kids_of m (nth_row (owner_table table) i) table ≡ kids_at x table
unfolding kids_of row_of
kids_there m table i x there e =
    let same : (owner_table table == owner_table table) ≡ true = grind (arith, nat_tests) in
    rw (there, same, row_there (rows_in m (owner_table table)) i x e) refl

-- so has each child row
pub has_owner : (m : Module) (child : Token) → IsOwned m → is_child_table child.table ≡ true → 1 ≤ child.row → child.row ≤ length (rows_in m child.table) → HasOwner m child
has_owner m child owned there low high =
    let in_rows : (nat_le 1 child.row && nat_le child.row (length (rows_in m child.table))) ≡ true = grind (arith, nat_tests) in
    let once : count_by (λ k. k == child.row) (all_kids m child.table) ≡ 1 = owned.once child.table child.row there ∙ rw in_rows refl in
    let some : 1 ≤ count_by (λ k. k == child.row) (all_kids m child.table) = omega (arith, once) in
    let w = some_row (λ k. k == child.row) (λ (r : Row). kids_at r child.table) (rows_in m (owner_table child.table)) some in
    record {
      owner = nth_row (owner_table child.table) w.at;
      is = owner_at m child w.at w.row owned there w.get w.has;
      has = rw (kids_there m child.table w.at w.row there w.get) w.has;
    }

-- the numbers of a list without one number
abbrev others : ℕ → List ℕ → List ℕ
others n xs = filter (λ k. not (k == n)) xs

split_step : (b : Bool) (x m : ℕ) (xs ys : List ℕ) → length xs ≡ m + length ys → suc (length xs) ≡ cond b 1 0 + m + length (cond (not b) (x ∷ ys) ys)
split_step true x m xs ys h = omega arith
split_step false x m xs ys h = omega arith

split : (n : ℕ) (xs : List ℕ) → length xs ≡ count_by (λ k. k == n) xs + length (others n xs)
split n [] = omega arith
split n (x ∷ xs) = split_step (x == n) x (count_by (λ k. k == n) xs) xs (others n xs) (split n xs) ∙ ap (λ m. m + length (others n (x ∷ xs))) (sym (count_cons (λ k. k == n) x xs))

others_step : (r n x : ℕ) (b : Bool) (ys : List ℕ) (m : ℕ) → r ≢ n → (x == n) ≡ b → count_by (λ k. k == r) ys ≡ m → count_by (λ k. k == r) (cond (not b) (x ∷ ys) ys) ≡ cond (x == r) 1 0 + m
others_step r n x true ys m d e h =
    let is : x ≡ n = grind (arith, nat_tests) in
    let other : (x == r) ≡ false = differs x r (λ f. d (omega arith)) in
    rw other (h ∙ omega arith)
  where
    differs : (a b : ℕ) → (a ≡ b → ⊥) → (a == b) ≡ false
    differs a b h = grind (arith, nat_tests)
others_step r n x false ys m d e h = count_cons (λ k. k == r) x ys ∙ ap (λ k. cond (x == r) 1 0 + k) h

count_others : (r n : ℕ) (xs : List ℕ) → r ≢ n → count_by (λ k. k == r) (others n xs) ≡ count_by (λ k. k == r) xs
count_others r n [] d = refl
count_others r n (x ∷ xs) d = others_step r n x (x == n) (others n xs) (count_by (λ k. k == r) xs) d refl (count_others r n xs d) ∙ sym (count_cons (λ k. k == r) x xs)

none_step : (n x : ℕ) (b : Bool) (ys : List ℕ) → (x == n) ≡ b → count_by (λ k. k == n) ys ≡ 0 → count_by (λ k. k == n) (cond (not b) (x ∷ ys) ys) ≡ 0
none_step n x true ys e h = h
none_step n x false ys e h = count_cons (λ k. k == n) x ys ∙ rw (e, h) refl

count_none : (n : ℕ) (xs : List ℕ) → count_by (λ k. k == n) (others n xs) ≡ 0
count_none n [] = refl
count_none n (x ∷ xs) = none_step n x (x == n) (others n xs) refl (count_none n xs)

no_numbers : (xs : List ℕ) → ((r : ℕ) → count_by (λ k. k == r) xs ≡ 0) → length xs ≤ 0
no_numbers [] h = omega arith
no_numbers (x ∷ xs) h =
    let same : (x == x) ≡ true = grind (arith, nat_tests) in
    let none = sym (count_cons (λ k. k == x) x xs) ∙ h x in
    absurd (one_there (x == x) (count_by (λ k. k == x) xs) same none)
  where
    one_there : (b : Bool) (n : ℕ) → b ≡ true → cond b 1 0 + n ≡ 0 → ⊥
    one_there true n e h = absurd (omega arith)
    one_there false n e h = absurd cc

-- a list of numbers of which each is at most n, and stands in it once, isn't longer
at_most : (n : ℕ) (xs : List ℕ) → ((r : ℕ) → count_by (λ k. k == r) xs ≤ 1) → ((r : ℕ) → n < r → count_by (λ k. k == r) xs ≡ 0) → count_by (λ k. k == 0) xs ≡ 0 → length xs ≤ n
at_most zero xs once past none = no_numbers xs (λ r. elim (cases_lt 0 r) [ inl h ↦ past r h | inr h ↦ let z : r ≡ 0 = omega arith in rw z none ])
at_most (suc n) xs once past none =
    let rest = at_most n (others (suc n) xs) (λ r. elim (cases_eq r (suc n)) [ inl e ↦ rw (e, count_none (suc n) xs) (omega arith) | inr d ↦ rw (count_others r (suc n) xs d) (once r) ]) (λ r low. elim (cases_eq r (suc n)) [ inl e ↦ rw e (count_none (suc n) xs) | inr d ↦ rw (count_others r (suc n) xs d) (past r (omega arith)) ]) (count_others 0 (suc n) xs (λ e. absurd (omega arith)) ∙ none) in
    let here = once (suc n) in
    let whole = split (suc n) xs in
    omega arith

row_part : (f : Row → List ℕ) (rows : List Row) (i : ℕ) (x : Row) → slice_get rows i ≡ Some x → length (f x) ≤ length (flat_map f rows)
row_part f [] i x e = absurd cc
row_part f (r ∷ rows) zero x e =
    let is : r ≡ x = cc in
    rw (length-append (f r) (flat_map f rows), is) (omega arith)
row_part f (r ∷ rows) (suc i) x e =
    let rest = row_part f rows i x e in
    rw (length-append (f r) (flat_map f rows)) (omega arith)

row_kids_part : (rows : List Row) (row t : ℕ) (o : Option Row) → row_at rows row ≡ o → length (kids_with o t) ≤ length (flat_map (λ (r : Row). kids_at r t) rows)
row_kids_part rows row t None e = omega arith
row_kids_part rows zero t (Some x) e = absurd cc
row_kids_part rows (suc i) t (Some x) e = row_part (λ (r : Row). kids_at r t) rows i x e

kids_part_if : (m : Module) (u : Token) (t : ℕ) (a b : Bool) → (u.table == owner_table t) ≡ b → length (if a && b then kids_with (row_at (rows_in m u.table) u.row) t else []) ≤ length (all_kids m t)
kids_part_if m u t true true e = let is : u.table ≡ owner_table t = grind (arith, nat_tests) in rw is (row_kids_part (rows_in m (owner_table t)) u.row t _ refl)
kids_part_if m u t true false e = omega arith
kids_part_if m u t false b e = omega arith

kids_part : (m : Module) (u : Token) (t : ℕ) → length (kids_of m u t) ≤ length (all_kids m t)
unfolding kids_of row_of
kids_part m u t = kids_part_if m u t (is_child_table t) (u.table == owner_table t) refl

once_le : (b : Bool) (n : ℕ) → n ≡ cond b 1 0 → n ≤ 1
once_le true n e = omega arith
once_le false n e = omega arith

past_none : (r n x : ℕ) → x ≡ cond (nat_le 1 r && nat_le r n) 1 0 → n < r → x ≡ 0
past_none zero n x e h = absurd (omega arith)
past_none (suc r) n x e h = let a : nat_le (suc r) n ≡ false = grind (arith, nat_tests) in let b : nat_le 1 (suc r) ≡ true = grind (arith, nat_tests) in e ∙ rw (a, b) refl

zero_none : (n x : ℕ) → x ≡ cond (nat_le 1 0 && nat_le 0 n) 1 0 → x ≡ 0
zero_none n x e = e

-- where each child row has just one owner, all owners have no more children than there are rows
pub all_kids_few : (m : Module) (t : ℕ) → IsOwned m → is_child_table t ≡ true → length (all_kids m t) ≤ length (rows_in m t)
all_kids_few m t owned there =
    at_most (length (rows_in m t)) (all_kids m t) (λ r. once_le _ _ (owned.once t r there)) (λ r h. past_none r (length (rows_in m t)) _ (owned.once t r there) h) (zero_none (length (rows_in m t)) _ (owned.once t 0 there))

-- nor has one of them
pub few_kids : (m : Module) (u : Token) (t : ℕ) → IsOwned m → is_child_table t ≡ true → length (kids_of m u t) ≤ length (rows_in m t)
few_kids m u t owned there =
    let all = all_kids_few m t owned there in
    let part = kids_part m u t in
    omega arith

-- so the search for a child row's owner finds one
pub child_owned : (m : Module) (child : Token) (o : Option Token) → IsOwned m → IsTrue (has_row m child) → IsTrue (is_child_table child.table) → owner_of m child ≡ o → o ≡ None → ⊥
unfolding has_row
child_owned m child o owned row there e none =
    let low : 1 ≤ child.row = grind (arith, nat_tests) in
    let high : child.row ≤ length (rows_in m child.table) = grind (arith, nat_tests) in
    let w = has_owner m child owned there low high in
    let not : Some w.owner ≡ None = sym w.is ∙ e ∙ none in
    cc
