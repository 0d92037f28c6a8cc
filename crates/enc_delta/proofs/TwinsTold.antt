-- A pair's twins stand in its bucket.
use Rattle.std.proofs.Common.{◌≡◌, ℕ, zero, suc, ◌+◌, ◌<◌, Bool, true, false, List, [], ◌∷◌, ◌++◌, length, take, get_or, map, Option, Some, None, refl, sym, ap, ◌∙◌, inl, inr, arith}
use Rattle.std.specs.Prelude.{◌==◌, ◌&&◌, ◌||◌, not, filter, nat_lt, nat_le, bytes_eq}
use Rattle.std.specs.List.{list_any}
use Rattle.std.proofs.lemmas.Bool.Decides.{nat_tests}
use Rattle.std.proofs.lemmas.List.{map-append, append-nil}
use Rattle.std.proofs.lemmas.List.Elements.{filter_more}
use Rattle.std.proofs.lemmas.List.Folds.{list_all_more}
use Rattle.std.proofs.lemmas.Option.{slice_get_past}
use Rattle.std.proofs.lemmas.Slice.Eq.{bytes_eq-Decides}
use Rattle.enc_base.specs.Token.{number_of}
use Rattle.enc_base.specs.declared.token.Token.{Token}
use Rattle.enc_schema.specs.Children.{is_child_table, owner_table}
use Rattle.enc_plain.specs.Module.{Module, Row, row_at, row_of, rows_in, has_row, kids_of, kids_with}
use Rattle.enc_plain.specs.Apply.{Attached}
use Rattle.enc_plain.proofs.Columns.{both_left, both_right}
use Rattle.enc_delta.specs.declared.pairs.Pair.{Pair}
use Rattle.enc_delta.specs.Rules.{least, lesser}
use Rattle.enc_delta.specs.Twins.{Asked, is_twin}
use Rattle.enc_delta.specs.Members.{pair_seen, is_beside, old_rows, AreAdded, AreOld, AreChildren}
use Rattle.enc_delta.proofs.ListsChildren.{two}
use Rattle.enc_delta.proofs.MembersBeside.{no_pair, any_same, table_same}

-- what is no row has no children
row_none : (rows : List Row) (r : ℕ) → (nat_lt 0 r && nat_le r (length rows)) ≡ false → row_at rows r ≡ None
row_none rows zero h = refl
row_none rows (suc i) h = slice_get_past rows i (grind (arith, nat_tests))

no_kids : (m : Module) (u : Token) (child : ℕ) → has_row m u ≡ false → kids_of m u child ≡ []
unfolding kids_of row_of has_row
no_kids m u child h = elim (two (is_child_table child && u.table == owner_table child)) [ inl a ↦ rw a (ap (λ r. kids_with r child) (row_none (rows_in m u.table) u.row h)) | inr a ↦ rw a refl ]

pub old_none : (m : Module) (a : Pair) → has_row m a.owner ≡ false → old_rows m a ≡ []
unfolding old_rows
old_none m a h = elim (two (is_child_table a.child.table)) [ inl c ↦ rw c (no_kids m a.owner a.child.table h) | inr c ↦ rw c refl ]

-- the pairs whose children count, in any order
pub old_are : (q : Asked) (m : Module) (pairs grouped old : List Pair) → ((f : Pair → Bool) → list_any f grouped ≡ list_any (λ (k : Pair). q.counts k.child && f k) pairs) → AreAdded m [] grouped old → AreOld q m pairs old
old_are q m pairs grouped old same added = λ a p child. added a p child ∙ ap (λ b. b && list_any p (kids_of m a.owner a.child.table)) (same (is_beside a))

-- a twin counts and has the same name
pub twin_counts : (q : Asked) (t u : Token) → is_twin q t u ≡ true → q.counts u ≡ true
twin_counts q t u h = both_right (not (t.row == u.row)) (q.counts u) (both_left (not (t.row == u.row) && q.counts u) (bytes_eq (q.name t) (q.name u)) (both_left (not (t.row == u.row) && q.counts u && bytes_eq (q.name t) (q.name u)) (q.alike t u) h))

pub twin_name : (q : Asked) (t u : Token) → is_twin q t u ≡ true → q.name t ≡ q.name u
twin_name q t u h = (bytes_eq-Decides (q.name t) (q.name u)).0 (both_right (not (t.row == u.row) && q.counts u) (bytes_eq (q.name t) (q.name u)) (both_left (not (t.row == u.row) && q.counts u && bytes_eq (q.name t) (q.name u)) (q.alike t u) h))

pub twin_alike : (q : Asked) (t u : Token) → is_twin q t u ≡ true → q.alike t u ≡ true
twin_alike q t u h = both_right (not (t.row == u.row) && q.counts u && bytes_eq (q.name t) (q.name u)) (q.alike t u) h

pub child_is : (a k : Pair) → is_beside a k ≡ true → k.child ≡ record { table = a.child.table; row = k.child.row }
child_is a k h = let with_table : ℕ → Token = λ n. record { table = n; row = k.child.row } in ap with_table (table_same a k h)

pub absorbed : (p r : Pair → Bool) (xs : List Pair) → ((x : Pair) → p x ≡ true → r x ≡ true) → list_any (λ x. r x && p x) xs ≡ list_any p xs
absorbed p r xs h = any_same (λ x. r x && p x) p xs (λ x. elim (two (p x)) [ inl a ↦ rw (a, h x a) refl | inr a ↦ rw a (and_false (r x)) ])
  where
    and_false : (b : Bool) → (b && false) ≡ false
    and_false true = refl
    and_false false = refl

pub swap_or : (a b : Bool) → (a || (true && b)) ≡ (b || a)
swap_or true true = refl
swap_or true false = refl
swap_or false true = refl
swap_or false false = refl

pub filtered : (test : Pair → Bool) (has : Attached → Bool) (xs : List Pair) → ((i : ℕ) → i < length xs → test (get_or xs i no_pair) ≡ has (pair_seen (get_or xs i no_pair))) → map (λ (k : Pair). number_of k.child) (filter test xs) ≡ map (λ (a : Attached). number_of a.child) (filter has (map pair_seen xs))
filtered test has [] h = refl
filtered test has (x ∷ xs) h =
    let e = h 0 (omega arith) in
    let rest = filtered test has xs (λ i l. h (suc i) (omega arith)) in
    elim (two (test x)) [ inl a ↦ rw (a, sym e ∙ a) (ap (λ ns. number_of x.child ∷ ns) rest) | inr a ↦ rw (a, sym e ∙ a) rest ]

-- the least so far
swap_lesser : (n m : ℕ) (o : Option ℕ) → lesser n (lesser m o) ≡ lesser m (lesser n o)
swap_lesser n m None = ap (λ x. Some x) (omega arith)
swap_lesser n m (Some k) = ap (λ x. Some x) (omega arith)

pub least_more : (ns : List ℕ) (n : ℕ) → least (ns ++ n ∷ []) ≡ lesser n (least ns)
least_more [] n = refl
least_more (m ∷ ns) n = ap (λ o. lesser m o) (least_more ns n) ∙ swap_lesser m n (least ns)

pub twin_more : (test : Pair → Bool) (pairs : List Pair) (i : ℕ) → i < length pairs → test (get_or pairs i no_pair) ≡ true → least (map (λ (k : Pair). number_of k.child) (filter test (take (i + 1) pairs))) ≡ lesser (number_of (get_or pairs i no_pair).child) (least (map (λ (k : Pair). number_of k.child) (filter test (take i pairs))))
twin_more test pairs i l is = rw (filter_more test pairs i no_pair l, is, map-append) (least_more (map (λ (k : Pair). number_of k.child) (filter test (take i pairs))) (number_of (get_or pairs i no_pair).child))

pub twin_past : (test : Pair → Bool) (pairs : List Pair) (i : ℕ) → i < length pairs → test (get_or pairs i no_pair) ≡ false → least (map (λ (k : Pair). number_of k.child) (filter test (take (i + 1) pairs))) ≡ least (map (λ (k : Pair). number_of k.child) (filter test (take i pairs)))
twin_past test pairs i l is = rw (filter_more test pairs i no_pair l, is, append-nil) refl

implied : (a b : Bool) → (a ≡ true → b ≡ true) → (not a || b) ≡ true
implied true b h = h refl
implied false b h = refl

pub children_more : (q : Asked) (pairs : List Pair) (i : ℕ) → i < length pairs → AreChildren q (take i pairs) → (q.counts (get_or pairs i no_pair).child ≡ true → is_child_table (get_or pairs i no_pair).child.table ≡ true) → AreChildren q (take (i + 1) pairs)
children_more q pairs i l done is = list_all_more (λ (k : Pair). not (q.counts k.child) || is_child_table k.child.table) pairs i no_pair l ∙ rw (done, implied (q.counts (get_or pairs i no_pair).child) (is_child_table (get_or pairs i no_pair).child.table) is) refl
