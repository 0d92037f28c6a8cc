-- Children of rows that go to other places: each row has its own, at their new places, and each child row is still a child once.
use Rattle.std.proofs.Common.{◌≡◌, ℕ, zero, suc, ◌+◌, ◌<◌, Bool, true, false, List, [], ◌∷◌, ◌++◌, length, map, Option, Some, None, refl, sym, ap, ◌∙◌, cond, inl, inr, arith}
use Rattle.std.specs.Prelude.{◌==◌, ◌&&◌, nat_le, nat_lt, slice_get, count_by, flat_map, unwrap_or, option_map, if◌then◌else◌}
use Rattle.std.specs.List.{sum_by, range_with_len}
use Rattle.std.proofs.lemmas.Bool.{cases_eq}
use Rattle.std.proofs.lemmas.Bool.Decides.{nat_tests}
use Rattle.std.proofs.lemmas.List.Sorted.{sum_by-IsPermutation}
use Rattle.std.proofs.lemmas.List.Sums.{sum_by-cons}
use Rattle.enc_base.specs.declared.token.Token.{Token}
use Rattle.enc_schema.specs.Schema.{list_at}
use Rattle.enc_schema.specs.Children.{is_child_table, owner_table, run_index, runs_in}
use Rattle.enc_rows.specs.Sums.{below}
use Rattle.enc_plain.specs.Apply.{childless}
use Rattle.enc_plain.specs.Fits.{HasRuns}
use Rattle.enc_plain.specs.Module.{Module, Row, rows_in, row_at, row_of, kids_at, kids_with, kids_of}
use Rattle.enc_plain.specs.Sound.{row_count, all_kids, IsOwned, HasTables, IsSound}
use Rattle.enc_plain.proofs.AttachedTo.{run_at}
use Rattle.enc_plain.proofs.Owned.{count_cons, count_append}
use Rattle.enc_row_order.specs.Orders.{Orders, place_in_order, old_row, moved_by, standing_rows, kids_listed}
use Rattle.enc_compact.specs.Moved.{AreOrders, children_moved, kids_moved, row_moved, rows_moved, module_with}
use Rattle.enc_compact.proofs.Places.{IsOrder, is_order, new_at, new_there, new_old, old_new}
use Rattle.enc_compact.proofs.Rows.{rows_new, count_moved, row_any, row_any_low, was_row}

-- the children of one run
kids_get : (f : Token → Token) (children : List ℕ) (kids : List (List ℕ)) (i child : ℕ) → slice_get children i ≡ Some child
    → list_at (kids_moved f children kids) i ≡ children_moved f child (list_at kids i)
unfolding kids_moved
kids_get f [] kids i child e = absurd cc
kids_get f (c ∷ cs) [] zero child e = refl
kids_get f (c ∷ cs) [] (suc i) child e = refl
kids_get f (c ∷ cs) (rows ∷ kids) zero child e = let is : c ≡ child = cc in ap (λ n. children_moved f n rows) is
kids_get f (c ∷ cs) (rows ∷ kids) (suc i) child e = kids_get f cs kids i child e

kids_many : (f : Token → Token) (children : List ℕ) (kids : List (List ℕ)) → length kids ≡ length children
    → length (kids_moved f children kids) ≡ length children
unfolding kids_moved
kids_many f [] [] e = refl
kids_many f [] (rows ∷ kids) e = refl
kids_many f (c ∷ cs) [] e = e
kids_many f (c ∷ cs) (rows ∷ kids) e = let less : length kids ≡ length cs = omega (arith, e) in ap suc (kids_many f cs kids less)

-- the children of a row that was moved
row_kids : (f : Token → Token) (child : ℕ) (r : Row) → is_child_table child ≡ true
    → kids_at (row_moved f (owner_table child) r) child ≡ children_moved f child (kids_at r child)
unfolding row_moved
row_kids f child r there = kids_get f (runs_in (owner_table child)) r.kids (run_index child) child (run_at child there)

row_runs : (f : Token → Token) (t : ℕ) (r q : Row) → q ≡ row_moved f t r → length r.kids ≡ length (runs_in t) → length q.kids ≡ length (runs_in t)
unfolding row_moved
row_runs f t r q e many = rw e (kids_many f (runs_in t) r.kids many)

-- each row has a list of children for each of its runs
pub runs_moved : (m : Module) (orders : Orders) → HasTables m → AreOrders m orders → HasRuns m → HasRuns (module_with orders m)
runs_moved m orders has are runs = record {
  each = λ t n q e. let w = was_row m orders t n q has are e in row_runs (moved_by orders) t w.row q w.is (runs.each t w.at w.row w.get);
}

kids_of_row : (f : Token → Token) (t child : ℕ) (o : Option Row) → is_child_table child ≡ true → t ≡ owner_table child
    → kids_with (option_map (row_moved f t) o) child ≡ children_moved f child (kids_with o child)
kids_of_row f t child None there e = refl
kids_of_row f t child (Some r) there e = ap (λ n. kids_at (row_moved f n r) child) e ∙ row_kids f child r there

kids_if : (f : Token → Token) (t child : ℕ) (o : Option Row) (a b : Bool) → is_child_table child ≡ a → (t == owner_table child) ≡ b
    → (if a && b then kids_with (option_map (row_moved f t) o) child else []) ≡ children_moved f child (if a && b then kids_with o child else [])
kids_if f t child o true true there e = let is : t ≡ owner_table child = grind (arith, nat_tests) in kids_of_row f t child o there is
kids_if f t child o true false there e = refl
kids_if f t child o false b there e = refl

kids_at_token : (m q : Module) (f : Token → Token) (u v : Token) (child : ℕ) → v.table ≡ u.table → row_of q v ≡ option_map (row_moved f u.table) (row_of m u)
    → kids_of q v child ≡ children_moved f child (kids_of m u child)
unfolding kids_of
kids_at_token m q f u v child same e =
    rw (e, same) (kids_if f u.table child (row_of m u) (is_child_table child) (u.table == owner_table child) refl refl)

table_stays : (orders : Orders) (u : Token) → (moved_by orders u).table ≡ u.table
unfolding moved_by
table_stays orders u = refl

-- the children of a moved row are those that it had, moved
pub moved_kids : (m : Module) (orders : Orders) (u : Token) (child : ℕ) → HasTables m → AreOrders m orders
    → kids_of (module_with orders m) (moved_by orders u) child ≡ children_moved (moved_by orders) child (kids_of m u child)
moved_kids m orders u child has are =
    kids_at_token m (module_with orders m) (moved_by orders) u (moved_by orders u) child (table_stays orders u) (row_any m orders u has are)

pub moved_kids_low : (m : Module) (orders : Orders) (u : Token) (child : ℕ) → AreOrders m orders → u.table < 0x2D
    → kids_of (module_with orders m) (moved_by orders u) child ≡ children_moved (moved_by orders) child (kids_of m u child)
moved_kids_low m orders u child are low =
    kids_at_token m (module_with orders m) (moved_by orders) u (moved_by orders u) child (table_stays orders u) (row_any_low m orders u are low)

-- a row with no children
none_at : (children : List ℕ) (i : ℕ) → list_at {A = ℕ} (map (λ (c : ℕ). []) children) i ≡ []
none_at [] i = refl
none_at (c ∷ cs) zero = refl
none_at (c ∷ cs) (suc i) = none_at cs i

kids_or : (t child : ℕ) (o : Option Row) → kids_at (unwrap_or o (childless t [])) child ≡ kids_with o child
kids_or t child None = none_at (runs_in t) (run_index child)
kids_or t child (Some r) = refl

-- children listed owner by owner
flat_same : {A : Type 0} (f g : A → List ℕ) (xs : List A) → ((x : A) → f x ≡ g x) → flat_map f xs ≡ flat_map g xs
flat_same f g [] h = refl
flat_same f g (x ∷ xs) h = rw (h x, flat_same f g xs h) refl

flat_mapped : {A B : Type 0} (f : B → List ℕ) (g : A → B) (xs : List A) → flat_map f (map g xs) ≡ flat_map (λ x. f (g x)) xs
flat_mapped f g [] = refl
flat_mapped f g (x ∷ xs) = ap (λ ys. f (g x) ++ ys) (flat_mapped f g xs)

map_both : (h : ℕ → ℕ) (xs ys : List ℕ) → map h xs ++ map h ys ≡ map h (xs ++ ys)
map_both h [] ys = refl
map_both h (x ∷ xs) ys = ap (λ zs. h x ∷ zs) (map_both h xs ys)

map_flat : {A : Type 0} (h : ℕ → ℕ) (f : A → List ℕ) (xs : List A) → flat_map (λ x. map h (f x)) xs ≡ map h (flat_map f xs)
map_flat h f [] = refl
map_flat h f (x ∷ xs) = ap (λ ys. map h (f x) ++ ys) (map_flat h f xs) ∙ map_both h (f x) (flat_map f xs)

owner_kids : (m : Module) (child row : ℕ) → is_child_table child ≡ true
    → kids_of m (record { table = owner_table child; row = row }) child ≡ kids_with (row_at (rows_in m (owner_table child)) row) child
unfolding kids_of row_of
owner_kids m child row there = let same : (owner_table child == owner_table child) ≡ true = grind (arith, nat_tests) in rw (there, same) refl

order_kids : (m : Module) (f : Token → Token) (child : ℕ) (order : List ℕ) → is_child_table child ≡ true
    → flat_map (λ (r : Row). kids_at r child) (rows_moved f (owner_table child) order (rows_in m (owner_table child)))
    ≡ children_moved f child (kids_listed m order child)
unfolding rows_moved kids_listed
order_kids m f child order there =
    let t : ℕ = owner_table child in
    let rows : List Row = rows_in m t in
    flat_mapped (λ (r : Row). kids_at r child) (λ row. row_moved f t (unwrap_or (row_at rows row) (childless t []))) order
    ∙ flat_same _ (λ row. children_moved f child (kids_of m (record { table = t; row = row }) child)) order (λ row.
    row_kids f child (unwrap_or (row_at rows row) (childless t [])) there
    ∙ ap (children_moved f child) (kids_or t child (row_at rows row) ∙ sym (owner_kids m child row there)))
    ∙ map_flat (λ row. (f (record { table = child; row = row })).row) (λ row. kids_of m (record { table = t; row = row }) child) order

-- the children of all rows in their new order
pub all_kids_moved : (m : Module) (orders : Orders) (child : ℕ) → HasTables m → AreOrders m orders → is_child_table child ≡ true
    → all_kids (module_with orders m) child ≡ children_moved (moved_by orders) child (kids_listed m (orders (owner_table child)) child)
all_kids_moved m orders child has are there =
    ap (λ (rows : List Row). flat_map (λ (r : Row). kids_at r child) rows) (rows_new m orders (owner_table child) has are)
    ∙ order_kids m (moved_by orders) child (orders (owner_table child)) there

-- listed as the rows stand, they are all children
from_rows : (m : Module) (child a : ℕ) (all rows : List Row) → ((i : ℕ) → slice_get all (a + i) ≡ slice_get rows i)
    → flat_map (λ row. kids_with (row_at all row) child) (map (λ n. n + 1) (range_with_len a (length rows))) ≡ flat_map (λ (r : Row). kids_at r child) rows
from_rows m child a all [] h = refl
from_rows m child a all (r ∷ rows) h =
    let s : a + 1 ≡ suc a = omega arith in
    let z : a ≡ a + 0 = omega arith in
    let here : row_at all (a + 1) ≡ Some r = ap (row_at all) s ∙ ap (slice_get all) z ∙ h 0 in
    let rest = from_rows m child (a + 1) all rows (λ i. let e : a + 1 + i ≡ a + suc i = omega arith in ap (slice_get all) e ∙ h (suc i)) in
    ap
    (λ (o : Option Row). kids_with o child ++ flat_map (λ row. kids_with (row_at all row) child) (map (λ n. n + 1) (range_with_len (a + 1) (length rows)))) here
    ∙ ap (λ ys. kids_at r child ++ ys) rest

pub listed_kids : (m : Module) (child : ℕ) → is_child_table child ≡ true → kids_listed m (standing_rows m (owner_table child)) child ≡ all_kids m child
unfolding kids_listed standing_rows below
listed_kids m child there =
    let rows : List Row = rows_in m (owner_table child) in
    flat_same _ (λ row. kids_with (row_at rows row) child) (map (λ n. n + 1) (range_with_len 0 (length rows))) (λ row. owner_kids m child row there)
    ∙ from_rows m child 0 rows rows (λ i. let e : 0 + i ≡ i = omega arith in ap (slice_get rows) e)

-- how often a child stands among them does not depend on the order of owners
count_flat : {A : Type 0} (q : ℕ → Bool) (f : A → List ℕ) (xs : List A) → count_by q (flat_map f xs) ≡ sum_by (λ x. count_by q (f x)) xs
count_flat q f [] = refl
count_flat q f (x ∷ xs) =
    count_append q (f x) (flat_map f xs) ∙ ap (λ n. count_by q (f x) + n) (count_flat q f xs) ∙ sym (sum_by-cons (λ y. count_by q (f y)) x xs)

count_ordered : (m : Module) (orders : Orders) (child : ℕ) (q : ℕ → Bool) → AreOrders m orders
    → count_by q (kids_listed m (orders (owner_table child)) child) ≡ count_by q (kids_listed m (standing_rows m (owner_table child)) child)
unfolding kids_listed
count_ordered m orders child q are =
    let f : ℕ → List ℕ = λ row. kids_of m (record { table = owner_table child; row = row }) child in
    count_flat q f (orders (owner_table child))
    ∙ sum_by-IsPermutation (λ row. count_by q (f row)) (standing_rows m (owner_table child)) (orders (owner_table child)) (are.each (owner_table child))
    ∙ sym (count_flat q f (standing_rows m (owner_table child)))

count_listed : (m : Module) (orders : Orders) (child : ℕ) (q : ℕ → Bool) → AreOrders m orders → is_child_table child ≡ true
    → count_by q (kids_listed m (orders (owner_table child)) child) ≡ count_by q (all_kids m child)
count_listed m orders child q are there = count_ordered m orders child q are ∙ ap (count_by q) (listed_kids m child there)

count_map : (q : ℕ → Bool) (g : ℕ → ℕ) (xs : List ℕ) → count_by q (map g xs) ≡ count_by (λ x. q (g x)) xs
count_map q g [] = refl
count_map q g (x ∷ xs) =
    count_cons q (g x) (map g xs) ∙ ap (λ n. cond (q (g x)) 1 0 + n) (count_map q g xs) ∙ sym (count_cons (λ y. q (g y)) x xs)

pub same_place : (n : ℕ) (rows : List ℕ) (k row : ℕ) → IsOrder n rows → (place_in_order rows k == row) ≡ (k == old_row rows row)
same_place n rows k row order = by_both (place_in_order rows k) (old_row rows row)
    (λ e. sym (old_new n rows k order) ∙ ap (old_row rows) e) (λ e. ap (place_in_order rows) e ∙ new_old n rows row order)
  where
    by_both : (a b : ℕ) → (a ≡ row → k ≡ b) → (k ≡ b → a ≡ row) → (a == row) ≡ (k == b)
    by_both a b f g = elim (cases_eq a row) [
      | inl e ↦ let h = f e in let x : (a == row) ≡ true = grind (arith, nat_tests) in let y : (k == b) ≡ true = grind (arith, nat_tests) in x ∙ sym y
      | inr d ↦ elim (cases_eq k b) [
        | inl e ↦ absurd (d (g e))
        | inr n ↦ let x : (a == row) ≡ false = grind (arith, nat_tests) in let y : (k == b) ≡ false = grind (arith, nat_tests) in x ∙ sym y
      ]
    ]

low_same : (r : ℕ) → nat_lt 0 r ≡ nat_le 1 r
low_same r = grind (arith, nat_tests)

pub old_there : (n : ℕ) (rows : List ℕ) (row : ℕ) → IsOrder n rows
    → (nat_le 1 (old_row rows row) && nat_le (old_row rows row) n) ≡ (nat_le 1 row && nat_le row n)
old_there n rows row order =
    let there = new_there n rows (old_row rows row) order in
    let e : (nat_lt 0 row && nat_le row n) ≡ (nat_lt 0 (old_row rows row) && nat_le (old_row rows row) n) =
    ap (λ r. nat_lt 0 r && nat_le r n) (sym (new_old n rows row order)) ∙ there in
    ap (λ b. b && nat_le (old_row rows row) n) (sym (low_same (old_row rows row))) ∙ sym e ∙ ap (λ b. b && nat_le row n) (low_same row)

pub child_row : (orders : Orders) (child : ℕ) (rows : List ℕ) → children_moved (moved_by orders) child rows ≡ map (place_in_order (orders child)) rows
unfolding moved_by
child_row orders child rows = refl

count_moved_kids : (m : Module) (orders : Orders) (child row : ℕ) → HasTables m → AreOrders m orders → IsOwned m → is_child_table child ≡ true
    → count_by (λ k. k == row) (all_kids (module_with orders m) child) ≡ cond (nat_le 1 row && nat_le row (row_count m child)) 1 0
count_moved_kids m orders child row has are owned there =
    let order = is_order m orders child are in
    let kids : List ℕ = kids_listed m (orders (owner_table child)) child in
    let back : (λ (k : ℕ). place_in_order (orders child) k == row) ≡ (λ (k : ℕ). k == old_row (orders child) row) =
    λ i k. same_place (row_count m child) (orders child) k row order i in
    ap (count_by (λ k. k == row)) (all_kids_moved m orders child has are there ∙ child_row orders child kids)
    ∙ count_map (λ k. k == row) (place_in_order (orders child)) kids
    ∙ ap (λ (q : ℕ → Bool). count_by q kids) back
    ∙ count_listed m orders child (λ k. k == old_row (orders child) row) are there
    ∙ owned.once child (old_row (orders child) row) there
    ∙ ap (λ b. cond b 1 0) (old_there (row_count m child) (orders child) row order)

-- each child row is a child once
pub owned_moved : (m : Module) (orders : Orders) → HasTables m → AreOrders m orders → IsOwned m → IsOwned (module_with orders m)
owned_moved m orders has are owned = record {
  once = λ child row there.
      count_moved_kids m orders child row has are owned there
      ∙ ap (λ n. cond (nat_le 1 row && nat_le row n) 1 0) (sym (count_moved m orders child has are));
}

-- children that are listed owner by owner in the new order get the numbers 1, 2, 3 ..
in_order : (rows xs : List ℕ) (a : ℕ) → ((i r : ℕ) → slice_get xs i ≡ Some r → place_in_order rows r ≡ a + i + 1)
    → map (place_in_order rows) xs ≡ map (λ n. n + 1) (range_with_len a (length xs))
in_order rows [] a h = refl
in_order rows (x ∷ xs) a h =
    let z : a + 0 + 1 ≡ a + 1 = omega arith in
    let rest = in_order rows xs (a + 1) (λ i r e. let s : a + suc i + 1 ≡ a + 1 + i + 1 = omega arith in h (suc i) r e ∙ s) in
    rw (h 0 x refl ∙ z, rest) refl

order_listed : (m : Module) (orders : Orders) (t : ℕ) → AreOrders m orders → map (place_in_order (orders t)) (orders t) ≡ standing_rows m t
unfolding standing_rows below
order_listed m orders t are =
    let order = is_order m orders t are in
    in_order (orders t) (orders t) 0 (λ i r e. let s : i + 1 ≡ 0 + i + 1 = omega arith in new_at (row_count m t) (orders t) i r order e ∙ s)
    ∙ ap (λ n. map (λ k. k + 1) (range_with_len 0 n)) order.many

pub kids_in_order : (m : Module) (orders : Orders) (child : ℕ) → is_child_table child ≡ true → AreOrders m orders → IsSound m
    → orders child ≡ kids_listed m (orders (owner_table child)) child → all_kids (module_with orders m) child ≡ standing_rows m child
kids_in_order m orders child there are sound e =
    all_kids_moved m orders child sound.owners.tables are there
    ∙ child_row orders child (kids_listed m (orders (owner_table child)) child)
    ∙ ap (map (place_in_order (orders child))) (sym e)
    ∙ order_listed m orders child are
