-- The children that are read of an image that was written are those of the module.
use Rattle.std.proofs.Common.{◌≡◌, ℕ, zero, suc, ◌+◌, ◌-◌, ◌<◌, ◌≤◌, Bool, true, false, List, [], ◌∷◌, ◌++◌, length, map, Some, refl, sym, ap, ◌∙◌, subst, inl, inr, arith}
use Rattle.std.specs.Prelude.{◌==◌, slice_get, flat_map}
use Rattle.std.specs.List.{range_with_len}
use Rattle.std.proofs.lemmas.Bool.{cases_lt, cases_eq, lt-ltb, le-ltb}
use Rattle.std.proofs.lemmas.Bool.Decides.{nat_tests}
use Rattle.std.proofs.lemmas.List.Concat.{flat_map-cons}
use Rattle.enc_base.specs.Token.{nth_row}
use Rattle.enc_image.specs.Base.{rows_from}
use Rattle.enc_meta.specs.Built.{Built, heaps_built}
use Rattle.enc_plain.proofs.Columns.{both_left, both_right}
use Rattle.enc_plain.specs.Module.{Module, Row, rows_in, kids_at}
use Rattle.enc_plain.specs.Sound.{row_count, all_kids, is_part, IsSound}
use Rattle.enc_rows.specs.Layout.{rows_of}
use Rattle.enc_rows.specs.Runs.{goes_by_ptr, run_rows, run_start, run_end, by_ptr, named_at, children_of, all_children}
use Rattle.enc_rows.specs.Source.{Source, raw_in}
use Rattle.enc_rows.specs.Sums.{below}
use Rattle.enc_rows.specs.Written.{rows_at}
use Rattle.enc_schema.proofs.ChildTables.{by_child, run_column_is}
use Rattle.enc_schema.specs.Children.{is_child_table, owner_table, run_column, runs_in, ptr_of}
use Rattle.enc_schema.specs.Schema.{column_in, list_at}
use Rattle.enc_schema.specs.declared.column.Column.TheVariants.{Run}
use Rattle.enc_rewriter.specs.Numbers.{run_first, kids_before, in_order_from, is_in_row_order, rows_of_one, ptr_rows, HoldRows}
use Rattle.enc_rewriter.specs.Placed.{Placed}
use Rattle.enc_rewriter.specs.Rewritten.{HoldModule}
use Rattle.enc_rewriter.proofs.KidsCounted.{all_kids_many, kid_bounds, kid_at, run_is, run_behind, run_last}
use Rattle.enc_rewriter.proofs.KidsListed.{length_of_one}
use Rattle.enc_rewriter.proofs.NumbersWritten.{number_written, run_written, there}
use Rattle.enc_rewriter.proofs.ReadAs.{IsReadAs}
use Rattle.enc_rewriter.proofs.RunStarts.{owners}

-- what was written of a sound module, and what is read of it
pub record IsKnown (m : Module) (h : Built) (p : Placed) (rows : List (List (List ℕ))) (s : Source) : Type 0 where
  pub sound : IsSound m
  pub said : HoldRows m (heaps_built h) p rows
  pub read : IsReadAs m h p rows s

pub known_of : (m : Module) (h : Built) (p : Placed) (rows : List (List (List ℕ))) (s : Source) → IsSound m → HoldModule m h p rows → IsReadAs m h p rows s → IsKnown m h p rows s
known_of m h p rows s sound hold read = record { sound = sound; said = hold.said; read = read }

pub child_part : (child : ℕ) → is_child_table child ≡ true → is_part child ≡ true
child_part child is = by_child (λ k. is_part k ≡ true) refl refl refl refl refl child is

pub owner_part : (child : ℕ) → is_child_table child ≡ true → is_part (owner_table child) ≡ true
owner_part child is = by_child (λ k. is_part (owner_table k) ≡ true) refl refl refl refl refl child is

pub child_low : (child : ℕ) → is_child_table child ≡ true → child < 64
child_low child is = by_child (λ k. k < 64) (omega arith) (omega arith) (omega arith) (omega arith) (omega arith) child is

pub owner_low : (child : ℕ) → is_child_table child ≡ true → owner_table child < 64
owner_low child is = by_child (λ k. owner_table k < 64) (omega arith) (omega arith) (omega arith) (omega arith) (omega arith) child is

pub ptr_low : (child : ℕ) → is_child_table child ≡ true → ptr_of child < 64
ptr_low child is = by_child (λ k. ptr_of k < 64) (omega arith) (omega arith) (omega arith) (omega arith) (omega arith) child is

-- a table of the module has its rows
pub count_read : {m : Module} {h : Built} {p : Placed} {rows : List (List (List ℕ))} {s : Source} → IsKnown m h p rows s → (t : ℕ) → is_part t ≡ true → t < 64
    → rows_of s.layout t ≡ row_count m t
count_read known t part low = known.read.counts t low ∙ (known.said.parts t part).count

-- a run is read as it begins
pub run_read : {m : Module} {h : Built} {p : Placed} {rows : List (List (List ℕ))} {s : Source} → IsKnown m h p rows s → (t i child n : ℕ) → column_in t i ≡ Some (Run child)
    → n < row_count m t → raw_in s (nth_row t n) i ≡ run_first m child (n + 1)
run_read {m} {h} {p} {rows} {s} known t i child n e low =
    let o = owners t i child e in
    let part : is_part t ≡ true = subst (λ k. is_part k ≡ true) (sym o.0) (owner_part child o.1) in
    let w = number_written m (heaps_built h) p rows t n i (Run child) known.said part low e in
    let is : w.number ≡ run_first m child (n + 1) = run_written m (heaps_built h) p (nth_row t n) i child w.number e w.says in
    known.read.numbers t n i w.cells w.number w.row w.get ∙ is

-- the rows of a Ptr table, where children stand in row order and where they don't
in_order : (m : Module) (child : ℕ) → is_in_row_order (all_kids m child) ≡ true → ptr_rows m child ≡ []
unfolding ptr_rows
in_order m child e = rw e refl

out_of_order : (m : Module) (child : ℕ) → is_in_row_order (all_kids m child) ≡ false → ptr_rows m child ≡ rows_of_one (all_kids m child)
unfolding ptr_rows
out_of_order m child e = rw e refl

pub one_get : (kids : List ℕ) (k x : ℕ) → slice_get kids k ≡ Some x → slice_get (rows_of_one kids) k ≡ Some (x ∷ [])
unfolding rows_of_one
one_get [] k x e = absurd cc
one_get (y ∷ kids) zero x e = let is : y ≡ x = cc in ap (λ v. Some (v ∷ [])) is
one_get (y ∷ kids) (suc k) x e = one_get kids k x e

some_out : (xs : List ℕ) (a : ℕ) → in_order_from a xs ≡ false → 0 < length xs
some_out [] a e = absurd cc
some_out (x ∷ xs) a e = omega arith

order_get : (xs : List ℕ) (a k x : ℕ) → in_order_from a xs ≡ true → slice_get xs k ≡ Some x → x ≡ a + k
order_get [] a k x h e = absurd cc
order_get (y ∷ ys) a zero x h e =
    let is : y ≡ x = cc in
    let same = both_left (y == a) (in_order_from (a + 1) ys) h in
    let here : y ≡ a = grind (arith, nat_tests) in
    omega (arith, is, here)
order_get (y ∷ ys) a (suc k) x h e =
    let rest = order_get ys (a + 1) k x (both_right (y == a) (in_order_from (a + 1) ys) h) e in
    omega (arith, rest)

-- how many rows the Ptr table of a child table has
ptr_count : {m : Module} {h : Built} {p : Placed} {rows : List (List (List ℕ))} {s : Source} → IsKnown m h p rows s → (child : ℕ) → is_child_table child ≡ true
    → rows_of s.layout (ptr_of child) ≡ length (ptr_rows m child)
ptr_count known child is = known.read.counts (ptr_of child) (ptr_low child is) ∙ ap (λ (r : List (List ℕ)). length r) (known.said.ptrs child is)

direct : {m : Module} {h : Built} {p : Placed} {rows : List (List (List ℕ))} {s : Source} → IsKnown m h p rows s → (child : ℕ) → is_child_table child ≡ true
    → is_in_row_order (all_kids m child) ≡ true → goes_by_ptr s.layout child ≡ false
direct {m} {h} {p} {rows} {s} known child is ordered =
    let none : rows_of s.layout (ptr_of child) ≡ 0 = ptr_count known child is ∙ ap (λ (r : List (List ℕ)). length r) (in_order m child ordered) in
    le-ltb 0 (rows_of s.layout (ptr_of child)) (omega (arith, none))

ptr_many : {m : Module} {h : Built} {p : Placed} {rows : List (List (List ℕ))} {s : Source} → IsKnown m h p rows s → (child : ℕ) → is_child_table child ≡ true
    → is_in_row_order (all_kids m child) ≡ false → rows_of s.layout (ptr_of child) ≡ length (all_kids m child)
ptr_many {m} {h} {p} {rows} {s} known child is other =
    ptr_count known child is ∙ ap (λ (r : List (List ℕ)). length r) (out_of_order m child other) ∙ length_of_one (all_kids m child)

by_ptrs : {m : Module} {h : Built} {p : Placed} {rows : List (List (List ℕ))} {s : Source} → IsKnown m h p rows s → (child : ℕ) → is_child_table child ≡ true
    → is_in_row_order (all_kids m child) ≡ false → goes_by_ptr s.layout child ≡ true
by_ptrs {m} {h} {p} {rows} {s} known child is other =
    let many = ptr_many known child is other in
    let some = some_out (all_kids m child) 1 other in
    lt-ltb 0 (rows_of s.layout (ptr_of child)) (omega (arith, many, some))

run_rows_by : {m : Module} {h : Built} {p : Placed} {rows : List (List (List ℕ))} {s : Source} → IsKnown m h p rows s → (child : ℕ) (ordered : Bool) → is_child_table child ≡ true
    → is_in_row_order (all_kids m child) ≡ ordered → run_rows s.layout child ≡ row_count m child
run_rows_by {m} {h} {p} {rows} {s} known child true is ordered = rw (direct known child is ordered) (count_read known child (child_part child is) (child_low child is))
run_rows_by {m} {h} {p} {rows} {s} known child false is other = rw (by_ptrs known child is other) (ptr_many known child is other ∙ all_kids_many m child known.sound.owners.owned is)

-- runs name as many places as the child table has rows
pub run_rows_are : {m : Module} {h : Built} {p : Placed} {rows : List (List (List ℕ))} {s : Source} → IsKnown m h p rows s → (child : ℕ) → is_child_table child ≡ true
    → run_rows s.layout child ≡ row_count m child
run_rows_are {m} {h} {p} {rows} {s} known child is = run_rows_by known child (is_in_row_order (all_kids m child)) is refl

by_some : (x : ℕ) → 1 ≤ x → by_ptr x ≡ x ∷ []
by_some zero low = absurd (omega (arith, low))
by_some (suc x) low = refl

named_by : {m : Module} {h : Built} {p : Placed} {rows : List (List (List ℕ))} {s : Source} → IsKnown m h p rows s → (child k x : ℕ) (ordered : Bool) → is_child_table child ≡ true
    → is_in_row_order (all_kids m child) ≡ ordered → slice_get (all_kids m child) k ≡ Some x → named_at (rows_from s) child (k + 1) ≡ x ∷ []
unfolding named_at
named_by {m} {h} {p} {rows} {s} known child k x true is ordered get =
    let e = order_get (all_kids m child) 1 k x ordered get in
    let same : k + 1 ≡ x = omega (arith, e) in
    rw (direct known child is ordered) (ap (λ v. v ∷ []) same)
named_by {m} {h} {p} {rows} {s} known child k x false is other get =
    let low = kid_bounds m child k x known.sound.owners.owned is get in
    let row : slice_get (rows_at rows (ptr_of child)) k ≡ Some (x ∷ []) =
    ap (λ (r : List (List ℕ)). slice_get r k) (known.said.ptrs child is ∙ out_of_order m child other) ∙ one_get (all_kids m child) k x get in
    let number : raw_in s (nth_row (ptr_of child) k) 0 ≡ x = known.read.numbers (ptr_of child) k 0 (x ∷ []) x row refl in
    rw (by_ptrs known child is other) (ap by_ptr number ∙ by_some x low.0)

-- each of them the child that stands there among all children
pub named_is : {m : Module} {h : Built} {p : Placed} {rows : List (List (List ℕ))} {s : Source} → IsKnown m h p rows s → (child k x : ℕ) → is_child_table child ≡ true
    → slice_get (all_kids m child) k ≡ Some x → named_at (rows_from s) child (k + 1) ≡ x ∷ []
named_is {m} {h} {p} {rows} {s} known child k x is get = named_by known child k x (is_in_row_order (all_kids m child)) is refl get

-- a run ends where the next one begins
pub end_read : {m : Module} {h : Built} {p : Placed} {rows : List (List (List ℕ))} {s : Source} → IsKnown m h p rows s → (t i child n : ℕ) → column_in t i ≡ Some (Run child)
    → n < row_count m t → run_end (rows_from s) t i child n ≡ run_first m child (n + 1 + 1)
end_read {m} {h} {p} {rows} {s} known t i child n e low =
    let o = owners t i child e in
    let part : is_part t ≡ true = subst (λ k. is_part k ≡ true) (sym o.0) (owner_part child o.1) in
    let small : t < 64 = subst (λ k. k < 64) (sym o.0) (owner_low child o.1) in
    let count = count_read known t part small in
    elim (cases_lt (n + 1) (row_count m t)) [
      | inl next ↦ rw (lt-ltb (n + 1) (rows_of s.layout t) (omega (arith, count, next))) (run_read known t i child (n + 1) e next)
      | inr past ↦
          let all : row_count m (owner_table child) ≤ n + 1 = subst (λ k. row_count m k ≤ n + 1) o.0 past in
          rw (le-ltb (n + 1) (rows_of s.layout t) (omega (arith, count, past)))
          (ap (λ k. k + 1) (run_rows_are known child o.1) ∙ sym (run_last m child (n + 1) known.sound.owners.owned o.1 all))
    ]

-- places that each name one of a list name the list
range_of : (f : ℕ → List ℕ) (ys : List ℕ) (a : ℕ) → ((k x : ℕ) → slice_get ys k ≡ Some x → f (a + k) ≡ x ∷ []) → flat_map f (range_with_len a (length ys)) ≡ ys
range_of f [] a h = refl
range_of f (y ∷ ys) a h =
    let z : a ≡ a + 0 = omega arith in
    let here : f a ≡ y ∷ [] = ap f z ∙ h 0 y refl in
    let rest = range_of f ys (a + 1) (λ k x e. let s : a + 1 + k ≡ a + suc k = omega arith in ap f s ∙ h (suc k) x e) in
    flat_map-cons f a (range_with_len (a + 1) (length ys)) ∙ ap (λ xs. xs ++ flat_map f (range_with_len (a + 1) (length ys))) here ∙ ap (λ xs. y ∷ xs) rest

-- the children of an owner are read as they are
pub children_read : {m : Module} {h : Built} {p : Placed} {rows : List (List (List ℕ))} {s : Source} → IsKnown m h p rows s → (child n : ℕ) (r : Row) → is_child_table child ≡ true
    → slice_get (rows_in m (owner_table child)) n ≡ Some r → children_of (rows_from s) (owner_table child) (run_column child) child n ≡ kids_at r child
unfolding children_of
children_read {m} {h} {p} {rows} {s} known child n r is e =
    let low : n < row_count m (owner_table child) = there (rows_in m (owner_table child)) n r e in
    let start : run_start (rows_from s) (owner_table child) (run_column child) n ≡ run_first m child (n + 1) = run_read known (owner_table child) (run_column child) child n (run_column_is child is) low in
    let end : run_end (rows_from s) (owner_table child) (run_column child) child n ≡ run_first m child (n + 1 + 1) = end_read known (owner_table child) (run_column child) child n (run_column_is child is) low in
    let behind = run_behind m child n r is e in
    let long : run_first m child (n + 1 + 1) - run_first m child (n + 1) ≡ length (kids_at r child) = omega (arith, behind) in
    let first = run_is m child n in
    ap (λ a. flat_map (named_at (rows_from s) child) (range_with_len a (run_end (rows_from s) (owner_table child) (run_column child) child n - a))) start
    ∙ ap (λ b. flat_map (named_at (rows_from s) child) (range_with_len (run_first m child (n + 1)) (b - run_first m child (n + 1)))) end
    ∙ ap (λ l. flat_map (named_at (rows_from s) child) (range_with_len (run_first m child (n + 1)) l)) long
    ∙ range_of (named_at (rows_from s) child) (kids_at r child) (run_first m child (n + 1)) (λ k x get.
    let at : run_first m child (n + 1) + k ≡ length (kids_before m child n) + k + 1 = omega (arith, first) in
    ap (named_at (rows_from s) child) at ∙ named_is known child (length (kids_before m child n) + k) x is (kid_at m child n r k x e get))

rows_of_all : (g : ℕ → List ℕ) (f : Row → List ℕ) (rs : List Row) (a : ℕ) → ((n : ℕ) (r : Row) → slice_get rs n ≡ Some r → g (a + n) ≡ f r) → flat_map g (range_with_len a (length rs)) ≡ flat_map f rs
rows_of_all g f [] a h = refl
rows_of_all g f (y ∷ ys) a h =
    let z : a ≡ a + 0 = omega arith in
    let here : g a ≡ f y = ap g z ∙ h 0 y refl in
    let rest = rows_of_all g f ys (a + 1) (λ n r e. let s : a + 1 + n ≡ a + suc n = omega arith in ap g s ∙ h (suc n) r e) in
    flat_map-cons g a (range_with_len (a + 1) (length ys)) ∙ ap (λ xs. xs ++ flat_map g (range_with_len (a + 1) (length ys))) here ∙ ap (λ xs. f y ++ xs) rest

-- and so are those of all owners
pub all_read : {m : Module} {h : Built} {p : Placed} {rows : List (List (List ℕ))} {s : Source} → IsKnown m h p rows s → (child : ℕ) → is_child_table child ≡ true
    → all_children (rows_from s) child ≡ all_kids m child
unfolding all_children below
all_read {m} {h} {p} {rows} {s} known child is =
    let count = count_read known (owner_table child) (owner_part child is) (owner_low child is) in
    ap (λ n. flat_map (children_of (rows_from s) (owner_table child) (run_column child) child) (range_with_len 0 n)) count
    ∙ rows_of_all (children_of (rows_from s) (owner_table child) (run_column child) child) (λ (r : Row). kids_at r child) (rows_in m (owner_table child)) 0 (λ n r e.
    let z : 0 + n ≡ n = omega arith in
    ap (children_of (rows_from s) (owner_table child) (run_column child) child) z ∙ children_read known child n r is e)

no_list : (xs : List (List ℕ)) → length xs ≡ 0 → [] ≡ xs
no_list [] e = refl
no_list (x ∷ xs) e = absurd (omega (arith, e))

one_list : (xs : List (List ℕ)) → length xs ≡ 1 → list_at xs 0 ∷ [] ≡ xs
one_list [] e = absurd (omega (arith, e))
one_list (x ∷ []) e = refl
one_list (x ∷ y ∷ xs) e = absurd (omega (arith, e))

two_lists : (xs : List (List ℕ)) → length xs ≡ 2 → list_at xs 0 ∷ list_at xs 1 ∷ [] ≡ xs
two_lists [] e = absurd (omega (arith, e))
two_lists (x ∷ []) e = absurd (omega (arith, e))
two_lists (x ∷ y ∷ []) e = refl
two_lists (x ∷ y ∷ z ∷ xs) e = absurd (omega (arith, e))

-- the lists of children that are read of the n-th row of a table
abbrev pub kids_read : Source → ℕ → ℕ → List (List ℕ)
kids_read s t n = map (λ child. children_of (rows_from s) t (run_column child) child n) (runs_in t)

abbrev MeansKids : Module → Source → ℕ → Type 0
MeansKids m s t = (n : ℕ) (r : Row) → slice_get (rows_in m t) n ≡ Some r → kids_read s t n ≡ r.kids

runs_past : (t : ℕ) → ¬ (t ≡ 0x02) → ¬ (t ≡ 0x06) → ¬ (t ≡ 0x12) → ¬ (t ≡ 0x15) → runs_in t ≡ []
runs_past t a b c d =
    let e1 : (t == 0x02) ≡ false = grind (arith, nat_tests) in
    let e2 : (t == 0x06) ≡ false = grind (arith, nat_tests) in
    let e3 : (t == 0x12) ≡ false = grind (arith, nat_tests) in
    let e4 : (t == 0x15) ≡ false = grind (arith, nat_tests) in
    rw (e1, e2, e3, e4) refl

one_run : {m : Module} {h : Built} {p : Placed} {rows : List (List (List ℕ))} {s : Source} → IsKnown m h p rows s → (child n : ℕ) (r : Row) → is_child_table child ≡ true
    → slice_get (rows_in m (owner_table child)) n ≡ Some r → list_at r.kids 0 ≡ kids_at r child → length r.kids ≡ 1
    → children_of (rows_from s) (owner_table child) (run_column child) child n ∷ [] ≡ r.kids
one_run {m} {h} {p} {rows} {s} known child n r is e first many = ap (λ xs. xs ∷ []) (children_read known child n r is e ∙ sym first) ∙ one_list r.kids many

-- so all lists of children of a row are
pub kids_meant : {m : Module} {h : Built} {p : Placed} {rows : List (List (List ℕ))} {s : Source} → IsKnown m h p rows s → (t n : ℕ) (r : Row)
    → slice_get (rows_in m t) n ≡ Some r → kids_read s t n ≡ r.kids
kids_meant {m} {h} {p} {rows} {s} known t = elim (cases_eq t 0x02) [
  | inl e ↦ subst (MeansKids m s) (sym e) (λ n r get.
      ap (λ xs. xs ∷ children_of (rows_from s) 0x02 (run_column 0x06) 0x06 n ∷ []) (children_read known 0x04 n r refl get)
      ∙ ap (λ xs. kids_at r 0x04 ∷ xs ∷ []) (children_read known 0x06 n r refl get) ∙ two_lists r.kids (known.sound.owners.runs.each 0x02 n r get))
  | inr a ↦ elim (cases_eq t 0x06) [
    | inl e ↦ subst (MeansKids m s) (sym e) (λ n r get. one_run known 0x08 n r refl get refl (known.sound.owners.runs.each 0x06 n r get))
    | inr b ↦ elim (cases_eq t 0x12) [
      | inl e ↦ subst (MeansKids m s) (sym e) (λ n r get. one_run known 0x14 n r refl get refl (known.sound.owners.runs.each 0x12 n r get))
      | inr c ↦ elim (cases_eq t 0x15) [
        | inl e ↦ subst (MeansKids m s) (sym e) (λ n r get. one_run known 0x17 n r refl get refl (known.sound.owners.runs.each 0x15 n r get))
        | inr d ↦ λ n r get.
            let none = runs_past t a b c d in
            ap (λ (ks : List ℕ). map (λ child. children_of (rows_from s) t (run_column child) child n) ks) none
            ∙ no_list r.kids (known.sound.owners.runs.each t n r get ∙ ap (λ (ks : List ℕ). length ks) none)
      ]
    ]
  ]
]
