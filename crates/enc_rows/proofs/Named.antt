-- What the places of a run name, one place behind the other.
use Rattle.std.proofs.Common.{◌≡◌, ℕ, zero, suc, ◌+◌, ◌-◌, ◌<◌, ◌≤◌, Bool, true, false, List, [], ◌∷◌, ◌++◌, length, refl, sym, ap, ◌∙◌, append_assoc, arith}
use Rattle.std.specs.Prelude.{Option, Some, None, ◌&&◌, ◌||◌, ◌==◌, nat_lt, nat_le, slice_get}
use Rattle.std.specs.List.{range_with_len, list_any}
use Rattle.std.proofs.lemmas.List.Concat.{flat_map-cons}
use Rattle.std.proofs.lemmas.List.FromFn.{length-range_with_len}
use Rattle.std.proofs.lemmas.Bool.Decides.{nat_tests}
use Rattle.enc_schema.specs.Children.{is_child_table, ptr_of}
use Rattle.enc_rows.specs.Layout.{rows_of, stream_has_row, raw_cell}
use Rattle.enc_rows.specs.Runs.{TableStream, raw_number, goes_by_ptr, by_ptr, named_at, rows_named, run_start, run_end, children_of}
use Rattle.enc_rows.proofs.Runs.{flat_map_same}
use Rattle.enc_rows.proofs.Silent.{ptr_column_is}

-- no place is left
pub named_last : (s : TableStream) (child p end : ℕ) → end ≤ p → rows_named s child p end ≡ []
named_last s child p end h = let z : end - p ≡ 0 = omega arith in rw z refl

-- what the next place names stands before what the places behind it name
pub named_next : (s : TableStream) (child p end : ℕ) → p < end → rows_named s child p end ≡ named_at s child p ++ rows_named s child (p + 1) end
named_next s child p end h =
    let e : end - p ≡ suc (end - (p + 1)) = omega arith in
    rw e (flat_map-cons (named_at s child) p (range_with_len (p + 1) (end - (p + 1))))

-- place 0 of a Ptr table names nothing
pub named_outside : (s : TableStream) (child p : ℕ) → is_child_table child ≡ true → goes_by_ptr s.layout child ≡ true → p ≡ 0 → by_ptr 0 ≡ named_at s child p
unfolding named_at raw_cell
named_outside s child p there ptr h = rw (ptr, ptr_column_is child there, h) refl

-- and so does a place behind the last row
pub named_past : (s : TableStream) (child p : ℕ) → is_child_table child ≡ true → goes_by_ptr s.layout child ≡ true → rows_of s.layout (ptr_of child) < p → by_ptr 0 ≡ named_at s child p
unfolding named_at raw_cell
named_past s child p there ptr h =
    let no : stream_has_row s.layout (record { table = ptr_of child; row = p }) ≡ false = grind (arith, nat_tests) in
    rw (ptr, ptr_column_is child there, no) refl

-- a place of the Ptr table names what its row holds
pub named_there : (s : TableStream) (child p n : ℕ) → goes_by_ptr s.layout child ≡ true → raw_number s (record { table = ptr_of child; row = p }) 0 ≡ n → by_ptr n ≡ named_at s child p
unfolding named_at
named_there s child p n ptr read = rw (ptr, read) refl

-- without a Ptr table each place names itself
pub named_direct : (s : TableStream) (child first end : ℕ) → goes_by_ptr s.layout child ≡ false → rows_named s child first end ≡ range_with_len first (end - first)
unfolding named_at
named_direct s child first end direct = flat_map_same (named_at s child) (range_with_len first (end - first)) (λ p. rw direct refl)

skipped : (row : ℕ) (here rest next : List ℕ) → row ≡ 0 → by_ptr row ≡ here → rest ≡ here ++ next → rest ≡ next
skipped row here rest next none is more = more ∙ ap (λ (xs : List ℕ). xs ++ next) (sym is ∙ ap by_ptr none)

passed : (row : ℕ) (here rest next : List ℕ) → (row ≡ 0 → ⊥) → by_ptr row ≡ here → rest ≡ here ++ next → rest ≡ row ∷ next
passed zero here rest next some is more = absurd (some refl)
passed (suc row) here rest next some is more = more ∙ ap (λ (xs : List ℕ). xs ++ next) (sym is)

-- a nil Ptr row isn't counted
pub count_skipped : (row count all : ℕ) (here rest next : List ℕ) → row ≡ 0 → by_ptr row ≡ here → rest ≡ here ++ next → all ≡ count + length rest → all ≡ count + length next
count_skipped row count all here rest next none is more before = before ∙ ap (λ (xs : List ℕ). count + length xs) (skipped row here rest next none is more)

-- another one is
pub count_passed : (row count all : ℕ) (here rest next : List ℕ) → (row ≡ 0 → ⊥) → by_ptr row ≡ here → rest ≡ here ++ next → all ≡ count + length rest → all ≡ count + 1 + length next
count_passed row count all here rest next some is more before =
    let e : length rest ≡ length (row ∷ next) = ap length (passed row here rest next some is more) in
    let f : length (row ∷ next) ≡ suc (length next) = refl in
    omega arith

-- the child stands behind a nil Ptr row
pub at_skipped : (row j : ℕ) (here rest next : List ℕ) (o : Option ℕ) → row ≡ 0 → by_ptr row ≡ here → rest ≡ here ++ next → o ≡ slice_get rest j → o ≡ slice_get next j
at_skipped row j here rest next o none is more before = before ∙ ap (λ (xs : List ℕ). slice_get xs j) (skipped row here rest next none is more)

-- or behind another one
pub at_passed : (row i k : ℕ) (here rest next : List ℕ) (o : Option ℕ) → (row ≡ 0 → ⊥) → k < i → by_ptr row ≡ here → rest ≡ here ++ next → o ≡ slice_get rest (i - k) → o ≡ slice_get next (i - (k + 1))
at_passed row i k here rest next o some low is more before =
    let e : i - k ≡ suc (i - (k + 1)) = omega arith in
    before ∙ ap (λ (xs : List ℕ). slice_get xs (i - k)) (passed row here rest next some is more) ∙ ap (slice_get (row ∷ next)) e

-- or is what it holds
pub at_here : (row i k : ℕ) (here rest next : List ℕ) (o : Option ℕ) → (row ≡ 0 → ⊥) → k ≡ i → by_ptr row ≡ here → rest ≡ here ++ next → o ≡ slice_get rest (i - k) → Some row ≡ o
at_here row i k here rest next o some same is more before =
    let e : i - k ≡ 0 = omega arith in
    sym (before ∙ ap (λ (xs : List ℕ). slice_get xs (i - k)) (passed row here rest next some is more) ∙ ap (slice_get (row ∷ next)) e)

-- a Ptr row that holds another child
pub any_passed : (row child : ℕ) (here rest next : List ℕ) (b : Bool) → (row ≡ child → ⊥) → by_ptr row ≡ here → rest ≡ here ++ next → b ≡ list_any (λ (k : ℕ). k == child) rest → b ≡ list_any (λ (k : ℕ). k == child) next
any_passed zero child here rest next b other is more before = before ∙ ap (list_any (λ (k : ℕ). k == child)) (skipped zero here rest next refl is more)
any_passed (suc r) child here rest next b other is more before =
    let differs : (suc r == child) ≡ false = grind (arith, nat_tests) in
    before ∙ ap (list_any (λ (k : ℕ). k == child)) (passed (suc r) here rest next (λ z. absurd cc) is more) ∙ ap (λ c. c || list_any (λ (k : ℕ). k == child) next) differs

-- and one that holds this one
pub any_here : (row child : ℕ) (here rest next : List ℕ) (b : Bool) → 0 < child → row ≡ child → by_ptr row ≡ here → rest ≡ here ++ next → b ≡ list_any (λ (k : ℕ). k == child) rest → true ≡ b
any_here row child here rest next b some same is more before =
    let e : (row == child) ≡ true = grind (arith, nat_tests) in
    sym (before ∙ ap (list_any (λ (k : ℕ). k == child)) (passed row here rest next (λ z. absurd (omega arith)) is more) ∙ ap (λ c. c || list_any (λ (k : ℕ). k == child) next) e)

-- a number of a range by its place
range_at : (a n i : ℕ) → i < n → slice_get (range_with_len a n) i ≡ Some (a + i)
range_at a zero i h = absurd (omega arith)
range_at a (suc n) zero h = let z : a + 0 ≡ a = omega arith in rw z refl
range_at a (suc n) (suc i) h = let e : a + suc i ≡ a + 1 + i = omega arith in rw e (range_at (a + 1) n i (omega arith))

range_past : (a n i : ℕ) → n ≤ i → slice_get (range_with_len a n) i ≡ None
range_past a zero i h = refl
range_past a (suc n) zero h = absurd (omega arith)
range_past a (suc n) (suc i) h = range_past (a + 1) n i (omega arith)

range_none : (a r : ℕ) → false ≡ (nat_le a r && nat_lt r (a + 0))
range_none a r = grind (arith, nat_tests)

range_next : (a n r : ℕ) → (a == r || (nat_le (a + 1) r && nat_lt r (a + 1 + n))) ≡ (nat_le a r && nat_lt r (a + suc n))
range_next a n r = grind (arith, nat_tests)

range_has : (a n r : ℕ) → list_any (λ (k : ℕ). k == r) (range_with_len a n) ≡ (nat_le a r && nat_lt r (a + n))
range_has a zero r = range_none a r
range_has a (suc n) r = ap (λ b. a == r || b) (range_has (a + 1) n r) ∙ range_next a n r

range_bound : (a e r : ℕ) → (nat_le a r && nat_lt r (a + (e - a))) ≡ (nat_le a r && nat_lt r e)
range_bound a e r = grind (arith, nat_tests)

-- whether a number is one of those from a up to the end
pub range_any : (a e r : ℕ) → list_any (λ (k : ℕ). k == r) (range_with_len a (e - a)) ≡ (nat_le a r && nat_lt r e)
range_any a e r = range_has a (e - a) r ∙ range_bound a e r

-- a child's place in a run without a Ptr table
pub direct_at : (s : TableStream) (child first end i : ℕ) → goes_by_ptr s.layout child ≡ false → i < end - first → Some (first + i) ≡ slice_get (rows_named s child first end) i
direct_at s child first end i direct h = rw (named_direct s child first end direct) (sym (range_at first (end - first) i h))

-- no place is left there
pub direct_past : (s : TableStream) (child first end i : ℕ) → goes_by_ptr s.layout child ≡ false → end - first ≤ i → None ≡ slice_get (rows_named s child first end) i
direct_past s child first end i direct h = rw (named_direct s child first end direct) (sym (range_past first (end - first) i h))

-- how many children such a run has
pub direct_many : (s : TableStream) (child first end : ℕ) → goes_by_ptr s.layout child ≡ false → end - first ≡ length (rows_named s child first end)
direct_many s child first end direct = rw (named_direct s child first end direct) (sym (length-range_with_len first (end - first)))

-- and whether a row is one of them
pub direct_any : (s : TableStream) (child first end row : ℕ) → goes_by_ptr s.layout child ≡ false → (nat_le first row && nat_lt row end) ≡ list_any (λ (k : ℕ). k == row) (rows_named s child first end)
direct_any s child first end row direct = rw (named_direct s child first end direct) (sym (range_any first end row))

-- the children so far and those that the places left name: behind a nil Ptr row
pub push_skipped : (row : ℕ) (here rest next all now : List ℕ) → row ≡ 0 → by_ptr row ≡ here → rest ≡ here ++ next → all ≡ now ++ rest → all ≡ now ++ next
push_skipped row here rest next all now none is more before = before ∙ ap (λ xs. now ++ xs) (skipped row here rest next none is more)

-- and with the child of another one
pub push_passed : (row : ℕ) (here rest next all now new : List ℕ) → (row ≡ 0 → ⊥) → by_ptr row ≡ here → rest ≡ here ++ next → new ≡ now ++ row ∷ [] → all ≡ now ++ rest → all ≡ new ++ next
push_passed row here rest next all now new some is more pushed before = before ∙ ap (λ xs. now ++ xs) (passed row here rest next some is more) ∙ sym (append_assoc now (row ∷ []) next) ∙ ap (λ xs. xs ++ next) (sym pushed)

-- one place more of those from one up to the end
pub place_more : (p end : ℕ) (all now new : List ℕ) → p < end → new ≡ now ++ p ∷ [] → all ≡ now ++ range_with_len p (end - p) → all ≡ new ++ range_with_len (p + 1) (end - (p + 1))
place_more p end all now new low pushed before =
    let e : end - p ≡ suc (end - (p + 1)) = omega arith in
    let next : range_with_len p (end - p) ≡ p ∷ range_with_len (p + 1) (end - (p + 1)) = rw e refl in
    before ∙ ap (λ xs. now ++ xs) next ∙ sym (append_assoc now (p ∷ []) (range_with_len (p + 1) (end - (p + 1)))) ∙ ap (λ xs. xs ++ range_with_len (p + 1) (end - (p + 1))) (sym pushed)

-- where there is no Ptr table, a run's places are its children
pub direct_all : (s : TableStream) (table i child n first end : ℕ) → goes_by_ptr s.layout child ≡ false → first ≡ run_start s table i n → end ≡ run_end s table i child n → children_of s table i child n ≡ range_with_len first (end - first)
unfolding children_of
direct_all s table i child n first end direct starts ends = rw (starts, ends) (named_direct s child (run_start s table i n) (run_end s table i child n) direct)
