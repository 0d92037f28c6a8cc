-- No index of an image that was written for a sound module is bad.
use Rattle.std.proofs.Common.{◌≡◌, ℕ, zero, suc, ◌+◌, ◌<◌, ◌≤◌, Bool, true, false, List, [], ◌∷◌, length, Option, Some, None, refl, sym, ap, ◌∙◌, subst, inl, inr, arith}
use Rattle.std.specs.Prelude.{◌==◌, ◌&&◌, ◌||◌, not, slice_get, count_by, nat_lt, if◌then◌else◌}
use Rattle.std.proofs.lemmas.Bool.{cases_lt, le-ltb}
use Rattle.std.proofs.lemmas.Bool.Decides.{nat_tests}
use Rattle.enc_base.proofs.First.{first_none, first_more}
use Rattle.enc_base.specs.Order.{or_else, first_below}
use Rattle.enc_base.specs.Token.{nth_row}
use Rattle.enc_base.specs.declared.refusal.Place.{Place}
use Rattle.enc_image.specs.Base.{rows_from}
use Rattle.enc_meta.specs.Built.{Built, heaps_built}
use Rattle.enc_plain.proofs.KindsOf.{row_there}
use Rattle.enc_plain.specs.Module.{Module}
use Rattle.enc_plain.specs.Sound.{row_count, is_part, IsSound}
use Rattle.enc_rows.specs.Fault.{is_past, is_bad_run, is_bad_index, index_fault_at, owner_fault, index_fault_in_row, index_fault_in, index_fault}
use Rattle.enc_rows.specs.Layout.{rows_of}
use Rattle.enc_rows.specs.Runs.{TableStream, raw_number, run_rows, run_start, times_named}
use Rattle.enc_rows.specs.Source.{Source}
use Rattle.enc_rows.specs.Written.{rows_at}
use Rattle.enc_schema.proofs.ChildTables.{by_child}
use Rattle.enc_schema.specs.Children.{is_child_table, owner_table, ptr_of}
use Rattle.enc_schema.specs.Coding.{decoded}
use Rattle.enc_schema.specs.Schema.{columns_in, column_in}
use Rattle.enc_base.specs.Tables as tables
use Rattle.enc_schema.specs.declared.column.Column.{Column}
use Rattle.enc_schema.specs.declared.column.Column.TheVariants.{Num8, Num16, Num32, Text, Guid, Blob, Index, Coded, Run}
use Rattle.enc_rewriter.specs.Numbers.{run_first}
use Rattle.enc_rewriter.specs.Placed.{Placed}
use Rattle.enc_rewriter.specs.Rewritten.{HoldModule}
use Rattle.enc_rewriter.proofs.KidsCounted.{kid_once, run_some}
use Rattle.enc_rewriter.proofs.KidsMeant.{IsKnown, known_of, count_read, run_read, run_rows_are, all_read, ptr_low}
use Rattle.enc_rewriter.proofs.NumbersWritten.{number_written, index_written, coded_written}
use Rattle.enc_rewriter.proofs.PtrRows.{ptr_row, ptr_columns_are, by_other, both_ways}
use Rattle.enc_rewriter.proofs.ReadAs.{IsReadAs}
use Rattle.enc_rewriter.proofs.RunsFit.{part_few, no_table}
use Rattle.enc_rewriter.proofs.RunStarts.{next_run, run_few, owners, some_there}

-- no table is read with fewer rows than the module has
few_read : {m : Module} {h : Built} {p : Placed} {rows : List (List (List ℕ))} {s : Source} → IsKnown m h p rows s → (t : ℕ) → row_count m t ≤ rows_of s.layout t
few_read {m} {h} {p} {rows} {s} known t = elim (cases_lt t 64) [
  | inl low ↦
      let few = part_few m (heaps_built h) p rows t (is_part t) known.sound known.said refl in
      let is = known.read.counts t low in
      omega (arith, few, is)
  | inr past ↦ let none = no_table m t known.sound past in omega (arith, none)
]

-- a run begins at 1 or behind, within its table's rows or right behind them, and not before the run of the row before
good_first : (x y : ℕ) → 0 < x → x ≤ y → (x == 0 || nat_lt y x) ≡ false
good_first x y low high =
    let a : (x == 0) ≡ false = grind (arith, nat_tests) in
    rw (a, le-ltb y x high) refl

good_next : (x y z : ℕ) → 0 < x → x ≤ y → z ≤ x → (x == 0 || nat_lt y x || nat_lt x z) ≡ false
good_next x y z low high behind =
    let a : (x == 0) ≡ false = grind (arith, nat_tests) in
    rw (a, le-ltb y x high, le-ltb x z behind) refl

run_good : {m : Module} {h : Built} {p : Placed} {rows : List (List (List ℕ))} {s : Source} → IsKnown m h p rows s → (t i child n : ℕ) → column_in t i ≡ Some (Run child)
    → n < row_count m t → is_bad_run (rows_from s) t i child n ≡ false
run_good {m} {h} {p} {rows} {s} known t i child zero e low =
    let o = owners t i child e in
    let start : run_start (rows_from s) t i 0 ≡ run_first m child (0 + 1) = run_read known t i child 0 e low in
    let some = run_some m child (0 + 1) in
    let few = run_few m child (0 + 1) known.sound.owners.owned o.1 in
    let many = run_rows_are known child o.1 in
    good_first (run_start (rows_from s) t i 0) (run_rows s.layout child + 1) (omega (arith, start, some)) (omega (arith, start, few, many))
run_good {m} {h} {p} {rows} {s} known t i child (suc n) e low =
    let o = owners t i child e in
    let start : run_start (rows_from s) t i (suc n) ≡ run_first m child (suc n + 1) = run_read known t i child (suc n) e low in
    let before : run_start (rows_from s) t i n ≡ run_first m child (n + 1) = run_read known t i child n e (omega (arith, low)) in
    let some = run_some m child (suc n + 1) in
    let few = run_few m child (suc n + 1) known.sound.owners.owned o.1 in
    let many = run_rows_are known child o.1 in
    let high : n < row_count m (owner_table child) = subst (λ k. n < row_count m k) o.0 (omega (arith, low)) in
    let next = next_run m child n o.1 high in
    let same : run_first m child (suc n + 1) ≡ run_first m child (n + 1 + 1) = let k : suc n + 1 ≡ n + 1 + 1 = omega arith in ap (run_first m child) k in
    good_next (run_start (rows_from s) t i (suc n)) (run_rows s.layout child + 1) (run_start (rows_from s) t i n) (omega (arith, start, some)) (omega (arith, start, few, many)) (omega (arith, start, before, next, same))

-- an index of a module's row is good
index_good : {m : Module} {h : Built} {p : Placed} {rows : List (List (List ℕ))} {s : Source} → IsKnown m h p rows s → (t n i : ℕ) (c : Column) → is_part t ≡ true
    → n < row_count m t → column_in t i ≡ Some c → is_bad_index (rows_from s) t n i c ≡ false
index_good known t n i Num8 part low e = refl
index_good known t n i Num16 part low e = refl
index_good known t n i Num32 part low e = refl
index_good known t n i Text part low e = refl
index_good known t n i Guid part low e = refl
index_good known t n i Blob part low e = refl
index_good {m} {h} {p} {rows} {s} known t n i (Index other) part low e =
    let w = number_written m (heaps_built h) p rows t n i (Index other) known.said part low e in
    let is : raw_number (rows_from s) (nth_row t n) i ≡ w.number = known.read.numbers t n i w.cells w.number w.row w.get in
    let there = index_written m (heaps_built h) p (nth_row t n) i other w.number known.sound (row_there m (nth_row t n) (omega arith) (omega (arith, low))) e w.says in
    let few = few_read known other in
    le-ltb (rows_of s.layout other) (raw_number (rows_from s) (nth_row t n) i) (omega (arith, is, there, few))
index_good {m} {h} {p} {rows} {s} known t n i (Coded kind) part low e =
    let w = number_written m (heaps_built h) p rows t n i (Coded kind) known.said part low e in
    let is : raw_number (rows_from s) (nth_row t n) i ≡ w.number = known.read.numbers t n i w.cells w.number w.row w.get in
    let coded = coded_written m (heaps_built h) p (nth_row t n) i w.number kind known.sound (row_there m (nth_row t n) (omega arith) (omega (arith, low))) e w.says in
    let few = few_read known coded.token.table in
    let high = coded.row in
    ap (λ v. is_past s.layout (decoded kind v)) is ∙ ap (is_past s.layout) coded.is ∙ le-ltb (rows_of s.layout coded.token.table) coded.token.row (omega (arith, few, high))
index_good {m} {h} {p} {rows} {s} known t n i (Run child) part low e = run_good known t i child n e low

none_below : {A : Type 0} (rule : ℕ → Option A) (n : ℕ) → ((k : ℕ) → k < n → rule k ≡ None) → first_below rule n ≡ None
none_below rule zero h = first_none rule
none_below rule (suc n) h =
    let e : suc n ≡ n + 1 = omega arith in
    rw e (first_more rule n (none_below rule n (λ k l. h k (omega (arith, l)))) ∙ h n (omega arith))

or_none : {A : Type 0} (a b : Option A) → a ≡ None → b ≡ None → or_else a b ≡ None
or_none None b e f = f
or_none (Some x) b e f = absurd cc

at_column : (s : TableStream) (t n i : ℕ) (o : Option Column) → column_in t i ≡ o → ((c : Column) → column_in t i ≡ Some c → is_bad_index s t n i c ≡ false)
    → index_fault_at s t n i ≡ None
unfolding index_fault_at
at_column s t n i None e good = rw e refl
at_column s t n i (Some c) e good = rw (e, good c e) refl

-- a row is good where its indices are and its owner is
row_good : (s : TableStream) (t n : ℕ) → ((i : ℕ) (c : Column) → column_in t i ≡ Some c → is_bad_index s t n i c ≡ false) → owner_fault s t n ≡ None → index_fault_in_row s t n ≡ None
unfolding index_fault_in_row
row_good s t n good owner =
    or_none (first_below (index_fault_at s t n) (length (columns_in t))) (owner_fault s t n)
    (none_below (index_fault_at s t n) (length (columns_in t)) (λ i low. at_column s t n i (column_in t i) refl (good i))) owner

owner_by : (many : ℕ) (child : Bool) (x : Place) → (child ≡ true → many ≡ 1) → (if child && not (many == 1) then Some x else None) ≡ None
owner_by many true x once = rw (once refl) refl
owner_by many false x once = refl

owner_good : (s : TableStream) (t n : ℕ) → (is_child_table t ≡ true → times_named s t (n + 1) ≡ 1) → owner_fault s t n ≡ None
unfolding owner_fault
owner_good s t n once = owner_by (times_named s t (n + 1)) (is_child_table t) _ once

-- a row of a child table has one owner
named_once : {m : Module} {h : Built} {p : Placed} {rows : List (List (List ℕ))} {s : Source} → IsKnown m h p rows s → (t n : ℕ) → n < row_count m t → is_child_table t ≡ true
    → times_named (rows_from s) t (n + 1) ≡ 1
unfolding times_named
named_once {m} {h} {p} {rows} {s} known t n low is =
    ap (λ xs. count_by (λ (r : ℕ). r == n + 1) xs) (all_read known t is) ∙ kid_once m t (n + 1) known.sound.owners.owned is (omega arith) (omega (arith, low))

part_good : {m : Module} {h : Built} {p : Placed} {rows : List (List (List ℕ))} {s : Source} → IsKnown m h p rows s → (t : ℕ) → t < 64 → is_part t ≡ true
    → index_fault_in (rows_from s) t ≡ None
unfolding index_fault_in
part_good {m} {h} {p} {rows} {s} known t small part =
    let count = count_read known t part small in
    none_below (index_fault_in_row (rows_from s) t) (rows_of s.layout t) (λ n low.
    let here : n < row_count m t = omega (arith, low, count) in
    row_good (rows_from s) t n (λ i c e. index_good known t n i c part here e) (owner_good (rows_from s) t n (λ is. named_once known t n here is)))

-- a row of a Ptr table names a row of its child table
one_here : (child i : ℕ) (c : Column) → slice_get (Index child ∷ []) i ≡ Some c → (i ≡ 0) × (Index child ≡ c)
one_here child zero c e = (refl, cc)
one_here child (suc i) c e = absurd cc

ptr_good : {m : Module} {h : Built} {p : Placed} {rows : List (List (List ℕ))} {s : Source} → IsKnown m h p rows s → (child n i : ℕ) (c : Column) → is_child_table child ≡ true
    → n < rows_of s.layout (ptr_of child) → column_in (ptr_of child) i ≡ Some c → is_bad_index (rows_from s) (ptr_of child) n i c ≡ false
ptr_good {m} {h} {p} {rows} {s} known child n i c is low e =
    let many = known.read.counts (ptr_of child) (ptr_low child is) in
    let row = some_there (rows_at rows (ptr_of child)) n (omega (arith, many, low)) in
    let one = ptr_row m (heaps_built h) p rows child n row.0 known.sound known.said is row.1 in
    let get : slice_get row.0 0 ≡ Some one.row = ap (λ (xs : List ℕ). slice_get xs 0) one.is in
    let number : raw_number (rows_from s) (nth_row (ptr_of child) n) 0 ≡ one.row = known.read.numbers (ptr_of child) n 0 row.0 one.row row.1 get in
    let few = few_read known child in
    let high = one.high in
    let good : is_bad_index (rows_from s) (ptr_of child) n 0 (Index child) ≡ false = le-ltb (rows_of s.layout child) (raw_number (rows_from s) (nth_row (ptr_of child) n) 0) (omega (arith, number, few, high)) in
    let here = one_here child i c (sym (ap (λ (cs : List Column). slice_get cs i) (ptr_columns_are child is)) ∙ e) in
    subst (λ k. is_bad_index (rows_from s) (ptr_of child) n k c ≡ false) (sym here.0) (subst (λ d. is_bad_index (rows_from s) (ptr_of child) n 0 d ≡ false) here.1 good)

no_child : (child : ℕ) → is_child_table child ≡ true → is_child_table (ptr_of child) ≡ false
no_child child is = by_child (λ k. is_child_table (ptr_of k) ≡ false) refl refl refl refl refl child is

ptrs_good : {m : Module} {h : Built} {p : Placed} {rows : List (List (List ℕ))} {s : Source} → IsKnown m h p rows s → (child : ℕ) → is_child_table child ≡ true
    → index_fault_in (rows_from s) (ptr_of child) ≡ None
unfolding index_fault_in
ptrs_good {m} {h} {p} {rows} {s} known child is =
    none_below (index_fault_in_row (rows_from s) (ptr_of child)) (rows_of s.layout (ptr_of child)) (λ n low.
    row_good (rows_from s) (ptr_of child) n (λ i c e. ptr_good known child n i c is low e)
    (owner_good (rows_from s) (ptr_of child) n (λ other. absurd (both_ways (is_child_table (ptr_of child)) other (no_child child is)))))

no_rows_good : (s : Source) (t : ℕ) → rows_of s.layout t ≡ 0 → index_fault_in (rows_from s) t ≡ None
unfolding index_fault_in
no_rows_good s t none = none_below (index_fault_in_row (rows_from s) t) (rows_of s.layout t) (λ n low. absurd (omega (arith, low, none)))

table_good : {m : Module} {h : Built} {p : Placed} {rows : List (List (List ℕ))} {s : Source} → IsKnown m h p rows s → (t : ℕ) (part : Bool) → t < 64 → is_part t ≡ part
    → index_fault_in (rows_from s) t ≡ None
table_good {m} {h} {p} {rows} {s} known t true small e = part_good known t small e
table_good {m} {h} {p} {rows} {s} known t false small e =
    by_other (λ k. index_fault_in (rows_from s) k ≡ None) (λ child is. ptrs_good known child is)
    (no_rows_good s tables.enc_log (known.read.counts tables.enc_log (omega arith) ∙ ap (λ (r : List (List ℕ)). length r) known.said.log))
    (no_rows_good s tables.enc_map (known.read.counts tables.enc_map (omega arith) ∙ ap (λ (r : List (List ℕ)). length r) known.said.map)) t e

-- no index is bad, and each row of a child table has one owner
pub indices_good : {m : Module} {h : Built} {p : Placed} {rows : List (List (List ℕ))} {s : Source} → IsKnown m h p rows s → index_fault (rows_from s) ≡ None
unfolding index_fault
indices_good {m} {h} {p} {rows} {s} known = none_below (index_fault_in (rows_from s)) 0x40 (λ t low. table_good known t (is_part t) low refl)

pub no_index_fault : (m : Module) (h : Built) (p : Placed) (rows : List (List (List ℕ))) (s : Source) → IsSound m → HoldModule m h p rows → IsReadAs m h p rows s
    → index_fault (rows_from s) ≡ None
no_index_fault m h p rows s sound hold read = indices_good (known_of m h p rows s sound hold read)
