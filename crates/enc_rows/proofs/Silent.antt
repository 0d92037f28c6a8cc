-- Where no fault was found below a child table, the runs that name its rows are good.
use Rattle.std.proofs.Common.{◌≡◌, ℕ, ◌<◌, Bool, true, false, length, refl, arith}
use Rattle.std.specs.Prelude.{Option, Some, None, if◌then◌else◌}
use Rattle.std.proofs.lemmas.Option.{slice_get_within}
use Rattle.enc_base.specs.Order.{or_else, first_below}
use Rattle.enc_base.proofs.First.{first_means}
use Rattle.enc_schema.specs.declared.column.Column.TheVariants.{Index, Run}
use Rattle.enc_schema.specs.Schema.{columns_in, column_in}
use Rattle.enc_schema.specs.Children.{is_child_table, owner_table, run_column, ptr_of}
use Rattle.enc_schema.proofs.ChildTables.{by_child, run_column_is}
use Rattle.enc_rows.specs.Layout.{rows_of}
use Rattle.enc_rows.specs.Runs.{TableStream}
use Rattle.enc_rows.specs.Fault.{is_bad_run, index_fault_at, index_fault_in_row, index_fault_in}
use Rattle.enc_rows.proofs.Owned.{AreGood}

-- no answer below n, none at any place below
silent : {A : Type 0} (rule : ℕ → Option A) (n k : ℕ) → first_below rule n ≡ None → k < n → rule k ≡ None
silent rule n k none lt = (rw none at (first_means rule n)) k lt

first_silent : {A : Type 0} (a b : Option A) → or_else a b ≡ None → a ≡ None
first_silent None b h = refl
first_silent (Some x) b h = absurd cc

if_none : {A : Type 0} (b : Bool) (x : A) → (if b then Some x else None) ≡ None → b ≡ false
if_none true x h = absurd cc
if_none false x h = refl

-- a run column of a table in which no fault was found has good runs
good_run : (s : TableStream) (t i child table n : ℕ) → column_in t i ≡ Some (Run child) → t < table → first_below (index_fault_in s) table ≡ None → n < rows_of s.layout t → is_bad_run s t i child n ≡ false
unfolding index_fault_in index_fault_in_row index_fault_at
good_run s t i child table n column lt none row =
    let in_table = silent (index_fault_in s) table t none lt in
    let in_row = silent (index_fault_in_row s t) (rows_of s.layout t) n in_table row in
    let in_columns = first_silent _ _ in_row in
    let in_cell = silent (index_fault_at s t n) (length (columns_in t)) i in_columns (slice_get_within (columns_in t) i (Run child) column) in
    if_none _ _ (rw column at in_cell)

-- the only column of a Ptr table
pub ptr_column_is : (child : ℕ) → is_child_table child ≡ true → column_in (ptr_of child) 0 ≡ Some (Index child)
unfolding columns_in
ptr_column_is child there = by_child (λ k. column_in (ptr_of k) 0 ≡ Some (Index k)) refl refl refl refl refl child there

-- the owners' table is a lower one
pub owner_lower : (child : ℕ) → is_child_table child ≡ true → owner_table child < child
owner_lower child there = by_child (λ k. owner_table k < k) (omega arith) (omega arith) (omega arith) (omega arith) (omega arith) child there

pub good_runs : (s : TableStream) (child : ℕ) → is_child_table child ≡ true → first_below (index_fault_in s) child ≡ None → AreGood s child
good_runs s child there none = record { each = λ n row. good_run s (owner_table child) (run_column child) child child n (run_column_is child there) (owner_lower child there) none row }
