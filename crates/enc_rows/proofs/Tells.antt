-- What is known of a child table's owners tells which rows are named once.
use Rattle.std.proofs.Common.{◌≡◌, ℕ, ◌+◌, ◌<◌, true, false, None, refl, sym, ap, ◌∙◌, arith}
use Rattle.std.specs.Prelude.{not, ◌==◌, nat_lt, nat_le, slice_index, Vec}
use Rattle.std.proofs.lemmas.Bool.Decides.{nat_tests}
use Rattle.std.specs.declared.alloc.Global.{Global}
use Rattle.enc_base.specs.Order.{first_below}
use Rattle.enc_schema.specs.Children.{is_child_table, ptr_of}
use Rattle.enc_rows.specs.Layout.{Layout, rows_of}
use Rattle.enc_rows.specs.Runs.{TableStream, goes_by_ptr, run_rows, times_named}
use Rattle.enc_rows.specs.Fault.{index_fault_in}
use Rattle.enc_rows.specs.Owners.{run_bound, times_from, few, TellsOwners}
use Rattle.enc_rows.specs.declared.owners.Owners.TheVariants as owners
use Rattle.enc_rows.proofs.Owned.{times_are, times_direct}
use Rattle.enc_rows.proofs.Times.{few_once}
use Rattle.enc_rows.proofs.Silent.{good_runs}

-- a table that has a Ptr table is a child table
pub owned : (table ptr : ℕ) → ptr ≡ ptr_of table → (ptr ≡ 0 → ⊥) → is_child_table table ≡ true
owned table ptr is some =
    let low : 0 < ptr = omega arith in
    let yes : nat_lt 0 ptr ≡ true = grind (arith, nat_tests) in
    rw (← is) yes

direct_rows : (l : Layout) (child : ℕ) → rows_of l (ptr_of child) ≡ 0 → (goes_by_ptr l child ≡ false) × (run_rows l child ≡ rows_of l child)
direct_rows l child none =
    let no : goes_by_ptr l child ≡ false = rw none refl in
    (no, rw no refl)

pub tells_from : (s : TableStream) (table first : ℕ) → is_child_table table ≡ true → first_below (index_fault_in s) table ≡ None → rows_of s.layout (ptr_of table) ≡ 0 → first ≡ run_bound s table 0 → TellsOwners s table (owners.From first)
tells_from s table first child none direct start = record {
  each = λ n row.
      let good = good_runs s table child none in
      let d = direct_rows s.layout table direct in
      let once : (times_named s table (n + 1) == 1) ≡ nat_le (run_bound s table 0) (n + 1) = times_direct s table (n + 1) good d.0 (omega arith) in
      rw (child, once, start) refl;
}

pub tells_counted : (s : TableStream) (table first : ℕ) (times : Vec ℕ Global) → is_child_table table ≡ true → first_below (index_fault_in s) table ≡ None → first ≡ run_bound s table 0 → ((n : ℕ) → n < rows_of s.layout table → slice_index times.items n ≡ few (times_from s table first (run_rows s.layout table + 1) (n + 1))) → TellsOwners s table (owners.Counted times)
tells_counted s table first times child none start counted = record {
  each = λ n row.
      let good = good_runs s table child none in
      let t = times_from s table (run_bound s table 0) (run_rows s.layout table + 1) (n + 1) in
      let is : slice_index times.items n ≡ few t = counted n row ∙ ap (λ a. few (times_from s table a (run_rows s.layout table + 1) (n + 1))) start in
      let once : (slice_index times.items n == 1) ≡ (t == 1) = ap (λ k. k == 1) is ∙ few_once t in
      rw (child, times_are s table (n + 1) good) (ap not (sym once));
}
