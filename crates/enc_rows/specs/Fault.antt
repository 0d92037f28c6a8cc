-- The first bad index of a module's tables (F7): by table, row and column; a child row without exactly one owner
-- stands behind its columns.
use Rattle.std.specs.Prelude.{ℕ, zero, suc, ◌+◌, Bool, true, false, not, ◌&&◌, ◌||◌, length, Option, Some, None, option_and_then, nat_lt, ◌==◌, if◌then◌else◌}
use Rattle.enc_base.specs.Order.{or_else, first_below}
use Rattle.enc_base.specs.Token.{nth_row}
use Rattle.enc_base.specs.declared.token.Token.{Token}
use Rattle.enc_base.specs.declared.refusal.Place.{Place}
use Rattle.enc_base.specs.declared.refusal.Place.TheVariants as place
use Rattle.enc_schema.specs.declared.column.Column.{Column}
use Rattle.enc_schema.specs.declared.column.Column.TheVariants.{Index, Coded, Run}
use Rattle.enc_schema.specs.Schema.{columns_in, column_in}
use Rattle.enc_schema.specs.Coding.{decoded}
use Rattle.enc_schema.specs.Children.{is_child_table}
use Rattle.enc_rows.specs.Layout.{Layout, rows_of}
use Rattle.enc_rows.specs.Runs.{TableStream, raw_number, run_rows, run_start, times_named}

-- a token past its table, or none
abbrev pub is_past : Layout → Option Token → Bool
is_past l (Some t) = nat_lt (rows_of l t.table) t.row
is_past l None = true

-- a run begins outside 1 to the count plus 1, or before the run of the row before
abbrev pub is_bad_run : TableStream → ℕ → ℕ → ℕ → ℕ → Bool
is_bad_run s table i child zero =
    run_start s table i zero == 0 || nat_lt (run_rows s.layout child + 1) (run_start s table i zero)
is_bad_run s table i child (suc n) =
    run_start s table i (suc n) == 0 || nat_lt (run_rows s.layout child + 1) (run_start s table i (suc n))
    || nat_lt (run_start s table i (suc n)) (run_start s table i n)

-- the index in a column of the n-th row of a table is bad
abbrev pub is_bad_index : TableStream → ℕ → ℕ → ℕ → Column → Bool
is_bad_index s table n i (Index other) = nat_lt (rows_of s.layout other) (raw_number s (nth_row table n) i)
is_bad_index s table n i (Coded kind) = is_past s.layout (decoded kind (raw_number s (nth_row table n) i))
is_bad_index s table n i (Run child) = is_bad_run s table i child n
is_bad_index s table n i _ = false

unfoldable pub index_fault_at : TableStream → ℕ → ℕ → ℕ → Option Place
index_fault_at s table n i = option_and_then (λ (c : Column). if is_bad_index s table n i c
    then Some (place.Cell (nth_row table n) i)
    else None) (column_in table i)

-- a child row isn't named by the runs exactly once
unfoldable pub owner_fault : TableStream → ℕ → ℕ → Option Place
owner_fault s table n = if is_child_table table && not (times_named s table (n + 1) == 1)
    then Some (place.Owner (nth_row table n)) else None

unfoldable pub index_fault_in_row : TableStream → ℕ → ℕ → Option Place
index_fault_in_row s table n =
    or_else (first_below (index_fault_at s table n) (length (columns_in table))) (owner_fault s table n)

unfoldable pub index_fault_in : TableStream → ℕ → Option Place
index_fault_in s table = first_below (index_fault_in_row s table) (rows_of s.layout table)

unfoldable pub index_fault : TableStream → Option Place
index_fault s = first_below (index_fault_in s) 0x40
