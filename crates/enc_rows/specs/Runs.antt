-- Runs: which rows of a child table belong to which owner (ECMA-335 II.22.37, II.22.26, II.22.12, II.22.35), and the
-- Ptr tables that a run may go over.
use Rattle.std.specs.Prelude.{ℕ, zero, suc, ◌+◌, ◌-◌, Bool, List, [], ◌∷◌, unwrap_or, nat_lt, ◌==◌, if◌then◌else◌, flat_map, count_by}
use Rattle.std.specs.List.{range_with_len}
use Rattle.enc_base.specs.Token.{nth_row}
use Rattle.enc_base.specs.declared.token.Token.{Token}
use Rattle.enc_meta.specs.Heaps.{part}
use Rattle.enc_schema.specs.Children.{ptr_of, owner_table, run_column}
use Rattle.enc_rows.specs.Sums.{below}
use Rattle.enc_rows.specs.Layout.{Layout, rows_of, raw_cell}

-- a table stream and its layout
pub record TableStream : Type 0 where
  pub stream : List ℕ
  pub layout : Layout

-- a layout's rows in the bytes of its file
abbrev pub table_stream : List ℕ → Layout → TableStream
table_stream bytes l = record { stream = part bytes l.span; layout = l }

-- the number in a cell
abbrev pub raw_number : TableStream → Token → ℕ → ℕ
raw_number s token i = unwrap_or (raw_cell s.stream s.layout token i) 0

-- runs of a child table go over its Ptr table where that has rows
abbrev pub goes_by_ptr : Layout → ℕ → Bool
goes_by_ptr l child = nat_lt 0 (rows_of l (ptr_of child))

-- how many rows a run of a child table can name
abbrev pub run_rows : Layout → ℕ → ℕ
run_rows l child = if goes_by_ptr l child then rows_of l (ptr_of child) else rows_of l child

-- where the run in a column of the n-th owner row begins, and where it ends: before the next row's, or behind the
-- last row
abbrev pub run_start : TableStream → ℕ → ℕ → ℕ → ℕ
run_start s table i n = raw_number s (nth_row table n) i

abbrev pub run_end : TableStream → ℕ → ℕ → ℕ → ℕ → ℕ
run_end s table i child n = if nat_lt (n + 1) (rows_of s.layout table) then run_start s table i (n + 1)
    else run_rows s.layout child + 1

-- the child that a place of a run names: the row itself, or what the Ptr row holds; a nil Ptr row names none
abbrev pub by_ptr : ℕ → List ℕ
by_ptr zero = []
by_ptr (suc r) = suc r ∷ []

unfoldable pub named_at : TableStream → ℕ → ℕ → List ℕ
named_at s child p = if goes_by_ptr s.layout child
    then by_ptr (raw_number s (record { table = ptr_of child; row = p }) 0) else p ∷ []

-- the children that the places from the first one up to the end name, in order
abbrev pub rows_named : TableStream → ℕ → ℕ → ℕ → List ℕ
rows_named s child first end = flat_map (named_at s child) (range_with_len first (end - first))

-- the children of the n-th owner row, in order
unfoldable pub children_of : TableStream → ℕ → ℕ → ℕ → ℕ → List ℕ
children_of s table i child n = rows_named s child (run_start s table i n) (run_end s table i child n)

-- the children of all owners, one owner behind the other
unfoldable pub all_children : TableStream → ℕ → List ℕ
all_children s child = flat_map (children_of s (owner_table child) (run_column child) child)
    (below (rows_of s.layout (owner_table child)))

-- how often the runs name a row of a child table
unfoldable pub times_named : TableStream → ℕ → ℕ → ℕ
times_named s child row = count_by (λ (r : ℕ). r == row) (all_children s child)
