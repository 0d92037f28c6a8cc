-- For the contracts of private functions: how the owners of a child table's rows are known, once all runs are good.
use Rattle.std.specs.Prelude.{◌≡◌, ℕ, zero, suc, ◌+◌, ◌-◌, ◌<◌, Bool, true, not, flat_map, count_by, ◌&&◌, nat_lt, nat_le, ◌==◌, if◌then◌else◌, slice_index}
use Rattle.std.specs.List.{range_with_len}
use Rattle.enc_schema.specs.Children.{owner_table, run_column, is_child_table}
use Rattle.enc_rows.specs.Layout.{rows_of}
use Rattle.enc_rows.specs.Runs.{TableStream, run_rows, run_start, named_at, times_named}
use Rattle.enc_rows.specs.declared.owners.Owners.{Owners}
use Rattle.enc_rows.specs.declared.owners.Owners.TheVariants as owners

-- where the n-th owner's run begins, and the place behind the last one where there is no such owner
abbrev pub run_bound : TableStream → ℕ → ℕ → ℕ
run_bound s child n = if nat_lt n (rows_of s.layout (owner_table child))
    then run_start s (owner_table child) (run_column child) n
    else run_rows s.layout child + 1

-- how often the places from the first one up to the end name a row
unfoldable pub times_from : TableStream → ℕ → ℕ → ℕ → ℕ → ℕ
times_from s child first end row =
    count_by (λ (r : ℕ). r == row) (flat_map (named_at s child) (range_with_len first (end - first)))

-- none, one, or many, which is 2
abbrev pub few : ℕ → ℕ
few zero = 0
few (suc zero) = 1
few (suc (suc n)) = 2

-- one more of none, one or many
abbrev pub one_more : ℕ → ℕ
one_more times = if times == 0 then 1 else 2

-- the n-th row is named once
abbrev pub names_once : Owners → ℕ → Bool
names_once owners.Free n = true
names_once (owners.From first) n = nat_le first (n + 1)
names_once (owners.Counted times) n = slice_index times.items n == 1

-- so it is by the runs, for each row of a table that has owners
pub record TellsOwners (s : TableStream) (table : ℕ) (o : Owners) : Type 0 where
  pub each : (n : ℕ) → n < rows_of s.layout table
      → (is_child_table table && not (times_named s table (n + 1) == 1)) ≡ not (names_once o n)
