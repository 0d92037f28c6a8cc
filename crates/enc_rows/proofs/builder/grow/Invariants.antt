use Rattle.std.proofs.Common.{◌≡◌, ℕ, ◌+◌, ◌-◌, ◌≤◌, length, vec_len}
use Rattle.enc_rows.specs.Written.{rows_at}
use Rattle.enc_rows.proofs.builder.grow.Given as goal

abbrev pub invariant-loop-alloc : goal.invariant-loop-alloc
invariant-loop-alloc l = (length l.tables.items ≤ 64) × ((k : ℕ) → rows_at l.tables.items k ≡ rows_at l.fn.tables.items k)

abbrev pub decreases-loop-alloc : goal.decreases-loop-alloc
decreases-loop-alloc l = l.table + 1 - vec_len l.tables
