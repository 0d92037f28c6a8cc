use Rattle.std.proofs.Common.{◌≡◌, ℕ, ◌+◌, ◌*◌, ◌^◌, ◌<◌, ◌≤◌, length, get_or}
use Rattle.enc_rows.specs.Layout.{Layout, table_start}
use Rattle.enc_rows.proofs.tables.starts_of.Given as goal

-- each table so far begins where it should, and the next one begins at the end
abbrev pub invariant-loop-table : goal.invariant-loop-table
invariant-loop-table l =
    let layout : Layout = record { span = l.fn.span; counts = l.counts.rows; shape = l.widths; first = l.first } in
    (l.end ≡ table_start layout l.table) × (l.end ≤ 284 + l.table * (36 * 2 ^ 32)) × (length l.of ≡ 64) × ((k : ℕ) → k < l.table → get_or l.of k 0 ≡ table_start layout k)
