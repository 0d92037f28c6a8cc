use Rattle.std.proofs.Common.{◌≡◌, ◌≤◌, ℕ}
use Rattle.enc_rows.specs.Layout.{has_table, one}
use Rattle.enc_rows.specs.Sums.{sum_below}
use Rattle.enc_ppdb.proofs.outer.tables_before.Given as goal

abbrev pub invariant-loop-k : goal.invariant-loop-k
invariant-loop-k l = (l.seen ≡ sum_below (λ (i : ℕ). one (has_table l.bits i)) l.k) × (l.seen ≤ l.k)
