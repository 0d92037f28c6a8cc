use Rattle.std.proofs.Common.{◌≡◌, false}
use Rattle.std.specs.List.{list_any}
use Rattle.std.specs.Prelude.{nat_lt}
use Rattle.enc_rows.specs.Sums.{below}
use Rattle.enc_rules.specs.Listed.{count_after}
use Rattle.enc_rules.proofs.whole.has_many_rows.Given as goal

abbrev pub invariant-loop-table : goal.invariant-loop-table
invariant-loop-table g l = list_any (λ table. nat_lt 0xFFFFFF (count_after (g.C.ChainView.chain l.chain) l.added table)) (below l.table) ≡ false
