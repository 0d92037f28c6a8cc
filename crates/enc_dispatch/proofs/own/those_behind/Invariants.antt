use Rattle.std.proofs.Common.{◌≡◌, ℕ, filter, take}
use Rattle.std.specs.Prelude.{nat_lt}
use Rattle.enc_dispatch.proofs.own.those_behind.Given as goal

abbrev pub invariant-loop-row : goal.invariant-loop-row
invariant-loop-row l = l.later.items ≡ filter (λ (row : ℕ). nat_lt l.read row) (take l.row-index l.rows)
