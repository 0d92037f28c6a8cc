use Rattle.std.proofs.Common.{◌≡◌, ℕ, drop, nat_lt}
use Rattle.std.specs.List.{list_all}
use Rattle.enc_rows.proofs.header.are_few.Given as goal

abbrev pub invariant-loop-n : goal.invariant-loop-n
invariant-loop-n l = list_all (λ (n : ℕ). nat_lt n 0x1000000) (drop l.n-index l.n-items) ≡ list_all (λ (n : ℕ). nat_lt n 0x1000000) l.counts.rows
