use Rattle.std.proofs.Common.{◌≡◌, ℕ, ◌<◌, length, get_or, take}
use Rattle.std.specs.Prelude.{count_by, ◌==◌}
use Rattle.enc_base.specs.declared.token.Token.{Token}
use Rattle.enc_delta.proofs.tables.table_counts.Given as goal

abbrev pub invariant-loop-i : goal.invariant-loop-i
invariant-loop-i l = ((t : ℕ) → t < 256 → get_or l.counts t 0 ≡ count_by (λ (x : Token). x.table == t) (take l.i l.tokens)) × (length l.counts ≡ 256)
