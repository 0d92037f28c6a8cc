use Rattle.std.proofs.Common.{◌≡◌, ℕ, ◌<◌, length, get_or, take}
use Rattle.std.specs.Prelude.{count_by, ◌==◌, ◌&&◌}
use Rattle.enc_base.specs.declared.token.Token.{Token}
use Rattle.enc_delta.specs.Rules.{is_insert}
use Rattle.enc_delta.proofs.known.inserts_of.Given as goal

abbrev pub invariant-loop-i : goal.invariant-loop-i
invariant-loop-i g l = ((t : ℕ) → t < 256 → get_or l.counts t 0 ≡ count_by (λ (x : Token). x.table == t && is_insert (g.C.ChainView.chain l.chain) x) (take l.i l.tokens)) × (length l.counts ≡ 256)
