use Rattle.std.proofs.Common.{◌≡◌}
use Rattle.enc_plain.specs.Keys.{near}
use Rattle.enc_plain.proofs.scope_keys.ScopeKeys.+learn_near.Given as goal

abbrev pub decreases-learn_near : goal.decreases-learn_near
decreases-learn_near g l = l.level

abbrev pub invariant-loop-k : goal.invariant-loop-k
invariant-loop-k g l = (l.self ≡ l.fn.self) × (l.near ≡ near (g.R.CellView.rows l.fn.self) l.k l.fn.token)
