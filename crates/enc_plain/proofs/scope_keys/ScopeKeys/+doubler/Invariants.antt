use Rattle.std.proofs.Common.{◌≡◌, ◌+◌, ◌*◌}
use Rattle.enc_plain.specs.Keys.{near}
use Rattle.enc_plain.proofs.scope_keys.ScopeKeys.+doubler.Given as goal

abbrev pub decreases-found_near : goal.decreases-found_near
decreases-found_near g l = 2 * l.level

abbrev pub decreases-near : goal.decreases-near
decreases-near g l = 2 * l.level + 1

abbrev pub invariant-found_near-loop-k : goal.invariant-found_near-loop-k
invariant-found_near-loop-k g l = l.near ≡ near (g.R.CellView.rows l.fn.self) l.k l.fn.token
