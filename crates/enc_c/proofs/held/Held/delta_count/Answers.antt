use Rattle.std.proofs.Common.{◌≡◌, ap, length, arith}
use Rattle.enc_agg.proofs.Histories.{ids_count}
use Rattle.enc_c.specs.State.{State}
use Rattle.enc_c.proofs.held.Held.delta_count.Goals as goal

pub returns : goal.returns
returns c =
    let same : length c.self.inside.chain.rows.deltas ≡ length c.args.self.now.followed.deltas = ap (λ (s : State). length s.followed.deltas) c.self.view_is in
    omega (arith, same, ids_count c.self.inside.chain.rows.base c.self.inside.chain.rows.deltas, rw c.rows.ensures at c.generations.ensures.count)
