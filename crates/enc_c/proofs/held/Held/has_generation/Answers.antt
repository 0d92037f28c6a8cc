use Rattle.std.proofs.Common.{arith}
use Rattle.std.proofs.lemmas.Bool.Decides.{nat_tests}
use Rattle.enc_agg.proofs.Histories.{heaps_count}
use Rattle.enc_c.proofs.Kept.{go_paired}
use Rattle.enc_c.proofs.held.Held.has_generation.Goals as goal

pub returns-clause-paired : goal.returns-clause-paired
returns-clause-paired c =
    let h = c.self.inside.chain in
    let now = rw c.rows.ensures at c.generations.ensures.heaps in
    rw (← c.self.view_is) (grind (arith, nat_tests, now, heaps_count h.rows.base h.rows.deltas, go_paired h.rows.deltas h.points.deltas c.holds.ensures.go))
