use Rattle.std.proofs.Common.{subst, sym, ◌≤◌, length}
use Rattle.enc_chain.specs.Kept.{Kept}
use Rattle.enc_chain.proofs.Chains.{paired}
use Rattle.enc_chain.proofs.joined.Joined.at.Goals as goal

pub at-requires-2 : goal.at-requires-2
at-requires-2 c =
    let j = c.self.inside in
    subst (λ n. c.args.generation ≤ n) (paired j.rows.deltas j.points.deltas c.self.invariant)
    (subst (λ (k : Kept). c.args.generation ≤ length k.rows.deltas) (sym c.self.view_is) c.requires)
