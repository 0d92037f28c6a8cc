use Rattle.enc_delta.proofs.NearTwins.{by_both}
use Rattle.enc_delta.proofs.twins.has_twin.Goals as goal

pub returns-clause-twin : goal.returns-clause-twin
returns-clause-twin g c = by_both (g.M.Members.asked c.args.members.now) c.args.entries.now c.args.k c.has_twin_before.result c.if-has_twin_behind.ensures.twin (rw c.has_twin_behind.ensures.kept at c.has_twin_before.ensures.twin)
