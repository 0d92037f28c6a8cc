use Rattle.enc_remap.proofs.StoredRules.{joined}
use Rattle.enc_remap.proofs.asked.may_remap.Goals as goal

pub returns : goal.returns
returns g c =
    let texts = g.O.ModuleView.users c.args.old.now.view.now in
    let users = g.V.ModuleView.users c.args.newest.now.view.now in
    joined texts users (g.O.ModuleView.meaning c.args.old.now.view.now) (g.V.ModuleView.meaning c.args.newest.now.view.now)
    (g.Q.PointSource.debug c.args.old.now.points.now) (g.P.PointSource.debug c.args.newest.now.points.now) c.args.at c.args.pairs.now c.in-Some.old
    c.in_ok-new.new c.in_ok-broken.broken (rw c.in-Some.is at c.in_ok-old.ensures.means) c.in_ok-new.ensures.means (c.in_ok-broken.ensures texts)
