use Rattle.std.proofs.Common.{subst}
use Rattle.enc_dispatch.specs.Growth.{HasGrown}
use Rattle.enc_dispatch.proofs.Grown.{grown, grown_with_room}
use Rattle.enc_dispatch.proofs.UpTo.{nothing_read, empty_up_to}
use Rattle.enc_dispatch.proofs.dispatch.Dispatch.begin.Goals as goal

pub growth-requires-clause-stands : goal.growth-requires-clause-stands
growth-requires-clause-stands g c = empty_up_to c.empty-index.result (g.V.ModuleView.meaning c.args.view.now) c.empty-index.ensures c.requires

pub returns : goal.returns
returns g c =
    let m = g.V.ModuleView.meaning c.args.view.now in
    let has = subst (λ d. HasGrown d c.in_ok-growth.growth c.grow.new.self) c.in_ok-make_room.ensures.kept c.grow.ensures in
    grown c.empty-index.result c.in_ok-growth.growth c.grow.new.self m nothing_read c.requires (empty_up_to c.empty-index.result m c.empty-index.ensures c.requires) c.in_ok-growth.ensures
    (grown_with_room c.empty-index.result c.in_ok-growth.growth c.make_room.new.self.room c.grow.new.self has)
