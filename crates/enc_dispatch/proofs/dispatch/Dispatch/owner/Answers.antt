use Rattle.std.proofs.Common.{sym, ◌∙◌}
use Rattle.enc_dispatch.proofs.KeptFacts.{owner_is, owner_there}
use Rattle.enc_dispatch.proofs.dispatch.Dispatch.owner.Goals as goal

pub unreachable-requires : goal.unreachable-requires
unreachable-requires g c = owner_there (g.V.ModuleView.meaning c.args._view.now) c.args.self.now c.args.method c.requires.stands c.requires.table c.requires.row (sym c.method.ensures ∙ c.in-None.is)

pub returns : goal.returns
returns g c = owner_is (g.V.ModuleView.meaning c.args._view.now) c.args.self.now c.args.method c.in-Some.part c.requires.stands c.requires.table (sym c.method.ensures ∙ c.in-Some.is)
