use Rattle.std.proofs.Common.{sym, ◌∙◌}
use Rattle.enc_dispatch.proofs.KeptFacts.{kept_is}
use Rattle.enc_dispatch.proofs.dispatch.Dispatch.local_kind.Goals as goal

pub returns-in-Some : goal.returns-in-Some
returns-in-Some g c = kept_is (g.V.ModuleView.meaning c.args.view.now) c.args.self.now c.args.locals c.args.n c.in-Some.kind c.requires.stands (sym c.kept_local.ensures ∙ c.in-Some.is)
