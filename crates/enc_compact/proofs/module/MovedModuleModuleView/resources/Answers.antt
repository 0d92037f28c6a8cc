use Rattle.enc_compact.proofs.SeenMoved.{resources_seen}
use Rattle.enc_compact.proofs.module.MovedModuleModuleView.resources.Goals as goal

pub returns : goal.returns
returns g c =
    resources_seen (g.V.ModuleView.meaning c.args.self.now) c.resources.result.now (rw c.lent.ensures.lent at c.resources.ensures)
