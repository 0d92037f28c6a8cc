use Rattle.enc_compact.proofs.SeenMoved.{count_seen}
use Rattle.enc_compact.proofs.module.MovedModuleModuleView.count.Goals as goal

pub returns-clause-count : goal.returns-clause-count
returns-clause-count g c =
    count_seen (g.V.ModuleView.meaning c.args.self.now) c.args.table c.count.result c.lent.ensures.sound (rw c.lent.ensures.lent at c.count.ensures.count)
