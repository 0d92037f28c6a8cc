use Rattle.enc_compact.proofs.SeenMoved.{owner_seen}
use Rattle.enc_compact.proofs.module.MovedModuleModuleView.owner.Goals as goal

pub returns : goal.returns
returns g c =
    owner_seen (g.V.ModuleView.meaning c.args.self.now) c.args.child c.owner.result c.moved.result c.lent.ensures.sound c.requires.row c.requires.table
    (rw (c.lent.ensures.lent, c.old.ensures.old) at c.owner.ensures) c.moved.ensures.moved
