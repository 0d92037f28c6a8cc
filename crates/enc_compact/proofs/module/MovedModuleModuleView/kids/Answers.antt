use Rattle.enc_compact.proofs.SeenMoved.{kids_many}
use Rattle.enc_compact.proofs.module.MovedModuleModuleView.kids.Goals as goal

pub returns : goal.returns
returns g c =
    kids_many (g.V.ModuleView.meaning c.args.self.now) c.args.owner c.args.table c.kids.result c.lent.ensures.sound
    (rw (c.lent.ensures.lent, c.old.ensures.old) at c.kids.ensures)
