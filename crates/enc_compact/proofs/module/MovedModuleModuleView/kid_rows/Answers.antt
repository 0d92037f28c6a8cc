use Rattle.enc_compact.proofs.SeenMoved.{kid_rows_seen}
use Rattle.enc_compact.proofs.module.MovedModuleModuleView.kid_rows.Goals as goal

pub returns : goal.returns
returns g c =
    kid_rows_seen (g.V.ModuleView.meaning c.args.self.now) c.args.owner c.args.table c.in_ok-moved.moved.items c.deref.result.now c.in_ok-rows.rows.items
    c.lent.ensures.sound c.in_ok-moved.ensures c.deref.ensures.value (rw (c.lent.ensures.lent, c.old.ensures.old) at c.in_ok-rows.ensures)
