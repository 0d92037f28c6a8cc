use Rattle.enc_plain.specs.Cell.{guid}
use Rattle.enc_compact.proofs.SeenMoved.{cell_seen}
use Rattle.enc_compact.proofs.module.MovedModuleModuleView.guid.Goals as goal

pub returns : goal.returns
returns g c =
    cell_seen (g.V.ModuleView.meaning c.args.self.now) c.args.row c.args.column (guid c.guid.result) c.lent.ensures.sound
    (rw (c.lent.ensures.lent, c.old.ensures.old) at c.guid.ensures)
