use Rattle.enc_plain.specs.Cell.{number}
use Rattle.enc_compact.proofs.SeenMoved.{cell_seen}
use Rattle.enc_compact.proofs.module.MovedModuleModuleView.num.Goals as goal

pub returns : goal.returns
returns g c =
    cell_seen (g.V.ModuleView.meaning c.args.self.now) c.args.row c.args.column (number c.num.result) c.lent.ensures.sound
    (rw (c.lent.ensures.lent, c.old.ensures.old) at c.num.ensures)
