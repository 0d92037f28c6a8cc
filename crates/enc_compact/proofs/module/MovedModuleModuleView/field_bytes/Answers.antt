use Rattle.enc_plain.specs.Cell.{field}
use Rattle.enc_compact.proofs.SeenMoved.{cell_seen}
use Rattle.enc_compact.proofs.module.MovedModuleModuleView.field_bytes.Goals as goal

pub returns : goal.returns
returns g c =
    cell_seen (g.V.ModuleView.meaning c.args.self.now) c.args.row 0 (field c.field_bytes.result.now) c.lent.ensures.sound
    (rw (c.lent.ensures.lent, c.old.ensures.old) at c.field_bytes.ensures)
