use Rattle.std.proofs.Common.{Some, sym, ap, ◌∙◌}
use Rattle.enc_base.specs.declared.token.Token.{Token}
use Rattle.enc_plain.specs.Cell.{refer}
use Rattle.enc_compact.proofs.SeenMoved.{cell_seen}
use Rattle.enc_compact.proofs.module.MovedModuleModuleView.refer.Goals as goal

pub returns : goal.returns
returns g c =
    cell_seen (g.V.ModuleView.meaning c.args.self.now) c.args.row c.args.column (refer c.refer.result) c.lent.ensures.sound
    (rw (c.lent.ensures.lent, c.old.ensures.old) at c.refer.ensures)
    ∙ ap (λ (t : Token). Some (refer t)) (sym c.moved.ensures.moved)
