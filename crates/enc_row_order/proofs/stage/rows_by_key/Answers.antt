use Rattle.enc_schema.specs.Schema.{list_at}
use Rattle.enc_row_order.proofs.Staged.{keyed_sorted}
use Rattle.enc_row_order.proofs.stage.rows_by_key.Goals as goal

pub returns : goal.returns
returns g c =
    keyed_sorted (g.V.ModuleView.meaning c.args.view.now) (list_at c.args.before.now) c.args.table c.in_ok-entries.entries.items _ c.in_ok-entries.ensures
    c.in_ok-rows.ensures
