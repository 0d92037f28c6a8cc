use Rattle.enc_row_order.proofs.Staged.{owners_fit}
use Rattle.enc_row_order.proofs.stage.rows_by_owner.Goals as goal

pub kids_listed-requires-clause-rows : goal.kids_listed-requires-clause-rows
kids_listed-requires-clause-rows g c =
    owners_fit (g.V.ModuleView.meaning c.args.view.now) c.args.before.now c.owner_table.result _ c.rows.result.now c.requires.orders c.owner_table.ensures
    c.rows.ensures
