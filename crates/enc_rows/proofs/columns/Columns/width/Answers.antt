use Rattle.enc_schema.specs.Schema.{column_in}
use Rattle.enc_rows.proofs.NineColumns.{width_is, width_size, width_fits}
use Rattle.enc_rows.proofs.columns.Columns.width.Goals as goal

pub returns-clause-width : goal.returns-clause-width
returns-clause-width c =
    rw (← c.self.view_is) (width_is _ _ c.args.table c.args.column _ c.self.invariant.1 c.place_of.ensures.place c.place_of.ensures.few c.place_of.ensures.column)

pub returns-clause-size : goal.returns-clause-size
returns-clause-size c =
    width_size _ (column_in c.args.table c.args.column) _ c.requires (width_is _ _ c.args.table c.args.column _ c.self.invariant.1 c.place_of.ensures.place c.place_of.ensures.few c.place_of.ensures.column)

pub returns-clause-fits : goal.returns-clause-fits
returns-clause-fits c =
    rw (← c.self.view_is) (width_fits _ (column_in c.args.table c.args.column) _ (width_is _ _ c.args.table c.args.column _ c.self.invariant.1 c.place_of.ensures.place c.place_of.ensures.few c.place_of.ensures.column))
