use Rattle.enc_rows.proofs.NineColumns.{start_at, start_room}
use Rattle.enc_rows.proofs.columns.Columns.start.Goals as goal

pub returns-clause-start : goal.returns-clause-start
returns-clause-start c =
    let at = start_at _ _ c.args.table c.args.column _ c.self.invariant.0 c.place_of.ensures.place c.place_of.ensures.few c.place_of.ensures.column in
    rw (← c.self.view_is, c.from.ensures) at

pub returns-clause-within : goal.returns-clause-within
returns-clause-within c =
    let at = start_at _ _ c.args.table c.args.column _ c.self.invariant.0 c.place_of.ensures.place c.place_of.ensures.few c.place_of.ensures.column in
    rw (← c.self.view_is, c.from.ensures) (start_room _ c.args.table c.args.column _ at)
