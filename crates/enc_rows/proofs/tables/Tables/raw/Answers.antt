use Rattle.std.proofs.Common.{arith, refl}
use Rattle.enc_schema.specs.Schema.{column_in}
use Rattle.enc_rows.proofs.Places.{raw_there, raw_room}
use Rattle.enc_rows.proofs.tables.Tables.raw.Goals as goal

pub number_of-requires-clause-room : goal.number_of-requires-clause-room
number_of-requires-clause-room g c =
    let within = rw (← c.self.view_is) at c.place.ensures.within in
    let bytes = rw (← c.self.view_is) at c.requires.bytes in
    rw c.part.ensures.part (omega (arith, bytes, raw_room _ (column_in c.args.token.table c.args.column) _ _ _ c.requires.column within c.width-width.ensures.fits))

pub returns-clause-cell : goal.returns-clause-cell
returns-clause-cell g c =
    rw (← c.self.view_is) (raw_there _ _ c.args.token c.args.column _ _ _ (column_in c.args.token.table c.args.column) refl c.requires.column (rw (← c.self.view_is) at c.requires.row) c.width-width.ensures.width (rw (← c.self.view_is) at c.place.ensures.place) (rw c.part.ensures.part at c.number_of.ensures))
