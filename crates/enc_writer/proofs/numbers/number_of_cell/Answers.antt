use Rattle.enc_writer.proofs.NumbersSay.{no_field, no_guid}
use Rattle.enc_writer.proofs.numbers.number_of_cell.Goals as goal

pub plain_number-requires-clause-field : goal.plain_number-requires-clause-field
plain_number-requires-clause-field g c = let j = c.args.context.now in no_field j.chain j.list c.args.row c.args.i c.requires.may c.requires.row

pub plain_number-requires-in-Num16-clause-field : goal.plain_number-requires-in-Num16-clause-field
plain_number-requires-in-Num16-clause-field g c = let j = c.args.context.now in no_field j.chain j.list c.args.row c.args.i c.requires.may c.requires.row

pub plain_number-requires-in-Num32-clause-field : goal.plain_number-requires-in-Num32-clause-field
plain_number-requires-in-Num32-clause-field g c = let j = c.args.context.now in no_field j.chain j.list c.args.row c.args.i c.requires.may c.requires.row

pub unreachable-requires : goal.unreachable-requires
unreachable-requires g c = let j = c.args.context.now in no_guid j.chain j.list c.args.row c.args.i c.requires.may c.requires.row (rw c.in-Guid.is at c.requires.column)
