use Rattle.enc_writer.proofs.LogSays.{have_numbers}
use Rattle.enc_writer.proofs.log.push_edit.Goals as goal

pub push_entries-requires-clause-numbers : goal.push_entries-requires-clause-numbers
push_entries-requires-clause-numbers g c =
    let j = c.args.context.now in
    have_numbers j.chain j.list c.args.k c.edit_at-edit.result.now c.row_at-row.result c.requires.may c.edit_at-edit.ensures c.row_at-row.ensures
