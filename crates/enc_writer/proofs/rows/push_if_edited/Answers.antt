use Rattle.std.proofs.Common.{sym, arith}
use Rattle.enc_rows.specs.Written.{rows_at}
use Rattle.enc_list_delta.proofs.TokensUnbroken.{counts_fit}
use Rattle.enc_writer.proofs.RowsSay.{none_written}
use Rattle.enc_writer.proofs.rows.push_if_edited.Goals as goal

pub overflow_add-n : goal.overflow_add-n
overflow_add-n g c =
    let j = c.args.context.now in
    let few = counts_fit j.chain j.list c.requires.ready.may c.args.table in
    omega (arith, few, c.requires.there)

pub returns-then-not-is_edited_row-clause-says : goal.returns-then-not-is_edited_row-clause-says
returns-then-not-is_edited_row-clause-says g c =
    let j = c.args.context.now in
    none_written j.chain j.list c.args.bodies.now.il.items c.args.table c.args.n (rows_at c.args.tables.now c.args.table) c.requires.so_far (sym c.if-not-is_edited_row.ensures)
