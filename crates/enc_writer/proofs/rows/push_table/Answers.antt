use Rattle.std.proofs.Common.{◌≡◌, ◌≤◌, subst, rules}
use Rattle.std.specs.Prelude.{slice_index}
use Rattle.enc_rows.specs.Written.{rows_at}
use Rattle.enc_rules.specs.Listed.{count_after}
use Rattle.enc_writer.specs.RowsWriting.{RowsWritten}
use Rattle.enc_writer.proofs.RowsSay.{table_written}
use Rattle.enc_writer.proofs.rows.push_table.Goals as goal

pub returns-clause-written : goal.returns-clause-written
returns-clause-written g c =
    let j = c.args.context.now in
    let count : slice_index c.counts.result.now.rows c.args.table ≡ count_after j.chain j.list.edits c.args.table = c.counts.ensures c.args.table c.requires.table in
    let low : c.first_row-n.result ≤ count_after j.chain j.list.edits c.args.table = c.first_row-n.ensures.low in
    let n : c.loop-n.n ≡ count_after j.chain j.list.edits c.args.table = search rules in
    table_written j.chain j.list c.args.bodies.now.il.items c.args.table c.loop-n.tables
    (subst (λ k. RowsWritten j.chain j.list c.args.bodies.now.il.items c.args.table k (rows_at c.loop-n.tables c.args.table)) n c.loop-n.invariant.says)
