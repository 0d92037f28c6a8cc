use Rattle.std.proofs.Common.{sym, subst, arith}
use Rattle.enc_base.specs.Token.{nth_row}
use Rattle.enc_rows.specs.Written.{rows_at}
use Rattle.enc_writer.specs.RowsWriting.{DeltaRowSays}
use Rattle.enc_writer.proofs.RowsSay.{low_row, some_columns, few_rows, row_pushed}
use Rattle.enc_writer.proofs.rows.push_row.Goals as goal

pub overflow_add-row : goal.overflow_add-row
overflow_add-row g c =
    let j = c.args.context.now in
    let low = low_row j.chain j.list c.args.table c.args.n c.requires.ready.may c.requires.row in
    omega (arith, low)

pub push-requires-clause-table : goal.push-requires-clause-table
push-requires-clause-table g c =
    let j = c.args.context.now in
    some_columns j.chain j.list (nth_row c.args.table c.args.n) c.requires.ready.may c.requires.row

pub push-requires-clause-few : goal.push-requires-clause-few
push-requires-clause-few g c =
    let j = c.args.context.now in
    few_rows j.chain j.list c.args.bodies.now.il.items c.args.table c.args.n (rows_at c.args.tables.now c.args.table) c.requires.ready.may c.requires.row c.requires.so_far

pub returns-clause-says : goal.returns-clause-says
returns-clause-says g c =
    let j = c.args.context.now in
    row_pushed j.chain j.list c.args.bodies.now.il.items c.args.table c.args.n c.args.tables.now c.push.new.self c.deref.result.now c.requires.so_far c.requires.row
    (subst (λ xs. DeltaRowSays j.chain j.list c.args.bodies.now.il.items (nth_row c.args.table c.args.n) xs) (sym c.deref.ensures.value) c.in_ok-numbers.ensures.says) c.in_ok-push.ensures.pushed
