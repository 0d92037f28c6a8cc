use Rattle.std.proofs.Common.{◌∙◌, sym, ap, length, ◌<◌, arith}
use Rattle.serde_json.specs.View.{view}
use Rattle.enc_jobs.proofs.Loops.{behind}
use Rattle.enc_jobs.proofs.Rows.{cells_skip, cells_more, cells_short, cells_refused}
use Rattle.enc_jobs.proofs.cell.cells_in.Goals as goal

pub loop-i-preserved-then-not-is_stated : goal.loop-i-preserved-then-not-is_stated
loop-i-preserved-then-not-is_stated c =
    ap (behind c.loop-i.cells) (sym (cells_skip view c.args.columns.now c.args.items.now c.loop-i.i (length c.loop-i.cells) c.column_at-column.result c.column_at-column.ensures (sym c.is_stated.ensures ∙ c.if-not-is_stated.true))) ∙ c.loop-i.invariant

pub returns-in_default : goal.returns-in_default
returns-in_default c =
    cells_short view c.args.columns.now c.args.items.now c.loop-i.i c.column_at-column.result c.loop-i.cells c.column_at-column.ensures (sym c.is_stated.ensures ∙ c.if-not-is_stated.false) (omega (arith, c.in_default.ensures)) c.loop-i.invariant

pub returns-in_err-cell_read : goal.returns-in_err-cell_read
returns-in_err-cell_read c =
    let within : length c.loop-i.cells < length c.args.items.now = omega (arith, c.len.ensures, c.in-Some.ensures.lookup.3.0) in
    let there = rw c.len.ensures at c.in-Some.ensures.lookup.1 in
    grind (arith, cells_refused view c.args.columns.now c.args.items.now c.loop-i.i c.column_at-column.result c.in-Some.value.now c.loop-i.cells c.in_err-cell_read.field-0.0 c.column_at-column.ensures (sym c.is_stated.ensures ∙ c.if-not-is_stated.false) within there c.in_err-cell_read.ensures c.loop-i.invariant)

pub loop-i-preserved : goal.loop-i-preserved
loop-i-preserved c =
    let within : length c.loop-i.cells < length c.args.items.now = omega (arith, c.len.ensures, c.in-Some.ensures.lookup.3.0) in
    let there = rw c.len.ensures at c.in-Some.ensures.lookup.1 in
    let more = cells_more view c.args.columns.now c.args.items.now c.loop-i.i c.column_at-column.result c.in-Some.value.now c.in_ok-cell_read.field-0 c.loop-i.cells c.column_at-column.ensures (sym c.is_stated.ensures ∙ c.if-not-is_stated.false) within there c.in_ok-cell_read.ensures in
    rw c.in_ok-push.ensures.ok (sym more ∙ c.loop-i.invariant)
