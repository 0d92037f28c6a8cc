use Rattle.std.proofs.Common.{◌∙◌, sym, arith}
use Rattle.std.proofs.lemmas.Option.{slice_get-get_or}
use Rattle.enc_schema.specs.declared.column.Column.TheVariants.{Num8}
use Rattle.enc_rows.proofs.Cells.{cell_fits, row_more, row_all}
use Rattle.enc_rows.proofs.written.push_row.Goals as goal

pub push_cell-requires : goal.push_cell-requires
push_cell-requires c =
    let columns = c.args.columns.now in
    let cells = c.args.cells.now in
    cell_fits c.args.widths.now columns cells c.loop-i.i _ _ c.requires.fit (slice_get-get_or columns c.loop-i.i Num8 (omega arith)) (slice_get-get_or cells c.loop-i.i 0 (omega arith))

pub loop-i-preserved : goal.loop-i-preserved
loop-i-preserved c =
    let columns = c.args.columns.now in
    let cells = c.args.cells.now in
    row_more c.args.widths.now columns cells c.loop-i.i _ _ _ _ (slice_get-get_or columns c.loop-i.i Num8 (omega arith)) (slice_get-get_or cells c.loop-i.i 0 (omega arith)) c.in_ok-push_cell.ensures ∙ c.loop-i.invariant

pub returns : goal.returns
returns c = sym (row_all _ _ _ c.loop-i.i _ (omega arith) (omega arith)) ∙ c.loop-i.invariant
