use Rattle.std.proofs.Common.{◌∙◌, sym, arith}
use Rattle.std.proofs.lemmas.Option.{slice_get-get_or}
use Rattle.enc_schema.specs.declared.column.Column.TheVariants.{Num8}
use Rattle.enc_rows.proofs.HeapBits.{wide_here, wide_behind, wide_end}
use Rattle.enc_rows.proofs.wide.row_is_wide.Goals as goal

pub returns-then-cell_is_wide : goal.returns-then-cell_is_wide
returns-then-cell_is_wide c =
    let columns = c.args.columns.now in
    let cells = c.args.cells.now in
    sym (wide_here c.args.bit columns cells c.loop-i.i _ _ (slice_get-get_or columns c.loop-i.i Num8 (omega arith)) (slice_get-get_or cells c.loop-i.i 0 (omega arith)) (sym c.cell_is_wide.ensures ∙ c.if-cell_is_wide.true)) ∙ c.loop-i.invariant

pub loop-i-preserved : goal.loop-i-preserved
loop-i-preserved c =
    let columns = c.args.columns.now in
    let cells = c.args.cells.now in
    sym (wide_behind c.args.bit columns cells c.loop-i.i _ _ (slice_get-get_or columns c.loop-i.i Num8 (omega arith)) (slice_get-get_or cells c.loop-i.i 0 (omega arith)) (sym c.cell_is_wide.ensures ∙ c.if-cell_is_wide.false)) ∙ c.loop-i.invariant

pub returns : goal.returns
returns c = sym (wide_end c.args.bit c.args.columns.now c.args.cells.now c.loop-i.i (omega arith) (omega arith)) ∙ c.loop-i.invariant
