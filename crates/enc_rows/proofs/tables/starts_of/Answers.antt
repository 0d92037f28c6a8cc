use Rattle.std.proofs.Common.{◌∙◌, arith}
use Rattle.std.proofs.lemmas.List.{length-set}
use Rattle.std.proofs.lemmas.List.Edits.{fill_by_more}
use Rattle.enc_rows.specs.Layout.{Layout, table_start}
use Rattle.enc_rows.proofs.Places.{table_start_more}
use Rattle.enc_rows.proofs.tables.starts_of.Goals as goal

pub loop-table-preserved : goal.loop-table-preserved
loop-table-preserved c =
    let layout : Layout = record { span = c.args.span; counts = c.args.counts.now.rows; shape = c.args.widths.now; first = c.args.first } in (
      omega (arith, table_start_more layout c.loop-table.table, c.bytes_of-end.ensures.bytes, c.loop-table.invariant.0),
      omega (arith, c.bytes_of-end.ensures.few, c.loop-table.invariant.1),
      length-set c.loop-table.of c.loop-table.table c.loop-table.end ∙ c.loop-table.invariant.2,
      rw c.loop-table.invariant.0 (fill_by_more (table_start layout) c.loop-table.of c.loop-table.table 0 (omega arith) c.loop-table.invariant.3),
    )
