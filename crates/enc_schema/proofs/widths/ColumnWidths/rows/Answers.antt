use Rattle.std.proofs.Common.{rules}
use Rattle.std.proofs.lemmas.List.FromFn.{fill_by_all}
use Rattle.enc_schema.specs.Widths.{row_width, row_widths}
use Rattle.enc_schema.proofs.widths.ColumnWidths.rows.Goals as goal

pub returns : goal.returns
unfolding row_widths
returns c = fill_by_all (row_width c.args.self.now) c.loop-table.rows 56 0 c.loop-table.invariant.0 (search rules)
