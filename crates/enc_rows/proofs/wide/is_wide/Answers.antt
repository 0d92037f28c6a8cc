use Rattle.std.proofs.Common.{◌≡◌, ◌∙◌, sym, true, arith}
use Rattle.std.specs.List.{list_any}
use Rattle.enc_schema.specs.Schema.{columns_in}
use Rattle.enc_rows.specs.Written.{rows_at, row_is_wide, is_wide}
use Rattle.enc_rows.proofs.Below.{any_true}
use Rattle.enc_rows.proofs.wide.is_wide.Goals as goal

pub returns-then-table_is_wide : goal.returns-then-table_is_wide
unfolding is_wide
returns-then-table_is_wide c =
    let here : list_any (row_is_wide c.args.bit c.columns_of.result.now) c.rows_at.result.now ≡ true = sym c.table_is_wide.ensures ∙ c.if-table_is_wide.true in
    sym (any_true (λ table. list_any (row_is_wide c.args.bit (columns_in table)) (rows_at c.args.tables.now table)) c.loop-table.table 64 (omega arith) (rw (c.columns_of.ensures.columns, c.rows_at.ensures) at here))
