use Rattle.std.proofs.Common.{◌∙◌, arith}
use Rattle.enc_schema.specs.Schema.{list_at}
use Rattle.enc_row_order.proofs.KeysOf.{keyed_two, keyed_one, keyed_none}
use Rattle.enc_row_order.proofs.keys.key.Goals as goal

pub returns-in-empty : goal.returns-in-empty
returns-in-empty g c =
    keyed_none (list_at c.args.order.now) (g.V.ModuleView.meaning c.args.view.now) c.args.row c.key_columns.result.now c.key_columns.ensures.columns
    c.in-empty.len_below

pub returns-in-len1 : goal.returns-in-len1
returns-in-len1 g c =
    keyed_one (list_at c.args.order.now) (g.V.ModuleView.meaning c.args.view.now) c.args.row c.key_columns.result.now _ c.key_columns.ensures.columns
    c.in-len1.len_at_least c.in-len1.len_below (c.from.ensures ∙ c.column_number.ensures)

pub returns-in-len2-up : goal.returns-in-len2-up
returns-in-len2-up g c =
    keyed_two (list_at c.args.order.now) (g.V.ModuleView.meaning c.args.view.now) c.args.row c.key_columns.result.now _ _ c.key_columns.ensures.columns
    c.in-len2-up.len_at_least (omega (arith, c.key_columns.ensures.few)) (c.from-in-len2-up.ensures ∙ c.column_number-high.ensures)
    (c.from-in-len2-up-2.ensures ∙ c.column_number-low.ensures)
