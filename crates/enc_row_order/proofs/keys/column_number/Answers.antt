use Rattle.std.proofs.Common.{◌≡◌, ◌∙◌, Some, sym, ap}
use Rattle.enc_schema.specs.Schema.{list_at, column_in}
use Rattle.enc_schema.specs.declared.column.Column.TheVariants.{Coded}
use Rattle.enc_row_order.proofs.References.{index_kind, coded_kind, short_kind, reference_low, reference_named}
use Rattle.enc_row_order.proofs.KeysOf.{index_key, coded_key, short_key, moved_named}
use Rattle.enc_row_order.proofs.keys.column_number.Goals as goal

pub refer-requires-clause-kind : goal.refer-requires-clause-kind
refer-requires-clause-kind g c =
    index_kind c.args.row.table c.args.i _ (sym c.column_of.ensures ∙ c.in-Some-Index.is ∙ ap Some c.in-Some-Index.field-0-is)

pub refer-requires-in-Some-Coded-clause-kind : goal.refer-requires-in-Some-Coded-clause-kind
refer-requires-in-Some-Coded-clause-kind g c =
    coded_kind c.args.row.table c.args.i _ (sym c.column_of.ensures ∙ c.in-Some-Coded.is ∙ ap Some c.in-Some-Coded.field-0-is)

pub coded-requires-clause-low : goal.coded-requires-clause-low
coded-requires-clause-low g c =
    let column : column_in c.args.row.table c.args.i ≡ Some (Coded c.in-Some-Coded.kind) =
    sym c.column_of.ensures ∙ c.in-Some-Coded.is ∙ ap Some c.in-Some-Coded.field-0-is in
    c.moved-in-Some-Coded.ensures.low
    (reference_low (g.V.ModuleView.meaning c.args.view.now) c.args.row c.args.i _ c.refer-in-Some-Coded.result c.requires.sound c.requires.row column
    c.refer-in-Some-Coded.ensures)

pub coded-requires-clause-named : goal.coded-requires-clause-named
coded-requires-clause-named g c =
    let column : column_in c.args.row.table c.args.i ≡ Some (Coded c.in-Some-Coded.kind) =
    sym c.column_of.ensures ∙ c.in-Some-Coded.is ∙ ap Some c.in-Some-Coded.field-0-is in
    moved_named (list_at c.args.order.now) c.in-Some-Coded.kind c.refer-in-Some-Coded.result c.moved-in-Some-Coded.result
    c.moved-in-Some-Coded.ensures.moved c.moved-in-Some-Coded.ensures.none
    (reference_named (g.V.ModuleView.meaning c.args.view.now) c.args.row c.args.i _ c.refer-in-Some-Coded.result c.requires.sound c.requires.row column
    c.refer-in-Some-Coded.ensures)

pub num-requires-clause-kind : goal.num-requires-clause-kind
num-requires-clause-kind g c = short_kind c.args.row.table c.args.i (sym c.column_of.ensures ∙ c.in-Some-Num16.is ∙ ap Some c.in-Some-Num16.field-0-is)

pub returns-in-Some-Index : goal.returns-in-Some-Index
returns-in-Some-Index g c =
    index_key (list_at c.args.order.now) (g.V.ModuleView.meaning c.args.view.now) c.args.row c.args.i _ _ _
    (sym c.column_of.ensures ∙ c.in-Some-Index.is ∙ ap Some c.in-Some-Index.field-0-is)
    c.refer.ensures c.moved.ensures.moved

pub returns-in-Some-Coded : goal.returns-in-Some-Coded
returns-in-Some-Coded g c =
    coded_key (list_at c.args.order.now) (g.V.ModuleView.meaning c.args.view.now) c.args.row c.args.i c.in-Some-Coded.kind _ _ _
    (sym c.column_of.ensures ∙ c.in-Some-Coded.is ∙ ap Some c.in-Some-Coded.field-0-is)
    c.refer-in-Some-Coded.ensures c.moved-in-Some-Coded.ensures.moved c.coded.ensures

pub returns-in-Some-Num16 : goal.returns-in-Some-Num16
returns-in-Some-Num16 g c =
    short_key (list_at c.args.order.now) (g.V.ModuleView.meaning c.args.view.now) c.args.row c.args.i _
    (sym c.column_of.ensures ∙ c.in-Some-Num16.is ∙ ap Some c.in-Some-Num16.field-0-is) c.num.ensures
