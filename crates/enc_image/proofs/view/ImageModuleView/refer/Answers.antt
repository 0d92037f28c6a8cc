use Rattle.std.proofs.Common.{sym, ◌∙◌, ap, Some}
use Rattle.enc_image.proofs.Rows.{index_cell, coded_cell}
use Rattle.enc_image.proofs.view.ImageModuleView.refer.Goals as goal

pub unreachable-requires : goal.unreachable-requires
unreachable-requires c =
    let column = sym c.in-Some-Coded.ensures ∙ ap (λ x. Some x) c.in-Some-Coded.field-0-is in
    let cell = coded_cell _ c.args.row c.args.column _ _ c.number-number.ensures.sound c.requires.row c.requires.kind column c.number-number.ensures.raw in
    rw (← c.in-None.ensures.token) at cell

pub returns-in-Some-Index : goal.returns-in-Some-Index
returns-in-Some-Index c =
    let column = sym c.in-Some-Index.ensures ∙ ap (λ x. Some x) c.in-Some-Index.field-0-is in
    rw c.index_token.ensures (index_cell _ c.args.row c.args.column _ _ c.number-number.ensures.sound c.requires.row c.requires.kind column c.number-number.ensures.raw)

pub returns-in-Some : goal.returns-in-Some
returns-in-Some c =
    let column = sym c.in-Some-Coded.ensures ∙ ap (λ x. Some x) c.in-Some-Coded.field-0-is in
    let cell = coded_cell _ c.args.row c.args.column _ _ c.number-number.ensures.sound c.requires.row c.requires.kind column c.number-number.ensures.raw in
    rw (← c.in-Some.ensures.token) at cell
