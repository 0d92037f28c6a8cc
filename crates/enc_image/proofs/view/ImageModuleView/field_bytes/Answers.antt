use Rattle.std.proofs.Common.{sym, ap, ◌∙◌, Some}
use Rattle.enc_plain.specs.Cell.{field}
use Rattle.enc_image.specs.Base.{field_bytes}
use Rattle.enc_image.proofs.Rows.{field_cell}
use Rattle.enc_image.proofs.view.ImageModuleView.field_bytes.Goals as goal

pub returns : goal.returns
returns c = field_cell _ c.args.row c.requires.row c.requires.table ∙ ap (λ s. Some (field (field_bytes s c.args.row))) (sym c.cells.ensures.source) ∙ ap (λ b. Some (field b)) (sym c.field_bytes.ensures)
