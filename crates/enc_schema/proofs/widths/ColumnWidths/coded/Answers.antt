use Rattle.std.proofs.Common.{◌∙◌, ap}
use Rattle.enc_schema.specs.Widths.{coded_width}
use Rattle.enc_schema.proofs.Kept.{kept_coded, kept_size}
use Rattle.enc_schema.proofs.widths.ColumnWidths.coded.Goals as goal

pub returns-clause-width : goal.returns-clause-width
returns-clause-width c =
    kept_coded _ c.self.inside.coded c.args.kind c.self.invariant ∙ ap (λ s. coded_width s c.args.kind) c.self.view_is

pub returns-clause-size : goal.returns-clause-size
returns-clause-size c = kept_size _ c.self.inside.coded c.args.kind c.self.invariant
