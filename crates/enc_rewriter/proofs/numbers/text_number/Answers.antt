use Rattle.std.proofs.Common.{sym, ◌∙◌}
use Rattle.enc_meta.specs.Built.{heaps_built}
use Rattle.enc_rewriter.proofs.Says.{text_says}
use Rattle.enc_rewriter.proofs.numbers.text_number.Goals as goal

pub returns-clause-says : goal.returns-clause-says
returns-clause-says g c =
    text_says (g.V.ModuleView.meaning c.args.view.now) (heaps_built c.args.heaps.now) c.text_in.result.now c.in_ok-offset.offset c.in_ok-offset.ensures.offset ∙ sym c.text_in.ensures.cell
