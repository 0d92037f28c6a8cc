use Rattle.std.proofs.Common.{sym, ◌∙◌}
use Rattle.enc_meta.specs.Built.{heaps_built}
use Rattle.enc_rewriter.proofs.Says.{guid_says}
use Rattle.enc_rewriter.proofs.numbers.guid_number_in.Goals as goal

pub returns-clause-says : goal.returns-clause-says
returns-clause-says g c =
    guid_says (g.V.ModuleView.meaning c.args.view.now) (heaps_built c.args.heaps.now) c.guid.result c.in_ok-number.number c.in_ok-number.ensures.number ∙ sym c.guid.ensures
