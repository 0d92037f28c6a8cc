use Rattle.std.proofs.Common.{sym, ◌∙◌}
use Rattle.enc_rewriter.proofs.Says.{number_says}
use Rattle.enc_rewriter.proofs.numbers.number_in.Goals as goal

pub returns : goal.returns
returns g c h = number_says (g.V.ModuleView.meaning c.args.view.now) h c.args.column c.num.result c.requires.kind ∙ sym c.num.ensures
