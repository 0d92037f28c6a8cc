use Rattle.enc_rewriter.proofs.Gathers.{clean}
use Rattle.enc_rewriter.proofs.pass.text_in.Goals as goal

pub returns-clause-clean : goal.returns-clause-clean
returns-clause-clean g c = clean (g.V.ModuleView.meaning c.args.view.now) c.args.row c.args.i c.text.result.now c.requires.sound c.requires.row c.requires.kind c.text.ensures
