use Rattle.enc_meta.specs.Built.{heaps_built}
use Rattle.enc_rewriter.proofs.RowsPushed.{more_says}
use Rattle.enc_rewriter.proofs.rows.push_number.Goals as goal

pub returns-clause-says : goal.returns-clause-says
returns-clause-says g c =
    more_says (g.V.ModuleView.meaning c.args.by.now.view.now) (heaps_built c.args.heaps.now) c.args.by.now.placed.now c.args.at.row c.args.at.i c.args.cells.now.items c.push.new.self.items c.args.at.column c.in_ok-number.number
    c.requires.so_far c.requires.column c.in_ok-number.ensures.says c.in_ok-push.ensures.items
