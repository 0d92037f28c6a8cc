use Rattle.enc_rewriter.proofs.RootForms.{indices_fit_form}
use Rattle.enc_rewriter.proofs.RunsFit.{module_fits}
use Rattle.enc_rewriter.proofs.written.image_with.Goals as goal

pub finish-requires-clause-fit : goal.finish-requires-clause-fit
finish-requires-clause-fit g c =
    let m = g.V.ModuleView.meaning c.args.view.now in
    let p = c.args.parts in
    rw (c.of.ensures, c.requires.form) (indices_fit_form m p.tables (module_fits m p.heaps p.placed p.tables c.requires.sound c.requires.held))
