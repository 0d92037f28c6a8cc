use Rattle.enc_meta.specs.Built.{heaps_built}
use Rattle.enc_rewriter.proofs.PtrTables.{all_held}
use Rattle.enc_rewriter.proofs.rows.push_all.Goals as goal

pub returns-clause-held : goal.returns-clause-held
returns-clause-held g c =
    all_held (g.V.ModuleView.meaning c.args.by.now.view.now) (heaps_built c.args.heaps.now) c.args.by.now.placed.now c.push_tables.new.tables c.push_all_ptrs.new.tables
    c.requires.ready.sources.sound c.in_ok-push_tables.ensures.says c.in_ok-push_all_ptrs.ensures
