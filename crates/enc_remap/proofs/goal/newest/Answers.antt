use Rattle.enc_remap.proofs.Newest.{bodies_if_some}
use Rattle.enc_remap.proofs.goal.newest.Goals as goal

pub returns-clause-body : goal.returns-clause-body
returns-clause-body g c =
    bodies_if_some (g.V.ModuleView.users c.args.view.now) (g.V.ModuleView.meaning c.args.view.now) c.args.versions.now.methods c.args.method
    c.newest.result (λ c'. c'.now.value) c.requires.versions c.requires.table c.newest.ensures
