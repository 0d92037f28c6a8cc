use Rattle.enc_compact.proofs.SeenMoved.{body_place, place_some}
use Rattle.enc_compact.proofs.module.MovedModuleModuleView.code_place.Goals as goal

pub returns-clause-body : goal.returns-clause-body
returns-clause-body g c =
    body_place (g.V.ModuleView.meaning c.args.self.now) (g.V.ModuleView.places c.args.self.now) c.args.method c.code_place.result c.lent.ensures.sound
    c.requires.table (rw (c.lent.ensures.lent, c.old.ensures.old) at c.code_place.ensures.body)

pub returns-clause-some : goal.returns-clause-some
returns-clause-some g c =
    place_some (g.V.ModuleView.meaning c.args.self.now) (g.V.ModuleView.places c.args.self.now) c.code_place.result _
    (rw c.lent.ensures.lent at c.code_place.ensures.some)
