use Rattle.std.proofs.Common.{ℕ, List, ap}
use Rattle.enc_schema.specs.Schema.{list_at}
use Rattle.enc_compact.proofs.SeenMoved.{old_is, old_seen}
use Rattle.enc_compact.proofs.module.MovedModule.old.Goals as goal

pub returns-clause-old : goal.returns-clause-old
returns-clause-old g c =
    rw (← c.self.view_is) (old_is (g.V.ModuleView.meaning c.self.inside.view.now) (list_at c.self.inside.order.value) (list_at c.deref.result.now) c.args.row
    c.old.result c.self.invariant.order (ap (λ (o : List (List ℕ)). list_at o) c.deref.ensures) c.old.ensures.old)

pub returns-clause-there : goal.returns-clause-there
returns-clause-there g c =
    let m = g.V.ModuleView.meaning c.self.inside.view.now in
    let old = old_is m (list_at c.self.inside.order.value) (list_at c.deref.result.now) c.args.row c.old.result c.self.invariant.order
    (ap (λ (o : List (List ℕ)). list_at o) c.deref.ensures) c.old.ensures.old in
    rw (← c.self.view_is, old) (old_seen m c.args.row c.self.invariant.sound (rw (← c.self.view_is) at c.requires))
