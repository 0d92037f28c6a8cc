use Rattle.std.proofs.Common.{ℕ, List, ap}
use Rattle.enc_schema.specs.Schema.{list_at}
use Rattle.enc_compact.proofs.SeenMoved.{new_is}
use Rattle.enc_compact.proofs.module.MovedModule.moved.Goals as goal

pub returns-clause-moved : goal.returns-clause-moved
returns-clause-moved g c =
    rw (← c.self.view_is) (new_is (g.V.ModuleView.meaning c.self.inside.view.now) (list_at c.self.inside.order.value) (list_at c.deref.result.now) c.args.token
    c.moved.result c.self.invariant.order (ap (λ (o : List (List ℕ)). list_at o) c.deref.ensures) c.moved.ensures.moved)
