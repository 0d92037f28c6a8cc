use Rattle.std.proofs.Common.{ℕ, List, ap, ◌∙◌}
use Rattle.enc_schema.specs.Schema.{list_at}
use Rattle.enc_compact.proofs.SeenMoved.{pdb_is}
use Rattle.enc_compact.proofs.compacted.compact.Goals as goal

pub returns-clause-points : goal.returns-clause-points
returns-clause-points g c =
    pdb_is (g.V.ModuleView.meaning c.args.view.now) (g.P.PointSource.debug c.args.points.now) (list_at c.in_ok-clone-2.field-0.value)
    (ap (λ (o : List (List ℕ)). list_at o) (c.in_ok-clone-2.ensures.cases ∙ c.in_ok-order.ensures.ok) ∙ c.in_ok-of.ensures.order)
