use Rattle.enc_row_order.proofs.Staged.{all_staged}
use Rattle.enc_row_order.proofs.order.Order.of.Goals as goal

pub returns-clause-order : goal.returns-clause-order
returns-clause-order g c =
    all_staged (g.V.ModuleView.meaning c.args.view.now) _ _ _ _ _ _ _ c.in_ok-own.ensures.same c.in_ok-types.ensures.staged c.in_ok-members.ensures.staged
    c.in_ok-params.ensures.staged c.in_ok-keyed.ensures.staged c.in_ok-constraints.ensures.staged c.in_ok-order.ensures.staged
