use Rattle.std.proofs.Common.{◌+◌, ap, length, subst, sym, ◌∙◌}
use Rattle.enc_dispatch.specs.Growth.{EachLater, IsClassOfMethod}
use Rattle.enc_dispatch.proofs.Each.{each_more}
use Rattle.enc_dispatch.proofs.Found.{one_longer}
use Rattle.enc_dispatch.proofs.OwnerClasses.{row_class}
use Rattle.enc_dispatch.proofs.owners.asked_owners.Goals as goal

pub loop-k-preserved : goal.loop-k-preserved
loop-k-preserved g c =
    let m = g.V.ModuleView.meaning c.args.view.now in
    let o = c.owner_of_nth.result in
    let was = c.loop-k.invariant in
    let here = row_class m (c.args.read + c.loop-k.k + 1) o c.owner_of_nth.ensures in (
      subst (EachLater (IsClassOfMethod m) c.args.read) (sym c.in_ok-push.ensures.items) (each_more (λ k. IsClassOfMethod m (c.args.read + k)) c.loop-k.owners.items o.row c.loop-k.k was.0 was.1 here),
      ap length c.in_ok-push.ensures.items ∙ one_longer c.loop-k.owners.items o.row c.loop-k.k was.1,
    )
