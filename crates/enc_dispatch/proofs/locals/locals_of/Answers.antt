use Rattle.std.proofs.Common.{◌+◌, ap, length, subst, sym, ◌∙◌}
use Rattle.enc_dispatch.specs.Growth.{EachLater}
use Rattle.enc_dispatch.specs.Stored.{IsLocalsPart}
use Rattle.enc_dispatch.proofs.Each.{each_more}
use Rattle.enc_dispatch.proofs.Found.{one_longer}
use Rattle.enc_dispatch.proofs.locals.locals_of.Goals as goal

pub loop-k-preserved : goal.loop-k-preserved
loop-k-preserved g c =
    let m = g.V.ModuleView.meaning c.args.view.now in
    let read = c.args.read in
    let part = c.locals_part.result in
    let was = c.loop-k.invariant in (
      subst (EachLater (IsLocalsPart m) read) (sym c.in_ok-push.ensures.items) (each_more (λ k. IsLocalsPart m (read + k)) c.loop-k.locals.items part c.loop-k.k was.0 was.1 c.locals_part.ensures),
      ap length c.in_ok-push.ensures.items ∙ one_longer c.loop-k.locals.items part c.loop-k.k was.1,
    )
