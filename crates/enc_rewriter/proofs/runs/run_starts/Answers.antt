use Rattle.std.proofs.Common.{◌<◌, arith, length, subst}
use Rattle.enc_plain.specs.Module.{rows_in}
use Rattle.enc_rewriter.proofs.RunStarts.{fits_next}
use Rattle.enc_rewriter.proofs.runs.run_starts.Goals as goal

pub overflow_add-first : goal.overflow_add-first
overflow_add-first g c =
    let few = fits_next (g.V.ModuleView.meaning c.args.view.now) c.args.child c.loop-n.n c.loop-n.first c.kids_of-first.result c.requires.sound c.requires.child
    (subst (λ t. c.loop-n.n < length (rows_in (g.V.ModuleView.meaning c.args.view.now) t)) c.owner_table.ensures (subst (λ k. c.loop-n.n < k) c.count-n-end.ensures.count c.loop-n-test.true))
    c.loop-n.invariant.next c.kids_of-first.ensures in
    omega (arith, few)
