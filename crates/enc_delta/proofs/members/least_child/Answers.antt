use Rattle.std.proofs.Common.{sym, ◌∙◌, arith}
use Rattle.enc_delta.specs.declared.pairs.Pair.{Pair}
use Rattle.enc_delta.proofs.LeastChild.{least_told}
use Rattle.enc_delta.specs.Members.{pair_seen}
use Rattle.enc_delta.specs.Gains.{breaks}
use Rattle.enc_delta.proofs.TwinsTold.{twin_more, twin_past}
use Rattle.enc_delta.proofs.members.least_child.Goals.{then-breaks, else-breaks}
use Rattle.enc_delta.proofs.members.least_child.Goals as goal

pub loop-k-preserved : goal.loop-k-preserved
loop-k-preserved g c =
    let test : Pair → _ = λ (p : Pair). breaks c.args.context.now c.args.gain (pair_seen p) in
    elim c.if-breaks.branch [
      | then-breaks w ↦ w.best-is ∙ w.lesser.ensures ∙ rw (w.number.ensures, c.loop-k.invariant) (sym (twin_more test c.pairs-pairs.result.now c.loop-k.k c.loop-k-test.true (sym c.breaks.ensures ∙ w.if-breaks.true)))
      | else-breaks w ↦ w.best-is ∙ c.loop-k.invariant ∙ sym (twin_past test c.pairs-pairs.result.now c.loop-k.k c.loop-k-test.true (sym c.breaks.ensures ∙ w.if-breaks.false))
    ]

pub returns : goal.returns
returns g c = c.placed.ensures ∙ least_told (breaks c.args.context.now c.args.gain) c.args.context.now.delta c.pairs-pairs.result.now c.loop-k.k c.loop-k.best (omega (arith, c.loop-k-test.false)) c.pairs-pairs.ensures.pairs c.loop-k.invariant
