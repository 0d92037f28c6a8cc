use Rattle.std.proofs.Common.{◌≤◌, length, ap, refl, sym, ◌∙◌, arith}
use Rattle.std.specs.Prelude.{not}
use Rattle.enc_delta.proofs.PairsIn.{pairs_more, pairs_past, pairs_end}
use Rattle.enc_delta.proofs.pairs.pairs_of.Goals.{then-not-is_module+in_ok-add_pair, else-not-is_module}
use Rattle.enc_delta.proofs.pairs.pairs_of.Goals as goal

pub loop-k-init : goal.loop-k-init
loop-k-init c = rw c.new-pairs.ensures.items refl

pub loop-k-preserved : goal.loop-k-preserved
loop-k-preserved c = elim c.if-not-is_module.branch [
  | then-not-is_module+in_ok-add_pair w ↦ rw (w.pairs-is, w.last-is, w.in_ok-add_pair.ensures) (pairs_more _ _ _ _ c.loop-k-test.true (ap not (sym c.is_module.ensures ∙ w.if-not-is_module.true)) c.loop-k.invariant)
  | else-not-is_module w ↦ rw (w.pairs-is, w.last-is) (pairs_past _ _ _ _ c.loop-k-test.true (ap not (sym c.is_module.ensures ∙ w.if-not-is_module.false)) c.loop-k.invariant)
]

pub returns : goal.returns
returns c = let end : length c.args.log.now ≤ c.loop-k.k = omega arith in pairs_end _ _ _ _ end c.loop-k.invariant
