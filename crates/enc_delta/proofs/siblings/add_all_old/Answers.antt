use Rattle.std.proofs.Common.{sym, ◌∙◌}
use Rattle.enc_delta.proofs.MembersBeside.{adding_none, adding_more, adding_again}
use Rattle.enc_delta.proofs.siblings.add_all_old.Goals.{then-not-is_beside_last+in_ok-add_old, else-not-is_beside_last}
use Rattle.enc_delta.proofs.siblings.add_all_old.Goals as goal

pub loop-k-init : goal.loop-k-init
loop-k-init g c = adding_none _ _

pub loop-k-preserved : goal.loop-k-preserved
loop-k-preserved g c = elim c.if-not-is_beside_last.branch [
  | then-not-is_beside_last+in_ok-add_old w ↦ rw (w.all-is, w.last-is, w.in_ok-add_old.ensures) (adding_more _ _ _ _ _ _ c.loop-k-test.true c.loop-k.invariant)
  | else-not-is_beside_last w ↦ rw (w.all-is, w.last-is) (adding_again _ _ _ _ _ _ c.loop-k-test.true (sym c.is_beside_last.ensures ∙ w.if-not-is_beside_last.false) c.loop-k.invariant)
]
