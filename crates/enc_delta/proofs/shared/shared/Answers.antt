use Rattle.std.proofs.Common.{sym, ◌∙◌}
use Rattle.enc_delta.proofs.NearTwins.{near_none, near_more, near_past}
use Rattle.enc_delta.proofs.shared.shared.Goals.{then-has_neighbour+in_ok-push, else-has_neighbour}
use Rattle.enc_delta.proofs.shared.shared.Goals as goal

pub loop-k-init : goal.loop-k-init
loop-k-init g c = c.new-kept.ensures.items ∙ sym (near_none (g.M.Members.asked c.args.members.now) (g.M.Members.keys c.args.members.now) c.args.entries.now)

pub loop-k-preserved : goal.loop-k-preserved
loop-k-preserved g c =
    let q = g.M.Members.asked c.args.members.now in
    let keys = g.M.Members.keys c.args.members.now in
    elim c.if-has_neighbour.branch [
      | then-has_neighbour+in_ok-push w ↦ rw (w.kept-is, w.in_ok-push.ensures.items, w.twin_key.ensures, c.loop-k.invariant) (sym (near_more q keys c.args.entries.now c.loop-k.k (sym c.has_neighbour.ensures ∙ w.if-has_neighbour.true)))
      | else-has_neighbour w ↦ rw w.kept-is (c.loop-k.invariant ∙ sym (near_past q keys c.args.entries.now c.loop-k.k (sym c.has_neighbour.ensures ∙ w.if-has_neighbour.false)))
    ]
