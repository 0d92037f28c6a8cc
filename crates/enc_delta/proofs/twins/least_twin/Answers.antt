use Rattle.std.proofs.Common.{sym, ◌∙◌}
use Rattle.enc_delta.specs.Members.{is_new_twin}
use Rattle.enc_delta.proofs.NearTwins.{keyed_more, keyed_past}
use Rattle.enc_delta.proofs.twins.least_twin.Goals.{then-is_new_twin, else-is_new_twin}
use Rattle.enc_delta.proofs.twins.least_twin.Goals as goal

pub loop-k-preserved : goal.loop-k-preserved
loop-k-preserved g c =
    let test = is_new_twin (g.M.Members.asked c.args.members.now) c.args.entries.now in
    let twin = rw c.loop-k.invariant.kept at c.is_new_twin.ensures.twin in
    record {
      kept = c.is_new_twin.ensures.kept ∙ c.loop-k.invariant.kept;
      best = elim c.if-is_new_twin.branch [
        | then-is_new_twin w ↦ w.best-is ∙ w.lesser.ensures ∙ rw (w.number.ensures, c.loop-k.invariant.best) (sym (keyed_more test c.args.entries.now c.loop-k.k c.loop-k-test.true (sym twin ∙ w.if-is_new_twin.true)))
        | else-is_new_twin w ↦ w.best-is ∙ c.loop-k.invariant.best ∙ sym (keyed_past test c.args.entries.now c.loop-k.k c.loop-k-test.true (sym twin ∙ w.if-is_new_twin.false))
      ];
    }
