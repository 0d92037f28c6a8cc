use Rattle.std.proofs.Common.{refl, sym, ◌∙◌, arith}
use Rattle.enc_delta.proofs.ListsLog.{logged_none, logged_skip, logged_change, logged_pair, bad_code, bad_pair, logged_all}
use Rattle.enc_delta.proofs.lists.log_fault.Goals.{then-counts+else-entry-gt5+then-entry-ne0+else-not-is_pair, then-counts+else-entry-gt5+else-entry-ne0, else-counts}
use Rattle.enc_delta.proofs.lists.log_fault.Goals as goal

pub loop-k-init : goal.loop-k-init
loop-k-init g c = logged_none _ _ _

pub loop-k-preserved : goal.loop-k-preserved
loop-k-preserved g c = elim c.if-counts.branch [
  | then-counts+else-entry-gt5+then-entry-ne0+else-not-is_pair w ↦
      let ne = w.if-entry-ne0.true in
      rw w.pairs-is (logged_pair _ _ _ _ _ _ c.loop-k.invariant c.loop-k-test.true (sym c.counts.ensures ∙ w.if-counts.true) (omega arith) w.if-entry-gt5.false refl (rw c.parents-rows.ensures at (sym w.is_pair.ensures ∙ w.if-not-is_pair.false)))
  | then-counts+else-entry-gt5+else-entry-ne0 w ↦ rw w.pairs-is (logged_change _ _ _ _ _ c.loop-k.invariant c.loop-k-test.true w.if-entry-ne0.false)
  | else-counts w ↦ rw w.pairs-is (logged_skip _ _ _ _ _ c.loop-k.invariant c.loop-k-test.true (sym c.counts.ensures ∙ w.if-counts.false))
]

pub returns-then-entry-gt5 : goal.returns-then-entry-gt5
returns-then-entry-gt5 g c = rw c.log_place.ensures (bad_code _ _ _ _ _ c.loop-k.invariant c.loop-k-test.true (sym c.counts.ensures ∙ c.if-counts.true) c.if-entry-gt5.true)

pub returns-then-not-is_pair : goal.returns-then-not-is_pair
returns-then-not-is_pair g c =
    let ne = c.if-entry-ne0.true in
    rw c.log_place-then-not-is_pair.ensures (bad_pair _ _ _ _ _ _ c.loop-k.invariant c.loop-k-test.true (sym c.counts.ensures ∙ c.if-counts.true) (omega arith) c.if-entry-gt5.false refl (rw c.parents-rows.ensures at (sym c.is_pair.ensures ∙ c.if-not-is_pair.true)))

pub returns : goal.returns
returns g c = logged_all _ _ _ _ _ c.loop-k.invariant (omega arith)
