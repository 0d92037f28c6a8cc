use Rattle.std.proofs.Common.{refl, sym, ◌∙◌, arith}
use Rattle.enc_delta.proofs.ListsInserts.{seen_none, seen_no, seen_yes, seen_bad, seen_all}
use Rattle.enc_delta.proofs.lists.insert_fault.Goals.{then-is_insert+else-not-is_next, else-is_insert}
use Rattle.enc_delta.proofs.lists.insert_fault.Goals as goal

pub loop-k-init : goal.loop-k-init
loop-k-init g c = seen_none _ _ _ c.none_seen-seen.ensures.size c.none_seen-seen.ensures.zeros

pub loop-k-preserved : goal.loop-k-preserved
loop-k-preserved g c = elim c.if-is_insert.branch [
  | then-is_insert+else-not-is_next w ↦ rw w.seen-is (seen_yes _ _ _ _ _ c.loop-k.invariant c.loop-k-test.true (omega arith) (sym c.is_insert.ensures ∙ w.if-is_insert.true) refl (sym w.is_next.ensures ∙ w.if-not-is_next.false))
  | else-is_insert w ↦ rw w.seen-is (seen_no _ _ _ _ c.loop-k.invariant c.loop-k-test.true (sym c.is_insert.ensures ∙ w.if-is_insert.false))
]

pub returns-then-not-is_next : goal.returns-then-not-is_next
returns-then-not-is_next g c = seen_bad _ _ _ _ _ c.loop-k.invariant c.loop-k-test.true (omega arith) (sym c.is_insert.ensures ∙ c.if-is_insert.true) refl (sym c.is_next.ensures ∙ c.if-not-is_next.true)

pub returns : goal.returns
returns g c = seen_all _ _ _ _ c.loop-k.invariant (omega arith)
