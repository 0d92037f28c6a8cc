use Rattle.std.proofs.Common.{◌+◌, sym, ap, ◌∙◌, arith}
use Rattle.enc_delta.proofs.ListsInserts.{inserts_none, into_yes, into_no}
use Rattle.enc_delta.proofs.lists.inserts.Goals.{then-is_insert_into, else-is_insert_into}
use Rattle.enc_delta.proofs.lists.inserts.Goals as goal

pub loop-k-init : goal.loop-k-init
loop-k-init g c = record { number = sym (inserts_none _ _); few = omega arith }

pub loop-k-preserved : goal.loop-k-preserved
loop-k-preserved g c = elim c.if-is_insert_into.branch [
  | then-is_insert_into w ↦ record { number = w.n-is ∙ ap (λ n. n + 1) c.loop-k.invariant.number ∙ sym (into_yes _ _ _ _ c.loop-k-test.true (sym c.is_insert_into.ensures ∙ w.if-is_insert_into.true)); few = omega arith }
  | else-is_insert_into w ↦ record { number = w.n-is ∙ c.loop-k.invariant.number ∙ sym (into_no _ _ _ _ c.loop-k-test.true (sym c.is_insert_into.ensures ∙ w.if-is_insert_into.false)); few = omega arith }
]
