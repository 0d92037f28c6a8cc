use Rattle.std.proofs.Common.{◌∙◌}
use Rattle.enc_delta.proofs.ListsSets.{set_told}
use Rattle.enc_delta.proofs.lists.set_fault.Goals as goal

pub returns : goal.returns
returns c = c.placed.ensures ∙ set_told _ _ c.deref.result.now c.deref-2.result.now _ c.least_apart.ensures (λ n. rw c.deref.ensures.value (c.in_ok-left.ensures.same n)) (λ n. rw c.deref-2.ensures.value (c.in_ok-right.ensures.same n))
