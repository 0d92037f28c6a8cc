use Rattle.std.proofs.Common.{◌≡◌, None}
use Rattle.enc_base.specs.Order.{first_below}
use Rattle.enc_delta.specs.Changes.{of_nth, bad_signature_in}
use Rattle.enc_delta.specs.Known.{AreJoinedSignatures}
use Rattle.enc_delta.proofs.signatures.bad_signature.Given as goal

abbrev pub invariant-loop-k : goal.invariant-loop-k
invariant-loop-k g l = record { none : first_below (of_nth (bad_signature_in l.context.chain l.context.delta) l.context.delta) l.k ≡ None; known : AreJoinedSignatures l.context l.known }
