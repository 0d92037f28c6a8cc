use Rattle.std.proofs.Common.{◌≡◌, None}
use Rattle.enc_base.specs.Order.{first_below}
use Rattle.enc_delta.specs.Changes.{of_nth, bad_locals_in}
use Rattle.enc_delta.specs.Known.{HaveLocals}
use Rattle.enc_delta.proofs.locals.bad_locals.Given as goal

abbrev pub invariant-loop-k : goal.invariant-loop-k
invariant-loop-k g l = record { none : first_below (of_nth (bad_locals_in l.context.chain l.context.delta) l.context.delta) l.k ≡ None; known : HaveLocals l.context l.known }
