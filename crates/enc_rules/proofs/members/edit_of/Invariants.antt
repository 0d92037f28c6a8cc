use Rattle.std.proofs.Common.{◌≡◌, None}
use Rattle.enc_rules.specs.First.{first_such}
use Rattle.enc_rules.specs.Told.{adds_child}
use Rattle.enc_rules.proofs.members.edit_of.Given as goal

abbrev pub invariant-loop-k : goal.invariant-loop-k
invariant-loop-k g l = first_such (adds_child l.child l.context.chain l.context.list) l.k ≡ None
