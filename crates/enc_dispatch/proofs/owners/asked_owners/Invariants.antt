use Rattle.std.proofs.Common.{◌≡◌, length}
use Rattle.enc_dispatch.specs.Growth.{EachLater, IsClassOfMethod}
use Rattle.enc_dispatch.proofs.owners.asked_owners.Given as goal

abbrev pub invariant-loop-k : goal.invariant-loop-k
invariant-loop-k g l = EachLater (IsClassOfMethod (g.V.ModuleView.meaning l.view)) l.read l.owners.items × (length l.owners.items ≡ l.k)
