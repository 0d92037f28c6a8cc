use Rattle.std.proofs.Common.{◌≡◌, length}
use Rattle.enc_dispatch.specs.Growth.{EachLater}
use Rattle.enc_dispatch.specs.Stored.{IsMethodPart}
use Rattle.enc_dispatch.proofs.methods.methods_of.Given as goal

abbrev pub invariant-loop-k : goal.invariant-loop-k
invariant-loop-k g l = EachLater (IsMethodPart (g.V.ModuleView.meaning l.view)) l.read l.methods.items × (length l.methods.items ≡ l.k)
