use Rattle.std.proofs.Common.{◌≡◌, length}
use Rattle.enc_dispatch.specs.Growth.{EachLater}
use Rattle.enc_dispatch.specs.Stored.{IsLocalsPart}
use Rattle.enc_dispatch.proofs.locals.locals_of.Given as goal

abbrev pub invariant-loop-k : goal.invariant-loop-k
invariant-loop-k g l = EachLater (IsLocalsPart (g.V.ModuleView.meaning l.view)) l.read l.locals.items × (length l.locals.items ≡ l.k)
