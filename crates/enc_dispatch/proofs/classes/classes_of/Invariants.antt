use Rattle.std.proofs.Common.{◌≡◌, length}
use Rattle.enc_dispatch.specs.Growth.{EachLater}
use Rattle.enc_dispatch.specs.Stored.{IsClassPart}
use Rattle.enc_dispatch.proofs.classes.classes_of.Given as goal

abbrev pub invariant-loop-k : goal.invariant-loop-k
invariant-loop-k g l = EachLater (IsClassPart (g.V.ModuleView.meaning l.view)) l.read l.classes.items × (length l.classes.items ≡ l.k)
