use Rattle.std.proofs.Common.{◌≡◌, length}
use Rattle.enc_versions.specs.Shared.{AreShared}
use Rattle.enc_versions.proofs.Begun.{EachVersion}
use Rattle.enc_versions.proofs.versions.slots_of.Given as goal

abbrev pub invariant-loop-n : goal.invariant-loop-n
invariant-loop-n g l =
    AreShared (g.V.ModuleView.users l.view) (g.V.ModuleView.places l.view) l.shared
    × EachVersion (g.V.ModuleView.users l.view) (g.V.ModuleView.meaning l.view) (g.P.PointSource.debug l.points) l.slots.items
    × (length l.slots.items ≡ l.n)
