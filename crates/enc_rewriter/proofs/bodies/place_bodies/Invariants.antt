use Rattle.std.proofs.Common.{◌≡◌, length}
use Rattle.enc_meta.specs.Built.{heaps_built}
use Rattle.enc_meta.specs.Heaps.{user_at}
use Rattle.enc_rewriter.specs.Standing.{Weighs, bodies_before, AreBodiesPlaced, AreKnown}
use Rattle.enc_rewriter.proofs.bodies.place_bodies.Given as goal

abbrev pub invariant-loop-n : goal.invariant-loop-n
invariant-loop-n g l = (l.heaps ≡ l.fn.heaps)
    × (length l.rvas.items ≡ l.n)
    × AreBodiesPlaced (g.V.ModuleView.meaning l.view) (user_at (heaps_built l.fn.heaps).users) l.to.code.items l.rvas.items l.n
    × Weighs (bodies_before (g.V.ModuleView.meaning l.view) l.n) (length l.to.code.items)
    × AreKnown (g.V.ModuleView.meaning l.view) (user_at (heaps_built l.fn.heaps).users) (g.V.ModuleView.places l.view) l.to.code.items l.to.known
