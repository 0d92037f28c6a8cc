use Rattle.std.proofs.Common.{◌<◌, ◌^◌, refl, arith}
use Rattle.enc_compact.specs.Seen.{place_number}
use Rattle.enc_compact.proofs.SeenMoved.{place_seen}
use Rattle.enc_compact.proofs.module.MovedModuleModuleView.blob_place.Goals as goal

pub returns-clause-blob : goal.returns-clause-blob
returns-clause-blob g c =
    let short : c.args.column < 2 ^ 8 = omega (arith, c.ranges.column.fits) in
    rw (← c.self.view_is, c.from.ensures, c.from-2.ensures, c.from-3.ensures)
    ((place_seen (g.V.ModuleView.meaning c.self.inside.view.now) c.args.row c.args.column (place_number c.args.row c.args.column) c.self.invariant.sound
    (rw (← c.self.view_is) at c.requires.row) c.requires.kind short refl).0)

pub returns-clause-some : goal.returns-clause-some
returns-clause-some g c =
    let short : c.args.column < 2 ^ 8 = omega (arith, c.ranges.column.fits) in
    rw (← c.self.view_is, c.from.ensures, c.from-2.ensures, c.from-3.ensures)
    ((place_seen (g.V.ModuleView.meaning c.self.inside.view.now) c.args.row c.args.column (place_number c.args.row c.args.column) c.self.invariant.sound
    (rw (← c.self.view_is) at c.requires.row) c.requires.kind short refl).1)
