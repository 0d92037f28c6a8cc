use Rattle.std.proofs.Common.{◌+◌, length, arith}
use Rattle.std.specs.Prelude.{reverse}
use Rattle.std.proofs.lemmas.List.{length-reverse}
use Rattle.enc_ppdb.proofs.PlacedFiles.{placed_known}
use Rattle.enc_ppdb.proofs.chain.EarlierPdbPointSource.document_place.Goals as goal

pub returns : goal.returns
returns c =
    rw (← c.self.view_is, c.place.ensures, c.number_of.ensures.number)
    (placed_known c.self.inside.base.now (length c.self.inside.added.now + 1) (reverse c.self.inside.added.now) c.args.method c.args.number (rw (length-reverse c.self.inside.added.now) (omega arith)) c.ranges.number.fits)
