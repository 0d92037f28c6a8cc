use Rattle.std.proofs.Common.{◌+◌, length, arith}
use Rattle.std.specs.Prelude.{reverse}
use Rattle.std.proofs.lemmas.List.{length-reverse}
use Rattle.enc_ppdb.proofs.PlacedFiles.{placed_known}
use Rattle.enc_ppdb.proofs.chain.PdbChainPointSource.document_place.Goals as goal

pub returns : goal.returns
returns c =
    rw (← c.self.view_is, c.place.ensures, c.number_of.ensures.number, c.deref.ensures.value)
    (placed_known c.self.inside.base (length c.self.inside.added.items + 1) (reverse c.self.inside.added.items) c.args.method c.args.number (rw (length-reverse c.self.inside.added.items) (omega arith)) c.ranges.number.fits)
