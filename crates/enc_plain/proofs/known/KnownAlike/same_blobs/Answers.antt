use Rattle.std.proofs.Common.{bytes_eq, sym}
use Rattle.enc_plain.proofs.known.KnownAlike.same_blobs.Goals as goal

pub returns-then-has-clause-same : goal.returns-then-has-clause-same
returns-then-has-clause-same g c = sym (c.has.ensures bytes_eq (g.R.CellView.stored c.args.rows.now) _ _ c.requires.known.4 c.requires.a c.requires.b c.if-has.true)
