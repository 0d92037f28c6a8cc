use Rattle.std.proofs.Common.{sym}
use Rattle.enc_plain.specs.Alike.{signatures_alike}
use Rattle.enc_plain.proofs.known.type_specs_known.Goals as goal

pub returns-then-has-clause-alike : goal.returns-then-has-clause-alike
returns-then-has-clause-alike g c = sym (c.has.ensures (signatures_alike (g.R.CellView.rows c.args.rows.now) 0x1B) (g.R.CellView.stored c.args.rows.now) _ _ c.requires.specs c.spec_place-left.ensures c.spec_place-right.ensures c.if-has.true)
