use Rattle.std.proofs.Common.{◌≡◌}
use Rattle.enc_plain.specs.Known.{AreKnownSpecs}
use Rattle.enc_plain.specs.Namesakes.{AreNamesakes}
use Rattle.enc_plain.specs.Pairs.{AreAlikePairs}
use Rattle.enc_plain.proofs.known.judge_all.Given as goal

abbrev pub invariant-loop-pair : goal.invariant-loop-pair
invariant-loop-pair g l = AreNamesakes (g.R.CellView.rows l.rows) l.names × AreKnownSpecs (g.R.CellView.rows l.rows) (g.R.CellView.stored l.rows) l.specs × AreAlikePairs (g.R.CellView.rows l.rows) l.known × (l.known.table ≡ l.fn.known.table)
