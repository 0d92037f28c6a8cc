use Rattle.std.proofs.Common.{◌≡◌}
use Rattle.enc_plain.specs.Namesakes.{AreNamesakes}
use Rattle.enc_plain.specs.Pairs.{AreAlikePairs}
use Rattle.enc_base.specs.Tables.{type_spec}
use Rattle.enc_plain.proofs.known.judge_all_inner.Given as goal

abbrev pub invariant-loop-a : goal.invariant-loop-a
invariant-loop-a g l = AreNamesakes (g.R.CellView.rows l.rows) l.names × AreAlikePairs (g.R.CellView.rows l.rows) l.known × (l.known.table ≡ type_spec)
