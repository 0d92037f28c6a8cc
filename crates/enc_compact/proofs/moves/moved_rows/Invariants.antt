use Rattle.std.proofs.Common.{◌≡◌}
use Rattle.enc_compact.proofs.MovesListed.{tables_upto}
use Rattle.enc_compact.proofs.moves.moved_rows.Given as goal

abbrev pub invariant-loop-table : goal.invariant-loop-table
invariant-loop-table g l = l.moves.items ≡ tables_upto (g.V.ModuleView.meaning l.view) l.table
