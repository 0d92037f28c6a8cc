use Rattle.std.proofs.Common.{◌≡◌, ◌++◌}
use Rattle.enc_compact.proofs.MovesListed.{moves_upto}
use Rattle.enc_compact.proofs.moves.push_table.Given as goal

abbrev pub invariant-loop-n : goal.invariant-loop-n
invariant-loop-n g l = l.moves.items ≡ l.fn.moves.items ++ moves_upto (g.V.ModuleView.meaning l.view) l.table l.n
