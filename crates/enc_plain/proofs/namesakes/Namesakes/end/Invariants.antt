use Rattle.std.proofs.Common.{◌≡◌}
use Rattle.enc_plain.specs.Rows.{Rows}
use Rattle.enc_plain.specs.Namesakes.{names_of, AreNamesakes}
use Rattle.enc_plain.proofs.namesakes.Namesakes.end.Given as goal

abbrev pub invariant-loop-next : goal.invariant-loop-next
invariant-loop-next l = (rows : Rows) → AreNamesakes rows l.fn.self → (names_of rows l.row ≡ names_of rows l.end) × AreNamesakes rows l.self

abbrev pub decreases-loop-next : goal.decreases-loop-next
decreases-loop-next l = l.end
