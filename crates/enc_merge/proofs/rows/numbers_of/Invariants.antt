use Rattle.enc_merge.specs.Writing.{FrontHeld}
use Rattle.enc_merge.proofs.rows.numbers_of.Given as goal

abbrev pub invariant-loop-i : goal.invariant-loop-i
invariant-loop-i l = FrontHeld l.last l.token l.i l.numbers.items
