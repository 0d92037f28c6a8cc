use Rattle.std.proofs.Common.{◌≡◌, map, take}
use Rattle.enc_c.specs.Moves.{move_told}
use Rattle.enc_c.proofs.compacting.numbers_of.Given as goal

abbrev pub invariant-loop-i : goal.invariant-loop-i
invariant-loop-i l = l.all.items ≡ map move_told (take l.i l.moves)
