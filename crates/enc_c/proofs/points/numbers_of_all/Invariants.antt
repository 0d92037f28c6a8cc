use Rattle.std.proofs.Common.{◌≡◌, map, take}
use Rattle.enc_c.specs.Points.{point_numbers}
use Rattle.enc_c.proofs.points.numbers_of_all.Given as goal

abbrev pub invariant-loop-i : goal.invariant-loop-i
invariant-loop-i l = l.all.items ≡ map point_numbers (take l.i l.points.points)
