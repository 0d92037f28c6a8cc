use Rattle.std.proofs.Common.{◌≡◌, drop}
use Rattle.std.specs.List.{list_all}
use Rattle.enc_ppdb.specs.Fault.{is_there}
use Rattle.enc_ppdb.proofs.fault.are_there.Given as goal

abbrev pub invariant-loop-i : goal.invariant-loop-i
invariant-loop-i l = list_all (is_there l.count) l.points.points ≡ list_all (is_there l.count) (drop l.i l.points.points)
