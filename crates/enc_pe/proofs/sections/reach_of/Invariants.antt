use Rattle.std.proofs.Common.{take}
use Rattle.enc_pe.specs.Reach.{ReachOf}
use Rattle.enc_pe.proofs.sections.reach_of.Given as goal

abbrev pub invariant-loop-i : goal.invariant-loop-i
invariant-loop-i l = ReachOf (take l.i l.list) l.reach
