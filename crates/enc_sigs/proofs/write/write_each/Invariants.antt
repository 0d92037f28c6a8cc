use Rattle.std.proofs.Common.{◌≡◌, ◌++◌, length}
use Rattle.enc_sigs.specs.Spelling.{each_numeral}
use Rattle.enc_sigs.proofs.write.write_each.Given as goal

abbrev pub invariant-loop-rest : goal.invariant-loop-rest
invariant-loop-rest l = l.out.items ++ each_numeral l.fn.kind l.rest ≡ l.fn.out.items ++ each_numeral l.fn.kind l.fn.kids

abbrev pub decreases-loop-rest : goal.decreases-loop-rest
decreases-loop-rest l = length l.rest
