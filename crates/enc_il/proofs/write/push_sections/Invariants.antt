use Rattle.std.proofs.Common.{◌≡◌, ◌++◌, ◌<◌, length}
use Rattle.enc_il.specs.Written.{sections_written}
use Rattle.enc_il.proofs.write.push_sections.Given as goal

abbrev pub invariant-loop-rest : goal.invariant-loop-rest
invariant-loop-rest l = record {
  some : 0 < length l.rest;
  written : l.out.items ++ sections_written l.rest ≡ l.fn.out.items ++ sections_written l.fn.clauses;
}

abbrev pub decreases-loop-rest : goal.decreases-loop-rest
decreases-loop-rest l = length l.rest
