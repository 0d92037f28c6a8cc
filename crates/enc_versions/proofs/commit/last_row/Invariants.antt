use Rattle.std.proofs.Common.{◌≡◌, max, length}
use Rattle.enc_versions.specs.Commit.{last_row}
use Rattle.enc_versions.proofs.commit.last_row.Given as goal

abbrev pub invariant-loop-rest : goal.invariant-loop-rest
invariant-loop-rest l = max l.last (last_row l.rest) ≡ last_row l.fn.ready

abbrev pub decreases-loop-rest : goal.decreases-loop-rest
decreases-loop-rest l = length l.rest
