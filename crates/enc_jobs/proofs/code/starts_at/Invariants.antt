use Rattle.std.proofs.Common.{◌≡◌, drop}
use Rattle.std.specs.Prelude.{slice_get}
use Rattle.enc_jobs.specs.Lists.{every}
use Rattle.enc_jobs.proofs.Loops.{behind}
use Rattle.enc_jobs.proofs.code.starts_at.Given as goal

-- the offsets so far, and those of the indices that are left
abbrev pub invariant-loop-index : goal.invariant-loop-index
invariant-loop-index l = behind l.list (every (slice_get l.starts) (drop l.index-index l.indices)) ≡ every (slice_get l.starts) l.fn.indices
