use Rattle.std.proofs.Common.{◌≡◌, map, drop}
use Rattle.serde_json.specs.View.{view}
use Rattle.enc_jobs.specs.Clause.{clause_said}
use Rattle.enc_jobs.specs.Lists.{every}
use Rattle.enc_jobs.proofs.Loops.{behind}
use Rattle.enc_jobs.proofs.clause.clauses_of.Given as goal

-- the clauses so far, and those that are left
abbrev pub invariant-loop-value : goal.invariant-loop-value
invariant-loop-value l = behind l.list (every (clause_said l.offsets) (map view (drop l.value-index l.items))) ≡ every (clause_said l.offsets) (map view l.fn.items)
