use Rattle.std.proofs.Common.{◌≡◌, map, drop}
use Rattle.serde_json.specs.View.{view}
use Rattle.enc_jobs.specs.Points.{points_from}
use Rattle.enc_jobs.proofs.Loops.{behind}
use Rattle.enc_jobs.proofs.point.points_of.Given as goal

-- the points so far, and those that are left
abbrev pub invariant-loop-value : goal.invariant-loop-value
invariant-loop-value l = behind l.list (points_from l.starts l.document (map view (drop l.value-index l.items))) ≡ points_from l.starts l.fn.document (map view l.fn.items)
