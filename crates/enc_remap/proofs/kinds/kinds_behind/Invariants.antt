use Rattle.std.proofs.Common.{◌≡◌, length}
use Rattle.enc_remap.specs.Remap.{kinds_behind}
use Rattle.enc_remap.proofs.kinds.kinds_behind.Given as goal

-- the kinds that are left decide
abbrev pub invariant-loop-kind : goal.invariant-loop-kind
invariant-loop-kind l = kinds_behind l.left l.behind ≡ kinds_behind l.fn.first l.fn.kinds

abbrev pub decreases-loop-kind : goal.decreases-loop-kind
decreases-loop-kind l = length l.left
