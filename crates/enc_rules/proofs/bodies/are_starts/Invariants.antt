use Rattle.std.proofs.Common.{◌≡◌, length}
use Rattle.std.specs.List.{list_all}
use Rattle.enc_rules.specs.Marked.{is_marked}
use Rattle.enc_rules.proofs.bodies.are_starts.Given as goal

abbrev pub invariant-loop-rest : goal.invariant-loop-rest
invariant-loop-rest l = list_all (is_marked l.marks) l.rest ≡ list_all (is_marked l.marks) l.fn.offsets

abbrev pub decreases-loop-rest : goal.decreases-loop-rest
decreases-loop-rest l = length l.rest
