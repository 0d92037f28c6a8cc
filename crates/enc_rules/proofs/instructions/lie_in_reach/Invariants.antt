use Rattle.std.proofs.Common.{◌≡◌, length}
use Rattle.std.specs.List.{list_all}
use Rattle.enc_edit_list.specs.Reach.{lies_in_reach}
use Rattle.enc_rules.proofs.instructions.lie_in_reach.Given as goal

abbrev pub invariant-loop-rest : goal.invariant-loop-rest
invariant-loop-rest l = list_all (lies_in_reach l.end) l.rest ≡ list_all (lies_in_reach l.end) l.fn.targets

abbrev pub decreases-loop-rest : goal.decreases-loop-rest
decreases-loop-rest l = length l.rest
