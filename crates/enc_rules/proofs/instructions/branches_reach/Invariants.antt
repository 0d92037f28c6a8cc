use Rattle.std.proofs.Common.{◌≡◌, ◌+◌, length}
use Rattle.enc_edit_list.specs.Sizes.{length_of_code}
use Rattle.enc_edit_list.specs.Reach.{branches_reach}
use Rattle.enc_rules.proofs.instructions.branches_reach.Given as goal

abbrev pub invariant-loop-rest : goal.invariant-loop-rest
invariant-loop-rest l = record {
  reach : branches_reach l.at l.rest ≡ branches_reach 0 l.fn.code;
  end : l.at + length_of_code l.rest ≡ length_of_code l.fn.code;
}

abbrev pub decreases-loop-rest : goal.decreases-loop-rest
decreases-loop-rest l = length l.rest
