use Rattle.std.proofs.Common.{ap}
use Rattle.enc_checker.specs.Followed.{Followed}
use Rattle.enc_c.proofs.Kept.{short_none}
use Rattle.enc_c.proofs.held.begin.Goals as goal

pub invariant_of-result : goal.invariant_of-result
invariant_of-result c = λ is. short_none _ (ap (λ (f : Followed). f.deltas) c.in_ok-chain.ensures)
