use Rattle.std.proofs.Common.{◌≡◌}
use Rattle.enc_delta.specs.Members.{near_told}
use Rattle.enc_delta.proofs.shared.shared.Given as goal

abbrev pub invariant-loop-k : goal.invariant-loop-k
invariant-loop-k g l = l.kept.items ≡ near_told (g.M.Members.asked l.members) (g.M.Members.keys l.members) l.entries l.k
