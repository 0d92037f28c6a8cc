use Rattle.std.proofs.Common.{◌≡◌, take}
use Rattle.std.specs.Prelude.{filter}
use Rattle.enc_delta.specs.Members.{is_namesake}
use Rattle.enc_delta.proofs.shared.namesakes.Given as goal

abbrev pub invariant-loop-k : goal.invariant-loop-k
invariant-loop-k g l = l.kept.items ≡ filter (is_namesake (g.M.Members.asked l.members) l.entries) (take l.k l.pairs)
