use Rattle.std.proofs.Common.{◌≡◌, take, map}
use Rattle.std.specs.Prelude.{filter}
use Rattle.enc_base.specs.Token.{number_of}
use Rattle.enc_delta.specs.declared.pairs.Pair.{Pair}
use Rattle.enc_delta.specs.Rules.{least}
use Rattle.enc_delta.specs.Members.{pair_seen}
use Rattle.enc_delta.specs.Gains.{breaks}
use Rattle.enc_delta.proofs.members.least_child.Given as goal

abbrev pub invariant-loop-k : goal.invariant-loop-k
invariant-loop-k g l = l.best ≡ least (map (λ (p : Pair). number_of p.child) (filter (λ (p : Pair). breaks l.context l.gain (pair_seen p)) (take l.k l.pairs)))
