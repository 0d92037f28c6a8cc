use Rattle.std.proofs.Common.{◌≡◌}
use Rattle.std.specs.Prelude.{drop}
use Rattle.enc_delta.specs.Pairs.{pairs_in}
use Rattle.enc_delta.specs.Rules.{counted}
use Rattle.enc_delta.proofs.PairsIn.{found}
use Rattle.enc_delta.proofs.pairs.pairs_of.Given as goal

abbrev pub invariant-loop-k : goal.invariant-loop-k
invariant-loop-k l = found l.pairs.items l.last (drop l.k l.log) ≡ pairs_in (counted l.log)
