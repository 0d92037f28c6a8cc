use Rattle.std.proofs.Common.{◌≡◌}
use Rattle.enc_sigs.specs.Mix.{rounds}
use Rattle.enc_sigs.proofs.mix.rounds.Given as goal

abbrev pub invariant-loop-k : goal.invariant-loop-k
invariant-loop-k l = l.state ≡ rounds l.key l.fn.mix l.k
