use Rattle.std.proofs.Common.{◌≡◌}
use Rattle.enc_sigs.specs.Mix.{mixed_words}
use Rattle.enc_sigs.proofs.mix.mixed_bytes.Given as goal

abbrev pub invariant-loop-k : goal.invariant-loop-k
invariant-loop-k l = l.state ≡ mixed_words l.fn.mix l.bytes l.k
