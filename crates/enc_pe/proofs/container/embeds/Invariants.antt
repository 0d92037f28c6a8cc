use Rattle.std.proofs.Common.{◌≡◌}
use Rattle.enc_pe.specs.Container.{embeds}
use Rattle.enc_pe.proofs.container.embeds.Given as goal

abbrev pub invariant-loop-k : goal.invariant-loop-k
invariant-loop-k l = l.found ≡ embeds l.entries l.k
