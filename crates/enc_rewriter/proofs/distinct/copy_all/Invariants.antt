use Rattle.std.proofs.Common.{◌≡◌, drop}
use Rattle.enc_rewriter.specs.Values.{with_all}
use Rattle.enc_rewriter.specs.Distinct.{borrowed}
use Rattle.enc_rewriter.proofs.distinct.copy_all.Given as goal

abbrev pub invariant-loop-value : goal.invariant-loop-value
invariant-loop-value l = with_all l.pass l.heaps (borrowed (drop l.value-index l.values)) ≡ with_all l.pass l.fn.heaps (borrowed l.values)
