use Rattle.std.proofs.Common.{◌≡◌}
use Rattle.enc_merge.proofs.Guids.{entries_upto}
use Rattle.enc_merge.proofs.heaps.guids.Given as goal

abbrev pub invariant-loop-k : goal.invariant-loop-k
invariant-loop-k g l = l.bytes.items ≡ entries_upto (g.C.ChainView.chain l.chain).heaps l.k
