use Rattle.std.proofs.Common.{◌≡◌, ◌≤◌, length}
use Rattle.std.specs.Prelude.{drop, find}
use Rattle.enc_delta.specs.Rules.{counts}
use Rattle.enc_delta.proofs.lists.next_counting.Given as goal

abbrev pub invariant-loop-k : goal.invariant-loop-k
invariant-loop-k l = record {
  within : l.k ≤ length l.log;
  same : find counts (drop l.k l.log) ≡ find counts (drop l.from l.log);
}
