use Rattle.std.proofs.Common.{◌≡◌, ◌≤◌, take}
use Rattle.enc_delta.specs.Rules.{adds}
use Rattle.enc_delta.proofs.lists.adds.Given as goal

abbrev pub invariant-loop-k : goal.invariant-loop-k
invariant-loop-k l = record {
  number : l.n ≡ adds (take l.k l.log) l.code;
  few : l.n ≤ l.k;
}
