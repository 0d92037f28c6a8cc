use Rattle.std.proofs.Common.{◌≡◌, ◌≤◌, take}
use Rattle.enc_delta.specs.Rules.{inserts}
use Rattle.enc_delta.proofs.lists.inserts.Given as goal

abbrev pub invariant-loop-k : goal.invariant-loop-k
invariant-loop-k g l = record {
  number : l.n ≡ inserts (g.C.ChainView.chain l.chain) (take l.k l.listed) l.table;
  few : l.n ≤ l.k;
}
