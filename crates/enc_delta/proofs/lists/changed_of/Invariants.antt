use Rattle.std.proofs.Common.{◌≡◌, take}
use Rattle.enc_delta.specs.Lists.{AreTokens}
use Rattle.enc_delta.specs.Rules.{changed}
use Rattle.enc_delta.proofs.lists.changed_of.Given as goal

abbrev pub invariant-loop-k : goal.invariant-loop-k
invariant-loop-k l = record {
  rows : AreTokens l.tokens.items;
  same : l.tokens.items ≡ changed (take l.k l.log);
}
