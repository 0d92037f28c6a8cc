use Rattle.std.proofs.Common.{arith}
use Rattle.enc_delta.proofs.delta.Delta.counted_back.Goals as goal

pub returns : goal.returns
returns c = record {
  there = omega (arith, c.requires.within);
  table = rw c.token-found.ensures.at at c.if-found-token.false;
  row = rw c.token-found.ensures.at at c.if-found-token-2.false;
}
