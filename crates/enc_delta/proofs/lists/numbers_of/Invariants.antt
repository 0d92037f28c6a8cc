use Rattle.std.proofs.Common.{◌≡◌, take, map}
use Rattle.enc_base.specs.Token.{number_of}
use Rattle.enc_delta.proofs.lists.numbers_of.Given as goal

abbrev pub invariant-loop-k : goal.invariant-loop-k
invariant-loop-k l = l.numbers.items ≡ map number_of (take l.k l.tokens)
