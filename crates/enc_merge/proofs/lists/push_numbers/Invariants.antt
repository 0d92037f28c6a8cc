use Rattle.std.proofs.Common.{◌≡◌, ◌++◌, map, take}
use Rattle.enc_base.specs.Token.{number_of}
use Rattle.enc_merge.proofs.lists.push_numbers.Given as goal

abbrev pub invariant-loop-k : goal.invariant-loop-k
invariant-loop-k l = l.numbers.items ≡ l.fn.numbers.items ++ map number_of (take l.k l.tokens.items)
