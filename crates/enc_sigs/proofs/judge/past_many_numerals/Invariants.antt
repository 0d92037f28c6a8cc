use Rattle.std.proofs.Common.{◌≡◌, ◌-◌}
use Rattle.enc_sigs.specs.Grammar.{many, numbered_in, numeral_in}
use Rattle.enc_sigs.specs.Reads.{left_after}
use Rattle.enc_sigs.proofs.judge.past_many_numerals.Given as goal

abbrev pub invariant-loop-i : goal.invariant-loop-i
invariant-loop-i l = left_after (many (numbered_in 0 (numeral_in l.fn.kind)) l.fn.count l.fn.bytes) ≡ left_after (many (numbered_in 0 (numeral_in l.fn.kind)) (l.fn.count - l.i) l.rest)
