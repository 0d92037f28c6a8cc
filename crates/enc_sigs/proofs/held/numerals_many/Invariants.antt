use Rattle.std.proofs.Common.{◌≡◌, ◌-◌}
use Rattle.enc_sigs.specs.Grammar.{numbered_in, numeral_in, many}
use Rattle.enc_sigs.specs.Reads.{behind}
use Rattle.enc_sigs.proofs.held.numerals_many.Given as goal

abbrev pub invariant-loop-i : goal.invariant-loop-i
invariant-loop-i l = many (numbered_in 0 (numeral_in l.fn.kind)) l.fn.count l.fn.bytes ≡ behind l.kids.items (many (numbered_in 0 (numeral_in l.fn.kind)) (l.fn.count - l.i) l.rest)
