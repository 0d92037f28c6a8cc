use Rattle.std.proofs.Common.{◌≡◌, ◌-◌}
use Rattle.enc_sigs.specs.Grammar.{numeral_in}
use Rattle.enc_sigs.specs.Shape.{many_shape, number_shape}
use Rattle.enc_sigs.proofs.shape.many_numerals_shape.Given as goal

abbrev pub invariant-loop-i : goal.invariant-loop-i
invariant-loop-i l = many_shape (number_shape (numeral_in l.fn.kind)) l.fn.count l.fn.mix l.fn.bytes ≡ many_shape (number_shape (numeral_in l.fn.kind)) (l.fn.count - l.i) l.mix l.rest
