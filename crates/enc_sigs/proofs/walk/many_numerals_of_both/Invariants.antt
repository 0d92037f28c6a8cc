use Rattle.std.proofs.Common.{◌≡◌, ◌-◌}
use Rattle.enc_sigs.specs.Grammar.{numeral_in}
use Rattle.enc_sigs.specs.Walk.{many_walk, alike_alone}
use Rattle.enc_sigs.proofs.walk.many_numerals_of_both.Given as goal

abbrev pub invariant-loop-i : goal.invariant-loop-i
invariant-loop-i l = many_walk (alike_alone (numeral_in l.fn.kind)) l.fn.count l.fn.a l.fn.b ≡ many_walk (alike_alone (numeral_in l.fn.kind)) (l.fn.count - l.i) l.a l.b
