use Rattle.std.proofs.Common.{arith}
use Rattle.enc_text.proofs.Digits.{one_digit_more, digit_behind}
use Rattle.enc_text.proofs.within.+push_each_digit.Goals as goal

pub push_each_digit-requires : goal.push_each_digit-requires
push_each_digit-requires t c = (omega (arith, c.decreases), omega (arith, one_digit_more c.args.number c.if-number-lt10.false c.ranges.number.fits))

pub push_reserved-requires-2 : goal.push_reserved-requires-2
push_reserved-requires-2 t c = omega (arith, one_digit_more c.args.number c.if-number-lt10.false c.ranges.number.fits)

pub returns-clause-text : goal.returns-clause-text
returns-clause-text t c =
    digit_behind c.args.number _ _ _ c.if-number-lt10.false c.ranges.number.fits c.push_each_digit.ensures.text c.push_reserved-2.ensures.items

pub returns-clause-len : goal.returns-clause-len
returns-clause-len t c = omega (arith, one_digit_more c.args.number c.if-number-lt10.false c.ranges.number.fits)
