use Rattle.std.proofs.Common.{arith}
use Rattle.enc_text.proofs.Characters.{three_bytes}
use Rattle.enc_text.proofs.within.lone_char.Goals as goal

pub returns-in-Some-clause-small : goal.returns-in-Some-clause-small
returns-in-Some-clause-small c = three_bytes c.in-Some.c (omega (arith, c.in-Some.ensures.value.1, c.from.ensures, c.ranges.unit.fits))

pub returns-in-None-clause-small : goal.returns-in-None-clause-small
returns-in-None-clause-small c = three_bytes 0xFFFD (omega arith)
