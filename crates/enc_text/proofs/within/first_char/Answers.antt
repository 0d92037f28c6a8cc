use Rattle.std.proofs.Common.{arith}
use Rattle.enc_text.proofs.Characters.{pair_front, lone_front, one_alone, four_bytes}
use Rattle.enc_text.proofs.within.first_char.Goals as goal

pub returns-in-len1-clause-text : goal.returns-in-len1-clause-text
returns-in-len1-clause-text c = one_alone c.args.units.now c.lone_char.result c.in-len1.len_at_least c.in-len1.len_below c.lone_char.ensures.char

pub returns-in-Some-clause-text : goal.returns-in-Some-clause-text
returns-in-Some-clause-text c = pair_front c.args.units.now c.in-Some.c c.in-len2-up.len_at_least c.in-Some.ensures

pub returns-in-Some-clause-room : goal.returns-in-Some-clause-room
returns-in-Some-clause-room c = grind (arith, four_bytes)

pub returns-in-None-clause-text : goal.returns-in-None-clause-text
returns-in-None-clause-text c =
    lone_front c.args.units.now c.lone_char-in-None.result c.in-len2-up.len_at_least c.in-None.ensures c.lone_char-in-None.ensures.char
