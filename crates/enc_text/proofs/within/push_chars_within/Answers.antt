use Rattle.std.proofs.Common.{sym, eqb-true}
use Rattle.enc_text.proofs.Characters.{characters_done}
use Rattle.enc_text.proofs.within.push_chars_within.Goals as goal

pub returns-clause-text : goal.returns-clause-text
returns-clause-text c = characters_done c.loop-rest.out.items _ c.loop-rest.rest.now (eqb-true _ _ (sym c.loop-rest-test.ensures)) c.loop-rest.invariant.text
