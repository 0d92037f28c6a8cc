use Rattle.std.proofs.Common.{sym}
use Rattle.std.proofs.lemmas.List.{reverse-reverse}
use Rattle.enc_session.proofs.states.push_stack.Goals as goal

pub returns : goal.returns
returns c = rw (sym c.stack.ensures, reverse-reverse) c.push_bracketed.ensures
