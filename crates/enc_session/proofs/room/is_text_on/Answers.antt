use Rattle.std.proofs.Common.{rules, arith, refl}
use Rattle.enc_session.proofs.Short.{top_none, top_some}
use Rattle.enc_session.proofs.room.is_text_on.Goals as goal

pub returns-in-None-clause-text : goal.returns-in-None-clause-text
returns-in-None-clause-text c = rw (top_none c.args.stack.now (search rules)) refl

pub returns-in-None-clause-short : goal.returns-in-None-clause-short
returns-in-None-clause-short c = rw (top_none c.args.stack.now (search rules)) (omega arith)

pub returns-in-Some-clause-text : goal.returns-in-Some-clause-text
returns-in-Some-clause-text c = rw (top_some c.args.stack.now c.in-Some.value.now (search rules)) c.is_text.ensures.text

pub returns-in-Some-clause-short : goal.returns-in-Some-clause-short
returns-in-Some-clause-short c = rw (top_some c.args.stack.now c.in-Some.value.now (search rules)) c.is_text.ensures.short
