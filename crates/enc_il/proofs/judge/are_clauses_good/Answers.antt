use Rattle.std.proofs.Common.{sym, refl}
use Rattle.enc_il.proofs.Sections.{behind_is, clauses_none}
use Rattle.enc_il.proofs.judge.are_clauses_good.Goals as goal

pub returns-in-None : goal.returns-in-None
returns-in-None c = rw (clauses_none c.args.code.now.sections.now (behind_is c.args.code.now.sections.now (sym c.in-None.ensures.behind))) refl
