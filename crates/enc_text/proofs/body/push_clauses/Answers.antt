use Rattle.std.proofs.Common.{sym}
use Rattle.enc_text.proofs.BodyLists.{no_lines}
use Rattle.enc_text.proofs.body.push_clauses.Goals as goal

pub returns-in-None : goal.returns-in-None
returns-in-None c = no_lines c.args.sections.now _ (sym c.in-None.ensures.behind)
