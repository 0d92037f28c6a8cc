use Rattle.std.proofs.Common.{sym, ◌∙◌}
use Rattle.enc_c.proofs.ClauseLists.{none_numbered}
use Rattle.enc_c.proofs.clauses.clauses_in_sections.Goals as goal

pub returns-in-None : goal.returns-in-None
returns-in-None c = c.new-all.ensures.items ∙ none_numbered c.args.sections.now (sym c.in-None.ensures.behind)
