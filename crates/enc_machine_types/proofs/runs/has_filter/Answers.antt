use Rattle.std.proofs.Common.{sym}
use Rattle.enc_il.proofs.Sections.{behind_is}
use Rattle.enc_machine_types.specs.Filters.{filters}
use Rattle.enc_machine_types.proofs.FilterClauses.{none_whole}
use Rattle.enc_machine_types.proofs.runs.has_filter.Goals as goal

pub returns-in-None : goal.returns-in-None
returns-in-None c = none_whole filters c.args.code.now.sections.now (behind_is c.args.code.now.sections.now (sym c.in-None.ensures.behind))
