use Rattle.std.proofs.Common.{sym, ◌∙◌}
use Rattle.enc_il.proofs.Sections.{behind_is}
use Rattle.enc_unwind.specs.Search.{handlers_of}
use Rattle.enc_unwind.proofs.Found.{first_walked, nothing_found}
use Rattle.enc_unwind.proofs.walk.first_clause.Goals as goal

pub returns-in-None : goal.returns-in-None
returns-in-None g c =
    let test = g.T.ClauseTest.test c.args.test.now in
    sym (first_walked test (handlers_of c.args.sections.now) ∙ nothing_found test 0 c.args.sections.now (behind_is c.args.sections.now (sym c.in-None.ensures.behind)))

pub returns-in-Some : goal.returns-in-Some
returns-in-Some g c = c.first_in_sections.ensures ∙ sym (first_walked (g.T.ClauseTest.test c.args.test.now) (handlers_of c.args.sections.now))
