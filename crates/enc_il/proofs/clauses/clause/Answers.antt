use Rattle.std.proofs.Common.{sym, ap}
use Rattle.std.specs.Prelude.{slice_get}
use Rattle.enc_il.proofs.Sections.{clauses_none, behind_is}
use Rattle.enc_il.proofs.clauses.clause.Goals as goal

pub returns-in-None : goal.returns-in-None
returns-in-None c =
    let none = clauses_none c.args.code.now.sections.now (behind_is c.args.code.now.sections.now (sym c.in-None.ensures.behind)) in
    sym (ap (λ xs. slice_get xs c.args.i) none)
