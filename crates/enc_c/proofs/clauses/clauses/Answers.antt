use Rattle.std.proofs.Common.{inl}
use Rattle.enc_opcodes.specs.Body.{code_seen}
use Rattle.enc_c.proofs.ClauseLists.{clauses_asked}
use Rattle.enc_c.proofs.clauses.clauses.Goals as goal

pub returns-in-Ok-clauses_in_sections : goal.returns-in-Ok-clauses_in_sections
returns-in-Ok-clauses_in_sections g c =
    let m = g.V.ModuleView.meaning c.args.view.now in
    inl (clauses_asked (g.V.ModuleView.users c.args.view.now) (code_seen c.in-Ok.code) m c.args.method _ c.in-Ok.ensures c.in-Ok-clauses_in_sections.ensures)
