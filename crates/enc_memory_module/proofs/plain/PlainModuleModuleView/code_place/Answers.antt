use Rattle.std.proofs.Common.{Some, refl, sym, ap, ◌∙◌}
use Rattle.std.specs.Prelude.{is_some}
use Rattle.enc_plain.specs.Cell.{body}
use Rattle.enc_plain.proofs.KindsOf.{row_bounds}
use Rattle.enc_memory_module.proofs.HeldBodies.{placed, not_none, none_in}
use Rattle.enc_memory_module.proofs.plain.PlainModuleModuleView.code_place.Goals as goal

pub returns-in-Some-clause-body : goal.returns-in-Some-clause-body
returns-in-Some-clause-body c =
    let cell = c.in-Some.ensures.body in
    rw (c.from.ensures, placed c.args.self.now.plain c.args.method _ c.requires.table cell) cell

pub returns-in-Some-clause-some : goal.returns-in-Some-clause-some
returns-in-Some-clause-some c =
    let cell = c.in-Some.ensures.body in
    rw (c.from.ensures, placed c.args.self.now.plain c.args.method _ c.requires.table cell, not_none c.args.method.row (row_bounds c.args.self.now.plain c.args.method c.requires.row).0) refl

pub returns-in-None-clause-body : goal.returns-in-None-clause-body
returns-in-None-clause-body c = c.in-None.ensures.body ∙ ap (λ b. Some (body b)) (sym (none_in c.args.self.now.plain))

pub returns-in-None-clause-some : goal.returns-in-None-clause-some
returns-in-None-clause-some c = ap is_some (none_in c.args.self.now.plain)
