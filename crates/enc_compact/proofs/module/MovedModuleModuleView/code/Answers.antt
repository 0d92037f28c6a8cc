use Rattle.std.proofs.Common.{Some, None, sym, ap, ◌∙◌}
use Rattle.enc_opcodes.specs.Body.{Body, body_of, code_seen}
use Rattle.enc_plain.specs.Cell.{body}
use Rattle.enc_compact.proofs.BodiesHeld.{code_at, code_moved, code_there}
use Rattle.enc_compact.proofs.SeenMoved.{cell_seen}
use Rattle.enc_compact.proofs.module.MovedModuleModuleView.code.Goals as goal

pub returns-in-Some-clause-body : goal.returns-in-Some-clause-body
returns-in-Some-clause-body g c =
    let m = g.V.ModuleView.meaning c.args.self.now in
    let texts = g.V.ModuleView.users c.args.self.now in
    let cell = rw c.lent.ensures.lent at c.code.ensures.body in
    let moved = code_moved m texts c.self.inside.bodies.held.items c.self.inside.bodies.slots.items c.old-old.result c.in-Some.code c.code.result
    c.moved-locals.result (code_seen c.code-in-Some.result) (rw c.self.view_is at c.self.invariant.bodies) c.old-old.ensures.there
    (c.old-old.ensures.table ∙ c.requires.table) cell c.in-Some.is c.moved-locals.ensures.moved c.code-in-Some.ensures.code in
    cell_seen m c.args.method 0 (body (Some (body_of texts (code_seen c.in-Some.code)))) c.lent.ensures.sound
    (rw c.old-old.ensures.old at (code_at _ texts c.code.result c.in-Some.code cell c.in-Some.is))
    ∙ ap (λ (b : Body). Some (body (Some b))) (sym moved)

pub returns-in-Some-clause-texts : goal.returns-in-Some-clause-texts
returns-in-Some-clause-texts g c =
    let m = g.V.ModuleView.meaning c.args.self.now in
    let texts = g.V.ModuleView.users c.args.self.now in
    let cell = rw c.lent.ensures.lent at c.code.ensures.body in
    code_there m texts c.self.inside.bodies.held.items c.self.inside.bodies.slots.items c.old-old.result c.in-Some.code c.code.result
    c.moved-locals.result (code_seen c.code-in-Some.result) (rw c.self.view_is at c.self.invariant.bodies) c.old-old.ensures.there
    (c.old-old.ensures.table ∙ c.requires.table) cell c.in-Some.is (rw c.lent.ensures.lent at c.in-Some.ensures.texts) c.code-in-Some.ensures.code

pub returns-in-None-clause-body : goal.returns-in-None-clause-body
returns-in-None-clause-body g c =
    cell_seen (g.V.ModuleView.meaning c.args.self.now) c.args.method 0 (body None) c.lent.ensures.sound
    (rw (c.lent.ensures.lent, c.old-old.ensures.old) at c.in-None.ensures.body)
