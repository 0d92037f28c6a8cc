use Rattle.std.proofs.Common.{rules, arith, ◌∙◌, sym, ap}
use Rattle.enc_opcodes.specs.Body.{Code, body_of}
use Rattle.enc_machine_types.specs.Members.{runs_body}
use Rattle.enc_versions.specs.Version.{Version}
use Rattle.enc_vm.proofs.Entered.{other_table_now, no_row_now, none_now, shapeless_now, unrun_now, run_now}
use Rattle.enc_vm.proofs.enter.code_now.Goals as goal

pub returns-then-method-ne-METHOD_DEF-clause-code : goal.returns-then-method-ne-METHOD_DEF-clause-code
returns-then-method-ne-METHOD_DEF-clause-code g c =
    sym (other_table_now (g.V.ModuleView.users c.args.view.now) (g.V.ModuleView.meaning c.args.view.now) c.args.versions.now.methods c.args.method c.if-method-ne-METHOD_DEF.true)

pub returns-then-not-is_row-clause-code : goal.returns-then-not-is_row-clause-code
returns-then-not-is_row-clause-code g c =
    sym (no_row_now (g.V.ModuleView.users c.args.view.now) (g.V.ModuleView.meaning c.args.view.now) c.args.versions.now.methods c.args.method (sym c.if-not-is_row.ensures))

-- src/enter.rt:35:9
pub returns-in_default-clause-code : goal.returns-in_default-clause-code
returns-in_default-clause-code g c =
    sym (none_now (g.V.ModuleView.users c.args.view.now) (g.V.ModuleView.meaning c.args.view.now) c.args.versions.now.methods c.args.method (sym c.in_default.ensures))

-- src/enter.rt:38:9
pub returns-in_default-method_shape-clause-code : goal.returns-in_default-method_shape-clause-code
returns-in_default-method_shape-clause-code g c =
    sym (shapeless_now (g.V.ModuleView.users c.args.view.now) (g.V.ModuleView.meaning c.args.view.now) c.args.versions.now.methods c.args.method
    (sym c.in_default-method_shape.ensures.shape))

-- src/enter.rt:42:9
pub returns-then-not-runs_body-clause-code : goal.returns-then-not-runs_body-clause-code
returns-then-not-runs_body-clause-code g c =
    let v : Version = c.in-Some.code.now.value in
    let same : _ = c.body.ensures.body ∙ ap (λ (x : Version). x.code) c.as_ref.ensures in
    sym (unrun_now (g.V.ModuleView.users c.args.view.now) (g.V.ModuleView.meaning c.args.view.now) c.args.versions.now.methods c.args.method v
    c.requires.versions (omega (arith, c.if-method-ne-METHOD_DEF.false)) (search rules) (sym c.in-Some.ensures)
    (sym (ap (λ (x : Code). runs_body (g.V.ModuleView.meaning c.args.view.now) (body_of (g.V.ModuleView.users c.args.view.now) x)) same) ∙ sym c.if-not-runs_body.ensures))

-- src/enter.rt:27:1
pub returns-clause-code : goal.returns-clause-code
returns-clause-code g c =
    let v : Version = c.in-Some.code.now.value in
    let same : _ = c.body.ensures.body ∙ ap (λ (x : Version). x.code) c.as_ref.ensures in
    sym (run_now (g.V.ModuleView.users c.args.view.now) (g.V.ModuleView.meaning c.args.view.now) c.args.versions.now.methods c.args.method v
    c.requires.versions (omega (arith, c.if-method-ne-METHOD_DEF.false)) (search rules) (sym c.in-Some.ensures)
    (search rules)
    (sym (ap (λ (x : Code). runs_body (g.V.ModuleView.meaning c.args.view.now) (body_of (g.V.ModuleView.users c.args.view.now) x)) same) ∙ sym c.if-not-runs_body.ensures))
