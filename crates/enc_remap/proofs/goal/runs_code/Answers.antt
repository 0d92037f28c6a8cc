use Rattle.std.proofs.Common.{rules, ◌≡◌, true, false, ◌&&◌, sym, ap, ◌∙◌}
use Rattle.std.specs.Prelude.{is_some}
use Rattle.enc_machine_types.specs.Members.{call_shape, runs_body}
use Rattle.enc_opcodes.specs.Body.{body_of, code_seen}
use Rattle.enc_remap.proofs.Rules.{body_runs}
use Rattle.enc_remap.proofs.goal.runs_code.Goals as goal

pub returns-then-is_some : goal.returns-then-is_some
returns-then-is_some g c =
    let m = g.V.ModuleView.meaning c.args.view.now in
    let b = body_of (g.V.ModuleView.users c.args.view.now) (code_seen c.args.code.now) in
    let shape : is_some (call_shape m c.args.method) ≡ true = search rules in
    let body : c.runs_body.result ≡ runs_body m b = search rules in
    body ∙ sym (body_runs m c.args.method b c.requires.body ∙ ap (λ (s : _). s && runs_body m b) shape)

pub returns-else-is_some : goal.returns-else-is_some
returns-else-is_some g c =
    let m = g.V.ModuleView.meaning c.args.view.now in
    let b = body_of (g.V.ModuleView.users c.args.view.now) (code_seen c.args.code.now) in
    let shape : is_some (call_shape m c.args.method) ≡ false = search rules in
    c.if-is_some.false ∙ sym (body_runs m c.args.method b c.requires.body ∙ ap (λ (s : _). s && runs_body m b) shape)
