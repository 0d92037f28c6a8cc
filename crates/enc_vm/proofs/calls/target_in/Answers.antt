use Rattle.std.proofs.Common.{◌≡◌, rules, ◌∙◌, sym, ap, subst, false, Option}
use Rattle.std.specs.Prelude.{option_and_then}
use Rattle.enc_base.specs.declared.token.Token.{Token}
use Rattle.enc_dispatch.specs.Index.{StandsForModule}
use Rattle.enc_dispatch.specs.Target.{target_of}
use Rattle.enc_plain.specs.Module.{has_row}
use Rattle.enc_vm.proofs.Called.{no_target}
use Rattle.enc_vm.specs.World.{Standing}
use Rattle.enc_vm.proofs.calls.target_in.Goals as goal

pub returns-then-not-is_row : goal.returns-then-not-is_row
returns-then-not-is_row g c =
    let same : c.world.inside.view.now ≡ c.args.world.now.view = ap (λ (w : Standing _). w.view) c.world.view_is in
    sym (no_target (g.V.ModuleView.meaning c.args.world.now.view) c.in-Some.class c.args.method
    (subst (λ (v : _). has_row (g.V.ModuleView.meaning v) c.in-Some.class ≡ false) same (sym c.if-not-is_row.ensures)))
    ∙ ap (λ (o : Option Token). option_and_then (λ (x : Token). target_of (g.V.ModuleView.meaning c.args.world.now.view) x c.args.method) o) (sym c.in-Some.is)

pub returns : goal.returns
returns g c =
    let same : c.world.inside.view.now ≡ c.args.world.now.view = ap (λ (w : Standing _). w.view) c.world.view_is in
    c.target.ensures (g.V.ModuleView.meaning c.args.world.now.view)
    (subst (λ (v : _). StandsForModule c.world.inside.dispatch.now (g.V.ModuleView.meaning v)) same c.world.invariant.stands) (search rules) c.requires.row
    ∙ ap (λ (o : Option Token). option_and_then (λ (x : Token). target_of (g.V.ModuleView.meaning c.args.world.now.view) x c.args.method) o) (sym c.in-Some.is)
