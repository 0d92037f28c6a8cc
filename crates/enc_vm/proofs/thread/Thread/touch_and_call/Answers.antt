use Rattle.std.proofs.Common.{◌≡◌, ◌∙◌, sym, ap, subst, true, Some, None}
use Rattle.enc_base.specs.declared.token.Token.{Token}
use Rattle.enc_vm.proofs.TouchedOn.{touches, makes_as}
use Rattle.enc_vm.specs.Calls.{call_touches, declaring}
use Rattle.enc_vm.specs.CallMade.{call_made}
use Rattle.enc_vm.specs.TouchSeen.{first_touch}
use Rattle.enc_vm.specs.World.{Standing, world_in}
use Rattle.enc_vm.proofs.thread.Thread.touch_and_call.Goals as goal

-- it isn't the first touch
pub returns-in-Ok-None : goal.returns-in-Ok-None
returns-in-Ok-None g c =
    let same : c.world.inside.view.now ≡ c.args.world.now.view = ap (λ (w : Standing _). w.view) c.world.view_is in
    makes_as _ _ _ _ _ _ _
    (touches (g.V.ModuleView.users c.args.world.now.view) (g.V.ModuleView.meaning c.args.world.now.view) c.args.world.now.methods c.args.self.now
    (declaring (g.V.ModuleView.meaning c.args.world.now.view) c.args.call.now.method)
    (call_made (world_in g.V.ModuleView.users g.V.ModuleView.meaning c.args.world.now) c.args.call.now c.args.self.now)
    c.args.shared.now.objects c.args.shared.now.touched (call_touches (g.V.ModuleView.meaning c.args.world.now.view) c.args.call.now.method) None
    (subst (λ (v : _). call_touches (g.V.ModuleView.meaning v) c.args.call.now.method ≡ true) same (sym c.if-not-call_touches.ensures))
    (sym c.in-Ok-None.field-0-is ∙ c.in-Ok-None.ensures
    ∙ ap (λ (t : Token). first_touch (g.V.ModuleView.meaning c.world.inside.view.now) t c.args.shared.now.touched) c.declaring_in-owner.ensures.owner
    ∙ ap (λ (v : _). first_touch (g.V.ModuleView.meaning v) (declaring (g.V.ModuleView.meaning c.args.world.now.view) c.args.call.now.method) c.args.shared.now.touched) same))
    (c.call_with-in-Ok-None.ensures c.args.shared.now.touched)

-- it is
pub returns-in-Ok-Some : goal.returns-in-Ok-Some
returns-in-Ok-Some g c =
    let same : c.world.inside.view.now ≡ c.args.world.now.view = ap (λ (w : Standing _). w.view) c.world.view_is in
    makes_as _ _ _ _ _ _ _
    (touches (g.V.ModuleView.users c.args.world.now.view) (g.V.ModuleView.meaning c.args.world.now.view) c.args.world.now.methods c.args.self.now
    (declaring (g.V.ModuleView.meaning c.args.world.now.view) c.args.call.now.method)
    (call_made (world_in g.V.ModuleView.users g.V.ModuleView.meaning c.args.world.now) c.args.call.now c.args.self.now)
    c.args.shared.now.objects c.args.shared.now.touched (call_touches (g.V.ModuleView.meaning c.args.world.now.view) c.args.call.now.method)
    (Some c.in-Ok-Some.first)
    (subst (λ (v : _). call_touches (g.V.ModuleView.meaning v) c.args.call.now.method ≡ true) same (sym c.if-not-call_touches.ensures))
    (sym c.in-Ok-Some.field-0-is ∙ c.in-Ok-Some.ensures
    ∙ ap (λ (t : Token). first_touch (g.V.ModuleView.meaning c.world.inside.view.now) t c.args.shared.now.touched) c.declaring_in-owner.ensures.owner
    ∙ ap (λ (v : _). first_touch (g.V.ModuleView.meaning v) (declaring (g.V.ModuleView.meaning c.args.world.now.view) c.args.call.now.method) c.args.shared.now.touched) same))
    c.call_first.ensures
