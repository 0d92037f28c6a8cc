use Rattle.std.proofs.Common.{◌≡◌, ◌∙◌, sym, ap, Some, None}
use Rattle.enc_base.specs.declared.token.Token.{Token}
use Rattle.enc_vm.proofs.TouchedOn.{touched_by, makes_as}
use Rattle.enc_vm.specs.Calls.{declaring}
use Rattle.enc_vm.specs.ConstructSeen.{construct_made}
use Rattle.enc_vm.specs.TouchSeen.{first_touch}
use Rattle.enc_vm.specs.World.{Standing, world_in}
use Rattle.enc_vm.proofs.thread.Thread.touch_and_construct.Goals as goal

-- it isn't the first touch
pub returns-in-Ok-None : goal.returns-in-Ok-None
returns-in-Ok-None g c =
    let same : c.world.inside.view.now ≡ c.args.world.now.view = ap (λ (w : Standing _). w.view) c.world.view_is in
    makes_as _ _ _ _ _ _ _
    (touched_by (g.V.ModuleView.users c.args.world.now.view) (g.V.ModuleView.meaning c.args.world.now.view) c.args.world.now.methods c.args.self.now
    (declaring (g.V.ModuleView.meaning c.args.world.now.view) c.args.construction.now.method)
    (construct_made (world_in g.V.ModuleView.users g.V.ModuleView.meaning c.args.world.now) c.args.construction.now c.args.self.now)
    c.args.shared.now.objects c.args.shared.now.touched None
    (sym c.in-Ok-None.field-0-is ∙ c.in-Ok-None.ensures
    ∙ ap (λ (t : Token). first_touch (g.V.ModuleView.meaning c.world.inside.view.now) t c.args.shared.now.touched) c.declaring_in-owner.ensures.owner
    ∙ ap (λ (v : _). first_touch (g.V.ModuleView.meaning v) (declaring (g.V.ModuleView.meaning c.args.world.now.view) c.args.construction.now.method)
    c.args.shared.now.touched) same))
    (c.construct.ensures c.args.shared.now.touched)

-- it is
pub returns-in-Ok-Some : goal.returns-in-Ok-Some
returns-in-Ok-Some g c =
    let same : c.world.inside.view.now ≡ c.args.world.now.view = ap (λ (w : Standing _). w.view) c.world.view_is in
    makes_as _ _ _ _ _ _ _
    (touched_by (g.V.ModuleView.users c.args.world.now.view) (g.V.ModuleView.meaning c.args.world.now.view) c.args.world.now.methods c.args.self.now
    (declaring (g.V.ModuleView.meaning c.args.world.now.view) c.args.construction.now.method)
    (construct_made (world_in g.V.ModuleView.users g.V.ModuleView.meaning c.args.world.now) c.args.construction.now c.args.self.now)
    c.args.shared.now.objects c.args.shared.now.touched (Some c.in-Ok-Some.first)
    (sym c.in-Ok-Some.field-0-is ∙ c.in-Ok-Some.ensures
    ∙ ap (λ (t : Token). first_touch (g.V.ModuleView.meaning c.world.inside.view.now) t c.args.shared.now.touched) c.declaring_in-owner.ensures.owner
    ∙ ap (λ (v : _). first_touch (g.V.ModuleView.meaning v) (declaring (g.V.ModuleView.meaning c.args.world.now.view) c.args.construction.now.method)
    c.args.shared.now.touched) same))
    c.construct_first.ensures
