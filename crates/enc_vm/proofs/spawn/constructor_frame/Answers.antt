use Rattle.std.proofs.Common.{sym}
use Rattle.enc_vm.proofs.Spawned.{no_constructor, constructor_begun}
use Rattle.enc_vm.proofs.spawn.constructor_frame.Goals as goal

pub returns-in-None : goal.returns-in-None
returns-in-None g c = λ s.
    no_constructor (g.V.ModuleView.users c.args.view.now) (g.V.ModuleView.meaning c.args.view.now) c.args.versions.now.methods s c.args.touched.now c.args.owner
    (sym c.if-has.ensures) (sym c.in-None.ensures)

pub returns-in-Some : goal.returns-in-Some
returns-in-Some g c = λ s.
    constructor_begun (g.V.ModuleView.users c.args.view.now) (g.V.ModuleView.meaning c.args.view.now) c.args.versions.now.methods s c.args.touched.now c.args.owner
    c.in-Some.constructor c.frame_now.result (sym c.if-has.ensures) (sym c.in-Some.ensures) c.frame_now.ensures
