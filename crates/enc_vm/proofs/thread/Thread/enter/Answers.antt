use Rattle.std.proofs.Common.{rules, ◌∙◌, sym, ap, arith}
use Rattle.std.specs.Prelude.{drop}
use Rattle.enc_versions.specs.Version.{Version}
use Rattle.enc_vm.proofs.Entered.{entered}
use Rattle.enc_vm.specs.Calls.{enter}
use Rattle.enc_frames.specs.Machine.{Thread}
use Rattle.enc_frames.specs.Straight.{moved_on}
use Rattle.enc_vm.specs.World.{Standing, world_in}
use Rattle.enc_vm.proofs.thread.Thread.enter.Goals as goal

-- src/enter.rt
pub returns : goal.returns
returns g c =
    let t : Thread Version = record { top = c.self.inside.top; below = c.self.inside.below; flight = c.self.inside.flight } in
    ap (λ (u : Thread Version). enter (world_in g.V.ModuleView.users g.V.ModuleView.meaning c.args.world.now) u
    (moved_on c.args.site.next (drop c.args.site.taken u.top.stack) u.top) c.args.method c.args.args.items) (sym c.self.view_is)
    ∙ ap (λ (w : Standing _). enter (world_in g.V.ModuleView.users g.V.ModuleView.meaning w) t
    (moved_on c.args.site.next (drop c.args.site.taken t.top.stack) t.top) c.args.method c.args.args.items) (sym c.world.view_is)
    ∙ entered (g.V.ModuleView.users c.world.inside.view.now) (g.V.ModuleView.meaning c.world.inside.view.now) c.world.inside.versions.now.methods t
    (moved_on c.args.site.next (drop c.args.site.taken c.self.inside.top.stack) c.self.inside.top) c.args.method c.args.args.items c.in-Some.code.now.value
    c.in_ok-frame.frame c.enter_call.new.top c.enter_call.new.self
    (sym c.in-Some.ensures.code)
    (omega (arith, c.if-len.false, c.len.ensures))
    (search rules)
    c.in_ok-enter_call.ensures.top
    c.in_ok-enter_call.ensures.below
