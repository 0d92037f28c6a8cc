use Rattle.std.proofs.Common.{subst}
use Rattle.enc_versions.specs.Version.{Version}
use Rattle.enc_vm.proofs.Alone.{call_outside_in}
use Rattle.enc_frames.specs.FramesSeen.{shared_by}
use Rattle.enc_frames.specs.Console.{call_outside}
use Rattle.enc_vm.specs.EffectsSeen.{Performs}
use Rattle.enc_frames.specs.Machine.{Frame, Thread, version_world}
use Rattle.enc_vm.specs.World.{Standing}
use Rattle.enc_vm.proofs.thread.Thread.call_out.Goals as goal

pub returns : goal.returns
returns g c = λ methods touched.
    let t : Thread Version = record { top = c.self.inside.top; below = c.self.inside.below; flight = c.self.inside.flight } in
    let f : Frame Version = c.call_outside-written.new.frame in
    subst (λ (w : Standing _). Performs c.effect_of.result (shared_by c.call_outside-written.new.objects touched) (shared_by c.args.objects.now touched)
    (record t { top = f }) c.args.self.now
    (call_outside (version_world (g.V.ModuleView.users w.view) (g.V.ModuleView.meaning w.view) methods) c.args.call.null_check c.args.call.next
    c.args.call.member (shared_by c.args.objects.now touched) c.args.self.now))
    c.world.view_is
    (subst (λ (u : Thread Version). Performs c.effect_of.result (shared_by c.call_outside-written.new.objects touched) (shared_by c.args.objects.now touched)
    (record t { top = f }) u
    (call_outside (version_world (g.V.ModuleView.users c.world.inside.view.now) (g.V.ModuleView.meaning c.world.inside.view.now) methods)
    c.args.call.null_check c.args.call.next c.args.call.member (shared_by c.args.objects.now touched) u))
    c.self.view_is
    (c.effect_of.ensures c.call_outside-written.new.objects c.args.objects.now f touched t _
    (call_outside_in (g.V.ModuleView.users c.world.inside.view.now) (g.V.ModuleView.meaning c.world.inside.view.now) methods c.args.call.null_check
    c.args.call.next c.args.call.member c.call_outside-written.result c.call_outside-written.new.objects c.args.objects.now f touched t
    c.call_outside-written.ensures)))
