use Rattle.std.proofs.Common.{rules, Result, sym, subst}
use Rattle.enc_objects.specs.declared.trap.Trap.{Trap}
use Rattle.enc_versions.specs.Version.{Version}
use Rattle.enc_vm.proofs.UserTexts.{user_text}
use Rattle.enc_frames.specs.FramesSeen.{shared_by}
use Rattle.enc_vm.specs.EffectsSeen.{Performs}
use Rattle.enc_frames.specs.Results.{Made}
use Rattle.enc_vm.specs.SharedSeen.{shared_in}
use Rattle.enc_vm.proofs.thread.Thread.perform.Goals as goal

pub returns-in-User : goal.returns-in-User
returns-in-User g c =
    subst (λ (said : Result (Made Version) Trap). Performs c.load_user.result (shared_by c.load_user.new.objects c.args.shared.now.touched)
    (shared_in c.args.shared.now) c.load_user.new.self c.args.self.now said)
    (sym (user_text (g.V.ModuleView.users c.args.world.now.view) (g.V.ModuleView.meaning c.args.world.now.view) c.args.world.now.methods
    c.args.next c.in-User.offset c.args.instr.op c.args.instr.arg (shared_in c.args.shared.now) c.args.self.now (search rules)))
    (c.load_user.ensures c.args.world.now.methods c.args.shared.now.touched)
