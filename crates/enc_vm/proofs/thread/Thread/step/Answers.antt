use Rattle.std.proofs.Common.{rules, sym, subst}
use Rattle.enc_versions.specs.Version.{Version}
use Rattle.enc_vm.proofs.UserTexts.{flight_step}
use Rattle.enc_vm.specs.EffectsSeen.{Turns}
use Rattle.enc_vm.specs.Step.{Stepped}
use Rattle.enc_vm.specs.SharedSeen.{shared_in}
use Rattle.enc_vm.proofs.thread.Thread.step.Goals as goal

pub returns-in-Some : goal.returns-in-Some
returns-in-Some g c =
    subst (λ (said : Stepped Version). Turns c.step_flight.result (shared_in c.args.shared.now)
    (shared_in c.args.shared.now) c.step_flight.new.self c.args.self.now said)
    (sym (flight_step (g.V.ModuleView.users c.args.world.now.view) (g.V.ModuleView.meaning c.args.world.now.view) c.args.world.now.methods
    (shared_in c.args.shared.now) c.args.self.now c.args.self.now.flight c.in-Some.flight (search rules)))
    (c.step_flight.ensures (shared_in c.args.shared.now))
