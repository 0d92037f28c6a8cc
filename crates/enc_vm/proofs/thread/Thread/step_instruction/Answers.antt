use Rattle.std.proofs.Common.{rules}
use Rattle.enc_vm.proofs.StepTurns.{made_turn, trap_made, trapped_turn}
use Rattle.enc_vm.specs.SharedSeen.{shared_in}
use Rattle.enc_vm.proofs.thread.Thread.step_instruction.Goals as goal

pub returns-in-Ok : goal.returns-in-Ok
returns-in-Ok g c =
    made_turn _ c.line-line.result (shared_in c.advance.new.shared) (shared_in c.args.shared.now) c.advance.new.self c.args.self.now _
    c.in-Ok.effect _ c.in-Ok.ensures
    (c.line-line.ensures (g.V.ModuleView.users c.args.world.now.view) (g.V.ModuleView.meaning c.args.world.now.view) c.args.world.now.methods)
    (c.came_to.ensures (shared_in c.advance.new.shared) c.advance.new.self)

pub returns-in-Err-Trap : goal.returns-in-Err-Trap
returns-in-Err-Trap g c =
    let why : _ = trap_made c.in-Err-Trap.field-0 c.in-Err-Trap.trap (shared_in c.advance.new.shared)
    (shared_in c.args.shared.now) c.advance.new.self c.args.self.now _ (search rules) c.in-Err-Trap.ensures in
    trapped_turn _ c.line-line.result (shared_in c.advance.new.shared) (shared_in c.args.shared.now) c.advance.new.self c.args.self.now _
    c.in-Err-Trap.trap _ why.0 why.1 why.2
    (c.line-line.ensures (g.V.ModuleView.users c.args.world.now.view) (g.V.ModuleView.meaning c.args.world.now.view) c.args.world.now.methods)
    (c.trapped_at.ensures (shared_in c.advance.new.shared) c.advance.new.self)
