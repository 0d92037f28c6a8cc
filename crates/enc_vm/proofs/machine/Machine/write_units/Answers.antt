use Rattle.enc_vm.proofs.Written.{turn_within}
use Rattle.enc_frames.specs.Machine.{version_world}
use Rattle.enc_vm.proofs.machine.Machine.write_units.Goals as goal

pub returns : goal.returns
returns g c users methods =
    turn_within (version_world users (g.V.ModuleView.meaning c.args._view.now) methods) c.args.task c.args.self.now c.room.result
    (c.room.ensures users (g.V.ModuleView.meaning c.args._view.now) methods)
