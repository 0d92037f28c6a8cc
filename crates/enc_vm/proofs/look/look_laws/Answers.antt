use Rattle.enc_vm.proofs.LooksMeant.{frames_look_alike}
use Rattle.enc_vm.proofs.look.look_laws.Goals as goal

pub returns-clause-frames : goal.returns-clause-frames
returns-clause-frames c = frames_look_alike
