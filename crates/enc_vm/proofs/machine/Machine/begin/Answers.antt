use Rattle.std.proofs.Common.{refl}
use Rattle.enc_vm.specs.Texts.{machine_texts}
use Rattle.enc_vm.proofs.machine.Machine.begin.Goals as goal

pub returns-clause-texts : goal.returns-clause-texts
unfolding machine_texts
returns-clause-texts c users = rw c.new.ensures.items refl
