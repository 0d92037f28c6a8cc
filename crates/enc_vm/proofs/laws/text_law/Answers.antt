use Rattle.enc_vm.proofs.TextsKept.{more_texts}
use Rattle.enc_vm.proofs.laws.text_law.Goals as goal

pub returns : goal.returns
returns c = more_texts
