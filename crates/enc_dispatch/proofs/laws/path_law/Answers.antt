use Rattle.enc_dispatch.proofs.SlotLaws.{each_class_extends_itself}
use Rattle.enc_dispatch.proofs.laws.path_law.Goals as goal

pub returns : goal.returns
returns c = each_class_extends_itself
