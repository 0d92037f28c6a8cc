use Rattle.enc_dispatch.proofs.SlotLaws.{slots_tell_methods}
use Rattle.enc_dispatch.proofs.laws.slot_law.Goals as goal

pub returns : goal.returns
returns c = slots_tell_methods
