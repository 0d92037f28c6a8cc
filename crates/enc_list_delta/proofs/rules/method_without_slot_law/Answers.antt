use Rattle.enc_list_delta.proofs.MemberRules.{keeps_slots}
use Rattle.enc_list_delta.proofs.rules.method_without_slot_law.Goals as goal

pub returns : goal.returns
returns c = keeps_slots
