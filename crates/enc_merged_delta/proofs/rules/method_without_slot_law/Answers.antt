use Rattle.enc_merged_delta.proofs.MembersSaid.{keeps_slots}
use Rattle.enc_merged_delta.proofs.rules.method_without_slot_law.Goals as goal

pub returns : goal.returns
returns c = keeps_slots
