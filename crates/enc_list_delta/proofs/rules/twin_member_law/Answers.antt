use Rattle.enc_list_delta.proofs.MemberRules.{keeps_twins}
use Rattle.enc_list_delta.proofs.rules.twin_member_law.Goals as goal

pub returns : goal.returns
returns c = keeps_twins
