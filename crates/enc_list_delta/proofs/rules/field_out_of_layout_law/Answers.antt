use Rattle.enc_list_delta.proofs.MemberRules.{keeps_layout}
use Rattle.enc_list_delta.proofs.rules.field_out_of_layout_law.Goals as goal

pub returns : goal.returns
returns c = keeps_layout
