use Rattle.enc_merged_delta.proofs.MembersSaid.{keeps_layout}
use Rattle.enc_merged_delta.proofs.rules.field_out_of_layout_law.Goals as goal

pub returns : goal.returns
returns c = keeps_layout
