use Rattle.enc_list_delta.proofs.RowRules.{keeps_offsets}
use Rattle.enc_list_delta.proofs.rules.bad_offset_law.Goals as goal

pub returns : goal.returns
returns c = keeps_offsets
