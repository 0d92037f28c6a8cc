use Rattle.enc_list_delta.proofs.MapRules.{keeps_order}
use Rattle.enc_list_delta.proofs.rules.skipped_row_law.Goals as goal

pub returns : goal.returns
returns c = keeps_order
