use Rattle.enc_list_delta.proofs.MapRules.{keeps_open}
use Rattle.enc_list_delta.proofs.rules.closed_table_law.Goals as goal

pub returns : goal.returns
returns c = keeps_open
