use Rattle.enc_merged_delta.proofs.MapRules.{keeps_even}
use Rattle.enc_merged_delta.proofs.rules.uneven_table_law.Goals as goal

pub returns : goal.returns
returns c = keeps_even
