use Rattle.enc_merged_delta.proofs.TableRule.{keeps_open}
use Rattle.enc_merged_delta.proofs.rules.closed_table_law.Goals as goal

pub returns : goal.returns
returns c = keeps_open
