use Rattle.enc_merged_delta.proofs.ModuleRow.{is_named}
use Rattle.enc_merged_delta.proofs.laws.merged_is_named_law.Goals as goal

pub returns : goal.returns
returns c = is_named
