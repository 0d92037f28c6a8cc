use Rattle.enc_merged_delta.proofs.LogEntries.{keeps_owners}
use Rattle.enc_merged_delta.proofs.rules.unowned_child_law.Goals as goal

pub returns : goal.returns
returns c = keeps_owners
