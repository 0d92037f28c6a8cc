use Rattle.enc_merged_delta.proofs.LogEntries.{keeps_entries}
use Rattle.enc_merged_delta.proofs.rules.bad_entry_law.Goals as goal

pub returns : goal.returns
returns c = keeps_entries
