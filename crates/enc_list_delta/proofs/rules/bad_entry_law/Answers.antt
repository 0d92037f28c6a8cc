use Rattle.enc_list_delta.proofs.LogRules.{keeps_entries}
use Rattle.enc_list_delta.proofs.rules.bad_entry_law.Goals as goal

pub returns : goal.returns
returns c = keeps_entries
