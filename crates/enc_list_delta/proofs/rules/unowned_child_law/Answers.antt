use Rattle.enc_list_delta.proofs.LogRules.{keeps_owners}
use Rattle.enc_list_delta.proofs.rules.unowned_child_law.Goals as goal

pub returns : goal.returns
returns c = keeps_owners
