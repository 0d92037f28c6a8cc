use Rattle.enc_delta.proofs.LeastTwin.{names_least_twin}
use Rattle.enc_delta.proofs.twins.twin_law.Goals as goal

pub returns : goal.returns
returns c = names_least_twin
