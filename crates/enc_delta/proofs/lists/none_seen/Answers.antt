use Rattle.enc_delta.proofs.ListsInserts.{zero_at}
use Rattle.enc_delta.proofs.lists.none_seen.Goals as goal

pub returns-clause-zeros : goal.returns-clause-zeros
returns-clause-zeros c = λ t. zero_at 256 t
