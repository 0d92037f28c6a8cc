use Rattle.enc_watch.proofs.Counted.{hits_are_times_heard, hits_are_in_order}
use Rattle.enc_watch.proofs.laws.cover_laws.Goals as goal

pub returns-clause-times : goal.returns-clause-times
returns-clause-times c = hits_are_times_heard

pub returns-clause-order : goal.returns-clause-order
returns-clause-order c = hits_are_in_order
