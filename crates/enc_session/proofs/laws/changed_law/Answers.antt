use Rattle.enc_session.proofs.Changed.{accepted_rows_are_changed}
use Rattle.enc_session.proofs.laws.changed_law.Goals as goal

pub returns : goal.returns
returns c = accepted_rows_are_changed
