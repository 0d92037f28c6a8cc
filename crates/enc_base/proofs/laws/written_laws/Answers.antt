use Rattle.enc_base.proofs.Signed.{signed_shortest}
use Rattle.enc_base.proofs.laws.written_laws.Goals as goal

pub returns-clause-signed_shortest : goal.returns-clause-signed_shortest
returns-clause-signed_shortest c = signed_shortest
