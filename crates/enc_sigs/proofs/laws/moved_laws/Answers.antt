use Rattle.enc_sigs.proofs.Written.{any_reads}
use Rattle.enc_sigs.proofs.MovedFronts.{sig_begins, field_moves}
use Rattle.enc_sigs.proofs.laws.moved_laws.Goals as goal

pub returns-clause-back : goal.returns-clause-back
returns-clause-back c = λ f good test kind bytes s goes e.
    any_reads f good test kind bytes s c.written_laws.ensures.back c.written_laws.ensures.signed_back (λ n few is. goes n is) e

pub returns-clause-begins : goal.returns-clause-begins
returns-clause-begins c = sig_begins

pub returns-clause-field : goal.returns-clause-field
returns-clause-field c = field_moves c.written_laws.ensures.back c.written_laws.ensures.signed_back
