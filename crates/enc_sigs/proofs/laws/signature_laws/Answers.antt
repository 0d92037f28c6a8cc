use Rattle.enc_sigs.proofs.Written.{written_reads}
use Rattle.enc_sigs.proofs.Wider.{sig_keeps}
use Rattle.enc_sigs.proofs.Named.{coded_names, counted_names}
use Rattle.enc_sigs.proofs.laws.signature_laws.Goals as goal

pub returns-clause-back : goal.returns-clause-back
returns-clause-back c = written_reads c.written_laws.ensures.back c.written_laws.ensures.signed_back

pub returns-clause-tests : goal.returns-clause-tests
returns-clause-tests c = (coded_names, counted_names)

pub returns-clause-wider : goal.returns-clause-wider
returns-clause-wider c = sig_keeps
