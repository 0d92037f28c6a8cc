use Rattle.enc_seqpoints.proofs.Blobs.{blob_back}
use Rattle.enc_seqpoints.proofs.Written.{read_good}
use Rattle.enc_seqpoints.proofs.Named.{first_named}
use Rattle.enc_seqpoints.proofs.laws.point_laws.Goals as goal

pub returns-clause-back : goal.returns-clause-back
returns-clause-back c = blob_back c.written_laws.ensures.back c.written_laws.ensures.signed_back

pub returns-clause-read : goal.returns-clause-read
returns-clause-read c = read_good

pub returns-clause-named : goal.returns-clause-named
returns-clause-named c = first_named read_good
