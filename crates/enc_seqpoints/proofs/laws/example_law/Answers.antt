use Rattle.enc_seqpoints.proofs.Examples.{example_reads, example_written}
use Rattle.enc_seqpoints.proofs.laws.example_law.Goals as goal

pub returns-clause-reads : goal.returns-clause-reads
returns-clause-reads c = example_reads

pub returns-clause-written : goal.returns-clause-written
returns-clause-written c = example_written
