use Rattle.enc_meta.proofs.Meanings.{example_reads, example_counts}
use Rattle.enc_meta.proofs.laws.example_root.Goals as goal

pub returns : goal.returns
returns c = record { root = example_reads; counted = example_counts }
