use Rattle.enc_merge.proofs.MetadataRead.{metadata_is_read}
use Rattle.enc_merge.proofs.metadata.metadata_is_read_law.Goals as goal

pub returns : goal.returns
returns c = metadata_is_read
