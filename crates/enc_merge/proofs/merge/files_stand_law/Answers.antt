use Rattle.enc_merge.proofs.FilesOfBoth.{files_stand}
use Rattle.enc_merge.proofs.merge.files_stand_law.Goals as goal

pub returns : goal.returns
returns c = files_stand c.metadata_is_read_law.ensures c.merged_follows_law.ensures c.merged_means_law.ensures c.merged_is_named_law.ensures
