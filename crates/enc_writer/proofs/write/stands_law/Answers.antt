use Rattle.enc_writer.proofs.FilesStand.{files_stand}
use Rattle.enc_writer.proofs.write.stands_law.Goals as goal

pub returns : goal.returns
returns c = files_stand c.deltas_are_read_law.ensures c.deltas_follow_law.ensures c.deltas_mean_law.ensures c.pdbs_follow_law.ensures c.pdbs_mean_law.ensures
