use Rattle.enc_writer.proofs.PdbPoints.{points_can_be_written}
use Rattle.enc_writer.proofs.laws.points_law.Goals as goal

pub returns : goal.returns
returns c = points_can_be_written
