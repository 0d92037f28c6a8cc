use Rattle.enc_rewriter.proofs.ImagesMean.{images_mean}
use Rattle.enc_rewriter.proofs.laws.image_means_law.Goals as goal

pub returns : goal.returns
returns c = images_mean
