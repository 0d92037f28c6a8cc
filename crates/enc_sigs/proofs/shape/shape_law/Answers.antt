use Rattle.enc_sigs.proofs.Shared.{alike_have_one_shape}
use Rattle.enc_sigs.proofs.shape.shape_law.Goals as goal

pub returns : goal.returns
returns c = alike_have_one_shape
