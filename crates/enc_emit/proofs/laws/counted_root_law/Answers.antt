use Rattle.enc_emit.proofs.Read.{counted_root_is_read}
use Rattle.enc_emit.proofs.laws.counted_root_law.Goals as goal

pub returns : goal.returns
returns c = counted_root_is_read
