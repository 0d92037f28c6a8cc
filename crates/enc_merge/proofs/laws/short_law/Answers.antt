use Rattle.enc_merge.proofs.ShortRead.{short_read}
use Rattle.enc_merge.proofs.laws.short_law.Goals as goal

pub returns : goal.returns
returns c = short_read
