use Rattle.enc_sigs.proofs.Spelled.{length_spellings}
use Rattle.enc_sigs.proofs.write.write_count_behind.Goals as goal

pub returns : goal.returns
returns c = rw (length_spellings, ← c.saturating_sub.ensures) c.write_number.ensures
