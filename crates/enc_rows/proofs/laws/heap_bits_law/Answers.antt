use Rattle.enc_rows.proofs.HeapBits.{heap_bits_fit}
use Rattle.enc_rows.proofs.laws.heap_bits_law.Goals as goal

pub returns : goal.returns
returns c = heap_bits_fit
