use Rattle.enc_merged_delta.proofs.HeapLengths.{keeps_heaps}
use Rattle.enc_merged_delta.proofs.rules.heap_fault_law.Goals as goal

pub returns : goal.returns
returns c = keeps_heaps
