use Rattle.enc_list_delta.proofs.HeapRules.{keeps_heaps}
use Rattle.enc_list_delta.proofs.rules.heap_fault_law.Goals as goal

pub returns : goal.returns
returns c = keeps_heaps
