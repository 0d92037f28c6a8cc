use Rattle.enc_delta.proofs.ListsInserts.{Seen}
use Rattle.enc_delta.proofs.lists.insert_fault.Given as goal

abbrev pub invariant-loop-k : goal.invariant-loop-k
invariant-loop-k g l = Seen (g.C.ChainView.chain l.chain) l.listed l.seen l.k
