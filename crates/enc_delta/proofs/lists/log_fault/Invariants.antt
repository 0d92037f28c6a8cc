use Rattle.enc_delta.proofs.ListsLog.{Logged}
use Rattle.enc_delta.proofs.lists.log_fault.Given as goal

abbrev pub invariant-loop-k : goal.invariant-loop-k
invariant-loop-k g l = Logged (g.C.ChainView.chain l.chain) l.listed l.log l.pairs l.k
