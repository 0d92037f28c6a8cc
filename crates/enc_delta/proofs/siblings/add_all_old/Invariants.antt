use Rattle.std.proofs.Common.{take}
use Rattle.enc_delta.proofs.MembersBeside.{Adding}
use Rattle.enc_delta.proofs.siblings.add_all_old.Given as goal

abbrev pub invariant-loop-k : goal.invariant-loop-k
invariant-loop-k g l = Adding (g.C.ChainView.chain l.chain).plain l.fn.all.items (take l.k l.pairs) l.last l.all.items
