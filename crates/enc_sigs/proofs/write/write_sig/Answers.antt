use Rattle.std.proofs.Common.{rules}
use Rattle.enc_sigs.proofs.MovedTrees.{same_sig}
use Rattle.enc_sigs.proofs.write.write_sig.Goals as goal

pub returns-clause-written : goal.returns-clause-written
returns-clause-written c = rw (same_sig c.sig.inside.front, c.sig.view_is) at (c.write_whole.ensures (λ t. t) (λ t u p. search rules))
