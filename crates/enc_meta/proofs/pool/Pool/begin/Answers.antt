use Rattle.enc_meta.proofs.Tied.{tied_none}
use Rattle.enc_meta.proofs.pool.Pool.begin.Goals as goal

pub invariant_of-result : goal.invariant_of-result
invariant_of-result c = rw c.from.ensures (tied_none _ _ _ _ c.new.ensures.empty)
