use Rattle.std.proofs.Common.{refl}
use Rattle.enc_meta.proofs.Places.{with_kept}
use Rattle.enc_meta.proofs.Tied.{passes_kept}
use Rattle.enc_meta.proofs.pool.Pool.add.Goals as goal

pub returns-in-Some-clause-values : goal.returns-in-Some-clause-values
returns-in-Some-clause-values c = rw (with_kept _ c.args.value.now c.in-Some.ensures.found.0) refl

pub returns-in-Some-clause-refused : goal.returns-in-Some-clause-refused
returns-in-Some-clause-refused c = passes_kept _ _ _ _ _ c.in-Some.ensures.found.0
