use Rattle.std.proofs.Common.{◌≤◌, ◌^◌, arith}
use Rattle.enc_meta.proofs.Tied.{limit_few}
use Rattle.enc_meta.proofs.pool.Pool.end.Goals as goal

pub returns-clause-few : goal.returns-clause-few
returns-clause-few c = omega (arith, c.self.invariant.within, limit_few c.self.inside.form, c.word_law.ensures)
