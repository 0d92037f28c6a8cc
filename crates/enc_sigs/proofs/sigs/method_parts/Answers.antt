use Rattle.std.proofs.Common.{arith}
use Rattle.enc_sigs.proofs.Many.{parts_few}
use Rattle.enc_sigs.proofs.sigs.method_parts.Goals as goal

pub returns-clause-few : goal.returns-clause-few
returns-clause-few c = parts_few _ _ _ _ (rw c.new.ensures.items (omega arith)) c.parts.ensures
