use Rattle.std.proofs.Common.{arith}
use Rattle.enc_objects.proofs.Storing.{none_in_order}
use Rattle.enc_objects.proofs.objects.Objects.field_at.Goals as goal

pub returns-in-None-clause-ordered : goal.returns-in-None-clause-ordered
returns-in-None-clause-ordered c = none_in_order c.args.self.now c.args.id (grind (arith, c.in-None.ensures))
