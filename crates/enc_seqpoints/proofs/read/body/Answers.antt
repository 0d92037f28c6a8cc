use Rattle.std.proofs.Common.{length}
use Rattle.enc_seqpoints.proofs.Rising.{records_rising}
use Rattle.enc_seqpoints.proofs.read.body.Goals as goal

pub invariant_of-result : goal.invariant_of-result
invariant_of-result c = records_rising (length c.in-Some.rest.now) c.opened.result c.in-Some.rest.now c.in_ok-items.items.items c.in_ok-items.ensures
