use Rattle.enc_delta.proofs.ListsLate.{late_end}
use Rattle.enc_delta.proofs.lists.least_late.Goals as goal

pub returns : goal.returns
returns c = late_end c.loop-rest.best c.loop-rest.bound c.loop-rest.rest.now c.args.listed.now c.loop-rest.invariant.same c.in_default.len_below
