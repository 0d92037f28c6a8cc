use Rattle.std.proofs.Common.{sym}
use Rattle.enc_dispatch.proofs.slots.MoreSlots.new.Goals as goal

pub returns-clause-none : goal.returns-clause-none
returns-clause-none c = c.new.ensures

pub returns-clause-entries : goal.returns-clause-entries
returns-clause-entries c = λ q. rw c.new-2.ensures.items (sym (c.new.ensures q))

pub returns-clause-size : goal.returns-clause-size
returns-clause-size c = c.new-3.ensures.items
