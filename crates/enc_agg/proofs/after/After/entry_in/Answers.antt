use Rattle.enc_agg.proofs.Next.{heaps_next}
use Rattle.enc_agg.proofs.after.After.entry_in.Goals as goal

pub entry_after-requires : goal.entry_after-requires
entry_after-requires c = record { tied = c.self.invariant.added.before }

pub returns : goal.returns
returns c = rw (← c.self.view_is, heaps_next) (rw c.heaps.ensures at c.entry_after.ensures)
